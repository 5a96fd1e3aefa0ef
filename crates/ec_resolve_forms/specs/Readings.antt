-- How the value behind an expression is had, and sizes.
use Rattle.std.specs.Prelude.{Option, Some, None}
use Rattle.ec_ctypes.specs.declared.types.sizes.Shape.{Shape}
use Rattle.ec_memory_defs.specs.Kinds.{kind_type}
use Rattle.ec_meaning_defs.specs.resolved.Resolved.{Exp, load, whole, faulty}
use Rattle.ec_resolve_values.specs.conversions.Forms.{converted}
use Rattle.ec_scopes.specs.declared.measures.Measure.{Measure}
use Rattle.ec_scopes.specs.declared.measures.Measure.TheVariants.{Unknown, Within, TooLarge}
use Rattle.ec_resolve_forms.specs.declared.casts.Casting.{Casting}
use Rattle.ec_resolve_forms.specs.declared.values.Reading.{Reading}
use Rattle.ec_resolve_forms.specs.declared.values.Reading.TheVariants.{Kept, Loaded, Whole, Missing}

abbrev pub read_by : Reading → Exp → Exp
read_by Kept e = e
read_by (Loaded kind) e = load (kind_type kind) e
read_by (Whole size) e = whole size e
read_by Missing e = faulty

-- an expression that is read, and then converted
abbrev pub cast_by : Casting → Exp → Exp
cast_by c e = converted c.conversion (read_by c.reading e)

-- the shape of what is measured so, if it is within the limit
abbrev pub shape_by : Measure → Option Shape
shape_by Unknown = None
shape_by (Within shape) = Some shape
shape_by TooLarge = None
