-- What is measured, as the definition has it.
use Rattle.std.proofs.Common.{◌≡◌, Bool, true, false, Option, Some, None, nat_le, if◌then◌else◌, refl}
use Rattle.ec_ctypes.specs.declared.types.sizes.Shape.{Shape}
use Rattle.ec_resolving_defs.specs.Conversions.{within_limit}
use Rattle.ec_scopes.specs.declared.measures.Measure.TheVariants.{Within, TooLarge}
use Rattle.ec_scopes.specs.Measures.{measured}
use Rattle.ec_typing_defs.specs.Worlds.{max_size}
use Rattle.ec_resolve_forms.specs.Readings.{shape_by}

pub shape_measured : (o : Option Shape) → shape_by (measured o) ≡ within_limit o
shape_measured None = refl
shape_measured (Some s) = by (nat_le s.size max_size)
  where
    by : (b : Bool) → shape_by (if b then Within s else TooLarge) ≡ (if b then Some s else None)
    by true = refl
    by false = refl
