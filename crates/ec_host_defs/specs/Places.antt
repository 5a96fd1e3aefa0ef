-- A leaf as the library is given it: symbol, pointer, length, number of elements, distance, and the same of its indicator (PostgreSQL manual, 36.17).
use Rattle.std.specs.Prelude.{ℕ, Bool, true, false, List, [], ◌∷◌, codes, Option, Some, None}
use Rattle.ec_ctypes.specs.declared.types.arith.Arith.TheVariants.{Int}
use Rattle.ec_ctypes.specs.declared.tree.expr.UnOp.TheVariants.{Addr}
use Rattle.ec_ctypes.specs.declared.checked.library.Sym.TheVariants.{Const, Descriptor, NoIndicator}
use Rattle.ec_ctypes.specs.trees.Types.{TyData, arithmetic, array, structure, StructData}
use Rattle.ec_ctypes.specs.trees.Exprs.{ExprData, integer, string, identifier, unary, index, member}
use Rattle.ec_ctypes.specs.trees.Checked.{IndicatorData, PlaceData}
use Rattle.ec_ctypes.specs.Layout.{shape_of, limited}
use Rattle.ec_language.specs.Letters.{Text}
use Rattle.ec_host_defs.specs.Elements.{Symbol, symbol_of}
use Rattle.ec_host_defs.specs.Leaves.{Path, LeafData, Pair}

-- ---- the pointer

-- in an array of structs, the first one
abbrev pub first_of_array : Bool → ExprData → ExprData
first_of_array true e = index e (integer 0 (arithmetic Int))
first_of_array false e = e

abbrev pub member_of : ExprData → Text → ExprData
member_of e name = member e name

abbrev pub along : ExprData → Path → ExprData
along e [] = e
along e (step ∷ path) = along (member_of e step.1) path

abbrev pub address : ExprData → ExprData
address e = unary Addr e

-- an array is its own pointer
abbrev pub pointer_to : TyData → ExprData → ExprData
pointer_to (array t n) e = e
pointer_to _ e = address e

-- the pointer to a leaf of the host that is written so
abbrev pub leaf_pointer : ExprData → LeafData → ExprData
leaf_pointer e l = pointer_to l.whole (along (first_of_array l.in_first e) l.path)

-- ---- the numbers

-- 0 where it has no size within the limit
abbrev pub size_of : List StructData → TyData → ℕ
size_of structs t = elim (limited (shape_of structs t)) [ None ↦ 0 | Some shape ↦ shape.size ]

abbrev pub symbol_or_none : Option Symbol → Symbol
symbol_or_none None = (NoIndicator, 0)
symbol_or_none (Some s) = s

abbrev pub symbol_in : List StructData → LeafData → Symbol
symbol_in structs l = symbol_or_none (symbol_of structs l.element)

abbrev pub indicator_place : List StructData →
    Option ExprData → Option LeafData → Option IndicatorData
indicator_place structs None l = None
indicator_place structs (Some e) None = None
indicator_place structs (Some e) (Some l) =
    Some ((symbol_in structs l).0, leaf_pointer e l, l.count, size_of structs l.apart)

-- a leaf of this host, and that of this indicator
abbrev pub leaf_place : List StructData → ExprData → Option ExprData → Pair → PlaceData
leaf_place structs e i p = record {
  sym = (symbol_in structs p.0).0;
  value = leaf_pointer e p.0;
  size = (symbol_in structs p.0).1;
  count = p.0.count;
  step = size_of structs p.0.apart;
  ind = indicator_place structs i p.1;
}

-- ---- what is no host

abbrev pub constant_place : Text → PlaceData
constant_place bytes =
    record { sym = Const; value = string bytes; size = 0; count = 1; step = 0; ind = None }

abbrev pub descriptor_place : ExprData → PlaceData
descriptor_place name =
    record { sym = Descriptor; value = name; size = 1; count = 1; step = 1; ind = None }

-- the pointer to a text: of a VARCHAR that to its characters
abbrev pub text_pointer : Option TyData → ExprData → ExprData
text_pointer (Some (structure k)) e = member e (codes "arr")
text_pointer _ e = e

abbrev pub no_text : ExprData
no_text = identifier (codes "NULL")
