-- What the rules of the checks say of resolved forms: where they give a type, the form is of its sort.
use Rattle.std.specs.Prelude.{◌≡◌, ℕ, Bool, true, false, ◌⊎◌, List, [], ◌∷◌, Some, is_some, map}
use Rattle.ec_ctypes.specs.declared.tree.expr.BinOp.{BinOp}
use Rattle.ec_ctypes.specs.declared.tree.expr.UnOp.{UnOp}
use Rattle.ec_ctypes.specs.trees.Types.{TyData}
use Rattle.ec_ctypes.specs.declared.tree.expr.BinOp.TheVariants.{Add, Sub, Mul, Div, Rem, Shl, Shr, BitAnd, BitXor, BitOr}
use Rattle.ec_ctypes.specs.declared.tree.expr.UnOp.TheVariants.{Plus, Minus, Not, Flip}
use Rattle.ec_ctypes.specs.declared.checked.library.LibName.{LibName}
use Rattle.ec_ctypes.specs.trees.Exprs.{ExprData, identifier, ExprList, no_exprs, exprs}
use Rattle.ec_ctypes.specs.Texts.{symbol_text}
use Rattle.ec_language.specs.Letters.{Text}
use Rattle.ec_typing_defs.specs.Known.{symbols, plain, known_function}
use Rattle.ec_typing_defs.specs.Tables.{find}
use Rattle.ec_typing_defs.specs.Library.{cuts, named_among}
use Rattle.ec_typing_defs.specs.Operands.{unary_type, types_of}
use Rattle.ec_typing_defs.specs.Types.{binary_type, element_type, is_assignable, is_compound, is_scalar}
use Rattle.ec_typing_defs.specs.Worlds.{World}
use Rattle.ec_meaning_defs.specs.resolved.Resolved.{Exp}
use Rattle.ec_resolving_defs.specs.Conversions.{binary_exp, element_exp, as_type, read_at, unary_exp, assigned, compound}
use Rattle.ec_meaning_defs.specs.functions.Functions.{Known}
use Rattle.ec_resolving_defs.specs.Operands.{Found, operands_of, arguments_of_call, plain_functions}
use Rattle.ec_sound_defs.specs.Sorts.{address_sort, known_takes, known_gives}
use Rattle.ec_sound_defs.specs.Sound.{Signature, Atoms, Has}
use Rattle.ec_sound_defs.specs.Written.{IsCall}
use Rattle.ec_sound_defs.specs.Types.{type_sort}

-- the operators of compound assignments, and the unary ones that give values
abbrev pub assigns : BinOp → Bool
assigns Add = true
assigns Sub = true
assigns Mul = true
assigns Div = true
assigns Rem = true
assigns Shl = true
assigns Shr = true
assigns BitAnd = true
assigns BitXor = true
assigns BitOr = true
assigns _ = false

abbrev pub gives_value : UnOp → Bool
gives_value Plus = true
gives_value Minus = true
gives_value Not = true
gives_value Flip = true
gives_value _ = false

module _ (signatures : List Signature) (atoms : Atoms) (n : ℕ) where
  -- it is of the sort of the type
  abbrev pub Typed : TyData → Exp → Type 0
  Typed t e = Has signatures atoms n (type_sort t) e

  abbrev pub BinaryIsTyped : Type 0
  BinaryIsTyped = (w : World) (complete : TyData → Bool) (op : BinOp) (s t r : TyData)
      (s_null t_null : Bool) (x y : Exp) → Typed s x → Typed t y
      → binary_type complete op s s_null t t_null ≡ Some r → Typed r (binary_exp w op s x t y)

  abbrev pub ElementIsPlace : Type 0
  ElementIsPlace = (w : World) (complete : TyData → Bool) (s t r : TyData) (x y : Exp)
      → Typed s x → Typed t y → element_type complete s t ≡ Some r
      → Has signatures atoms n address_sort (element_exp w s x t y)

  abbrev pub AssignedIsTyped : Type 0
  AssignedIsTyped = (s t : TyData) (null : Bool) (e : Exp) → Typed t e
      → is_assignable s t null ≡ true → Typed s (as_type t s e)

  abbrev pub ReadIsTyped : Type 0
  ReadIsTyped = (t : TyData) (e : Exp) → Has signatures atoms n address_sort e → Typed t (read_at t e)

  abbrev pub UnaryIsTyped : Type 0
  UnaryIsTyped = (op : UnOp) (t r : TyData) (e : Exp) → gives_value op ≡ true → Typed t e
      → unary_type op t ≡ Some r → Typed r (unary_exp op t e)

  abbrev pub CastIsTyped : Type 0
  CastIsTyped = (s t : TyData) (e : Exp) → is_scalar s ≡ true → is_scalar t ≡ true → Typed t e
      → Typed s (as_type t s e)

  abbrev pub AssignmentIsTyped : Type 0
  AssignmentIsTyped = (w : World) (s t : TyData) (null : Bool) (place e : Exp)
      → Has signatures atoms n address_sort place → Typed t e → is_assignable s t null ≡ true
      → Typed s (assigned w s place t e)

  abbrev pub CompoundIsTyped : Type 0
  CompoundIsTyped = (w : World) (complete : TyData → Bool) (op : BinOp) (old : Bool) (s t : TyData)
      (place e : Exp) → assigns op ≡ true → Has signatures atoms n address_sort place → Typed t e
      → is_compound complete op s t ≡ true → Typed s (compound w op old s place t e)

-- the name of a symbol of the library, which is no expression
abbrev pub names_symbol : ExprData → Bool
names_symbol (identifier x) = is_some (named_among symbol_text x symbols)
names_symbol _ = false

-- each of these has a type, or is a symbol
abbrev pub AllTyped : ExprList → List Found → Type 0
AllTyped no_exprs fs = Unit {0}
AllTyped (exprs e es) [] = Unit {0}
AllTyped (exprs e es) (f ∷ fs) =
    ((names_symbol e ≡ true) ⊎ ((t : TyData) × (f.operand.type ≡ Some t))) × AllTyped es fs

-- what the checks take for a call of the library is one, whatever its pointers are
abbrev pub CutsAreCalls : Type 0
CutsAreCalls = (name : LibName) (es : ExprList) (fs : List Found) → AllTyped es fs
    → cuts name es (types_of (operands_of fs)) ≡ true → IsCall name (arguments_of_call es fs)

-- A known function without a format is one that the meaning has, and takes and gives what its types say.
pub record IsKnownAs (name : Text) (r : TyData) (ps : List TyData) : Type 0 where
  pub function : Known
  pub is : find name plain_functions ≡ Some function
  pub takes : known_takes function ≡ map type_sort ps
  pub gives : known_gives function ≡ type_sort r

abbrev pub KnownAreTyped : Type 0
KnownAreTyped = (name : Text) (r : TyData) (ps : List TyData)
    → known_function name ≡ Some (plain r ps) → IsKnownAs name r ps
