-- What the rules of operands answer fits where their parts do and nothing is wrong by them.
use Rattle.std.specs.Prelude.{◌≡◌, ℕ, Bool, true, false, List, [], Some}
use Rattle.ec_ctypes.specs.declared.tree.expr.BinOp.{BinOp}
use Rattle.ec_ctypes.specs.declared.tree.expr.UnOp.{UnOp}
use Rattle.ec_ctypes.specs.trees.Exprs.{ExprData}
use Rattle.ec_ctypes.specs.trees.Types.{TyData}
use Rattle.ec_typing_defs.specs.Operands as checked
use Rattle.ec_typing_defs.specs.Worlds.{Place, World}
use Rattle.ec_resolving_defs.specs.Conversions.{unary_exp, binary_exp, element_exp, assigned, compound, bumped}
use Rattle.ec_resolving_defs.specs.Operands.{Found, found, over_type, over_types, value_exp, cast_form, done_alone}
use Rattle.ec_sound_defs.specs.Sorts.{any_sort}
use Rattle.ec_sound_defs.specs.Sound.{Signature, Atoms, Has}
use Rattle.ec_sound_form_laws.specs.Fits.{IsValue, FoundFits}
use Rattle.ec_sound_form_laws.specs.Laws.{assigns, gives_value}

module _ (signatures : List Signature) (atoms : Atoms) (n : ℕ) where
  abbrev pub Fits : Found → Type 0
  Fits f = FoundFits signatures atoms n f

  abbrev pub Value : Found → Type 0
  Value f = IsValue signatures atoms n f

  -- as a value
  abbrev pub ValuesFit : Type 0
  ValuesFit = (w : World) (at : Place) (f : Found) → Fits f
      → (checked.value_rule at f.operand w).found ≡ []
      → Value (found (checked.value_rule at f.operand w).answer (value_exp f) false)

  -- `&` and `*`
  abbrev pub AddressesFit : Type 0
  AddressesFit = (w : World) (at : Place) (f : Found) → Fits f
      → (checked.address_rule at f.operand w).found ≡ []
      → Fits (found (checked.address_rule at f.operand w).answer f.exp false)

  abbrev pub TargetsFit : Type 0
  TargetsFit = (w : World) (at : Place) (f : Found) → Value f
      → (checked.target_rule at f.operand w).found ≡ []
      → Fits (found (checked.target_rule at f.operand w).answer f.exp true)

  -- the other unary operators
  abbrev pub SignsFit : Type 0
  SignsFit = (w : World) (at : Place) (op : UnOp) (f : Found) → gives_value op ≡ true → Value f
      → (checked.sign_rule at op f.operand w).found ≡ []
      → Fits (found (checked.sign_rule at op f.operand w).answer
      (over_type f.operand.type (λ t. unary_exp op t f.exp)) false)

  abbrev pub BinariesFit : Type 0
  BinariesFit = (w : World) (at : Place) (op : BinOp) (a b : Found) → Value a → Value b
      → (checked.binary_rule at op a.operand b.operand w).found ≡ []
      → Fits (found (checked.binary_rule at op a.operand b.operand w).answer
      (over_types a.operand.type b.operand.type (λ s t. binary_exp w op s a.exp t b.exp)) false)

  abbrev pub ElementsFit : Type 0
  ElementsFit = (w : World) (at : Place) (a b : Found) → Value a → Value b
      → (checked.index_rule at a.operand b.operand w).found ≡ []
      → Fits (found (checked.index_rule at a.operand b.operand w).answer
      (over_types a.operand.type b.operand.type (λ s t. element_exp w s a.exp t b.exp)) true)

  -- assignments
  abbrev pub AssignmentsFit : Type 0
  AssignmentsFit = (w : World) (at : Place) (a b : Found) → Fits a → Value b
      → (checked.assign_rule at a.operand b.operand w).found ≡ []
      → Fits (found (checked.assign_rule at a.operand b.operand w).answer
      (over_types a.operand.type b.operand.type (λ s t. assigned w s a.exp t b.exp)) false)

  abbrev pub CompoundsFit : Type 0
  CompoundsFit = (w : World) (at : Place) (op : BinOp) (a b : Found) → assigns op ≡ true → Fits a
      → Value b → (checked.compound_rule at op a.operand b.operand w).found ≡ []
      → Fits (found (checked.compound_rule at op a.operand b.operand w).answer
      (over_types a.operand.type b.operand.type (λ s t. compound w op false s a.exp t b.exp))
      false)

  abbrev pub CountersFit : Type 0
  CountersFit = (w : World) (at : Place) (before up : Bool) (f : Found) → Fits f
      → (checked.bump_rule at f.operand w).found ≡ []
      → Fits (found (checked.bump_rule at f.operand w).answer
      (over_type f.operand.type (λ t. bumped w before up t f.exp)) false)

  abbrev pub CastsFit : Type 0
  CastsFit = (w : World) (at : Place) (s : TyData) (f : Found) → Fits f
      → (checked.cast_rule at (Some s) f.operand w).found ≡ []
      → Fits (found (checked.cast_rule at (Some s) f.operand w).answer (cast_form w (Some s) f) false)

  -- where nothing is wanted of it but what it does
  abbrev pub UnusedFit : Type 0
  UnusedFit = (w : World) (e : ExprData) (f : Found) → Fits f
      → Has signatures atoms n any_sort (done_alone w e f)
