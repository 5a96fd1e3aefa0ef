-- The rules of the resolved walk over what is found find the same in what is written.
use Rattle.std.specs.Prelude.{◌≡◌, ◌+◌, Bool, false, true, ◌++◌, ◌∷◌, [], length, Option, option_and_then}
use Rattle.std.proofs.Common.{refl}
use Rattle.ec_ctypes.specs.declared.tree.expr.BinOp.{BinOp}
use Rattle.ec_ctypes.specs.declared.tree.expr.UnOp.{UnOp}
use Rattle.ec_ctypes.specs.declared.tree.expr.UnOp.TheVariants.{Addr, Deref, Plus, Minus, Not, Flip}
use Rattle.ec_ctypes.specs.trees.Types.{TyData}
use Rattle.ec_language.specs.Letters.{Text}
use Rattle.ec_typing_defs.specs.Types.{struct_number}
use Rattle.ec_typing_defs.specs.Worlds.{Place, pure as check_pure}
use Rattle.ec_typing_defs.specs.Operands as checked
use Rattle.ec_typing_defs.specs.Operands.{OperandData, literal_operand}
use Rattle.ec_meaning_defs.specs.resolved.Resolved.{object}
use Rattle.ec_resolving_defs.specs.Agreement.{operand_of}
use Rattle.ec_resolving_defs.specs.Storage.{Storage, with_literal}
use Rattle.ec_resolving_defs.specs.Operands.{Found, found, as_value, as_place, over_types, over_type, named_exp, name_rule, literal_rule, value_exp, value_rule, address_rule, unary_found, unary_rule, binary_rule, index_rule, assign_rule, compound_rule, bump_rule, member_rule, target_struct, arrow_rule, cast_rule, size_rule}
use Rattle.ec_sim_statement_laws.specs.statement.Clean.{CallsNone}
use Rattle.ec_sim_statement_laws.specs.expression.Alike.{SameStorage, AddsNone, IsAlike}
use Rattle.ec_sim_statement_laws.specs.expression.Silent.{Nothing, FoundCallsNone}
use Rattle.ec_sim_statement_laws.specs.expression.Known.{look_up_same}
use Rattle.ec_sim_statement_laws.specs.expression.Rules.{checked_alike, form_alike, pure_alike, ask_first, stored_first, arrange_first}
use Rattle.ec_sim_statement_laws.specs.expression.Checks.{name_alike, value_alike, address_alike, unary_alike, binary_alike, index_alike, assign_alike, compound_alike, bump_alike, member_alike, arrow_alike, cast_alike, size_alike}
use Rattle.ec_sim_statement_laws.specs.expression.Forms.{named_silent, value_silent, unary_found_silent, over_types_silent, over_type_silent, binary_silent, element_silent, assigned_silent, compound_silent, member_silent, cast_silent, size_silent, binary_same, element_same, assigned_same, compound_same, bumped_same, member_exp_same, cast_same, size_exp_same}

-- ---- literals

literals_same : (text : Text) (s t : Storage) → SameStorage s t
    → SameStorage (with_literal text s) (with_literal text t)
literals_same text s t same = record {
  defined = same.defined;
  before_literals = same.before_literals;
  sites = same.sites;
  globals = same.globals;
  literals = λ i. same.literals i ++ text ∷ [];
  block = same.block;
}

literal_adds : (text : Text) (s : Storage) → AddsNone s (with_literal text s)
literal_adds text s = record { functions = refl; calls = refl; statements = refl }

pub literal_found : (text : Text) → IsAlike FoundCallsNone operand_of
    (check_pure (literal_operand (length text))) (check_pure (literal_operand (length text)))
    (literal_rule text) (literal_rule text)
literal_found text = stored_first CallsNone _ _ _ _ _ _
    (λ s t same. λ i. object (same.before_literals i + length (same.literals i) + 1))
    (λ s. refl) (λ e silent. arrange_first _ _ _ _ _ _ (literals_same text) (literal_adds text)
    (literal_adds text)
    (pure_alike operand_of (found (literal_operand (length text)) e true) silent))

module _ (at there : Place) where
  -- ---- names and values

  pub name_found : (name : Text) → IsAlike FoundCallsNone operand_of
      (checked.name_rule at name) (checked.name_rule there name)
      (name_rule at name) (name_rule there name)
  name_found name = ask_first Nothing _ _ _ _ _ _ (λ w v alike. look_up_same w v alike name)
      (λ w. tt) (λ entry _. stored_first Nothing _ _ _ _ _ _ (λ s t same. same.sites) (λ s. tt)
      (λ sites _. checked_alike operand_of (λ o. found o (named_exp sites name entry) o.is_place)
      _ _ (λ o. refl) (λ o. named_silent sites name entry) (name_alike at there name)))

  pub value_found : (f : Found) → FoundCallsNone f → IsAlike FoundCallsNone operand_of
      (checked.value_rule at f.operand) (checked.value_rule there f.operand)
      (value_rule at f) (value_rule there f)
  value_found f p = form_alike (as_value (value_exp f)) _ _ (λ o. refl) (λ o. value_silent f p)
      (value_alike at there f.operand)

  pub address_found : (f : Found) → FoundCallsNone f → IsAlike FoundCallsNone operand_of
      (checked.address_rule at f.operand) (checked.address_rule there f.operand)
      (address_rule at f) (address_rule there f)
  address_found f p = form_alike (as_value f.exp) _ _ (λ o. refl) (λ o. p)
      (address_alike at there f.operand)

  unary_keeps : (op : UnOp) (f : Found) (o : OperandData) → (unary_found op f o).operand ≡ o
  unary_keeps Addr f o = refl
  unary_keeps Deref f o = refl
  unary_keeps Plus f o = refl
  unary_keeps Minus f o = refl
  unary_keeps Not f o = refl
  unary_keeps Flip f o = refl

  pub unary_operation : (op : UnOp) (f : Found) → FoundCallsNone f
      → IsAlike FoundCallsNone operand_of
      (checked.unary_rule at op f.operand) (checked.unary_rule there op f.operand)
      (unary_rule at op f) (unary_rule there op f)
  unary_operation op f p = form_alike (unary_found op f) _ _ (unary_keeps op f)
      (unary_found_silent op f p) (unary_alike at there op f.operand)

  pub binary_operation : (op : BinOp) (a b : Found) → FoundCallsNone a → FoundCallsNone b
      → IsAlike FoundCallsNone operand_of (checked.binary_rule at op a.operand b.operand)
      (checked.binary_rule there op a.operand b.operand)
      (binary_rule at op a b) (binary_rule there op a b)
  binary_operation op a b p q = ask_first CallsNone _ _ _ _ _ _
      (λ w v alike. λ i. over_types a.operand.type b.operand.type
      (λ s t. binary_same w v alike op s a.exp t b.exp i))
      (λ w. over_types_silent a.operand.type b.operand.type _
      (λ s t. binary_silent w op s a.exp t b.exp p q))
      (λ e silent. form_alike (as_value e) _ _ (λ o. refl) (λ o. silent)
      (binary_alike at there op a.operand b.operand))

  pub element_found : (a b : Found) → FoundCallsNone a → FoundCallsNone b
      → IsAlike FoundCallsNone operand_of (checked.index_rule at a.operand b.operand)
      (checked.index_rule there a.operand b.operand) (index_rule at a b) (index_rule there a b)
  element_found a b p q = ask_first CallsNone _ _ _ _ _ _
      (λ w v alike. λ i. over_types a.operand.type b.operand.type
      (λ s t. element_same w v alike s a.exp t b.exp i))
      (λ w. over_types_silent a.operand.type b.operand.type _
      (λ s t. element_silent w s a.exp t b.exp p q))
      (λ e silent. form_alike (as_place e) _ _ (λ o. refl) (λ o. silent)
      (index_alike at there a.operand b.operand))

  pub assigned_found : (a b : Found) → FoundCallsNone a → FoundCallsNone b
      → IsAlike FoundCallsNone operand_of (checked.assign_rule at a.operand b.operand)
      (checked.assign_rule there a.operand b.operand) (assign_rule at a b) (assign_rule there a b)
  assigned_found a b p q = ask_first CallsNone _ _ _ _ _ _
      (λ w v alike. λ i. over_types a.operand.type b.operand.type
      (λ s t. assigned_same w v alike s a.exp t b.exp i))
      (λ w. over_types_silent a.operand.type b.operand.type _
      (λ s t. assigned_silent w s a.exp t b.exp p q))
      (λ e silent. form_alike (as_value e) _ _ (λ o. refl) (λ o. silent)
      (assign_alike at there a.operand b.operand))

  pub compound_found : (op : BinOp) (a b : Found) → FoundCallsNone a → FoundCallsNone b
      → IsAlike FoundCallsNone operand_of (checked.compound_rule at op a.operand b.operand)
      (checked.compound_rule there op a.operand b.operand)
      (compound_rule at op a b) (compound_rule there op a b)
  compound_found op a b p q = ask_first CallsNone _ _ _ _ _ _
      (λ w v alike. λ i. over_types a.operand.type b.operand.type
      (λ s t. compound_same w v alike op false s a.exp t b.exp i))
      (λ w. over_types_silent a.operand.type b.operand.type _
      (λ s t. compound_silent w op false s a.exp t b.exp p q))
      (λ e silent. form_alike (as_value e) _ _ (λ o. refl) (λ o. silent)
      (compound_alike at there op a.operand b.operand))

  pub bumped_found : (before up : Bool) (f : Found) → FoundCallsNone f
      → IsAlike FoundCallsNone operand_of (checked.bump_rule at f.operand)
      (checked.bump_rule there f.operand) (bump_rule at before up f) (bump_rule there before up f)
  bumped_found before up f p = ask_first CallsNone _ _ _ _ _ _
      (λ w v alike. λ i. over_type f.operand.type (λ t. bumped_same w v alike before up t f.exp i))
      (λ w. over_type_silent f.operand.type _ (λ t. compound_silent w _ _ t f.exp _ _ p refl))
      (λ e silent. form_alike (as_value e) _ _ (λ o. refl) (λ o. silent)
      (bump_alike at there f.operand))

  -- ---- members, casts and sizes

  pub member_found : (f : Found) (m : Text) → FoundCallsNone f
      → IsAlike FoundCallsNone operand_of (checked.member_rule at f.operand m)
      (checked.member_rule there f.operand m) (member_rule at f m) (member_rule there f m)
  member_found f m p = ask_first CallsNone _ _ _ _ _ _
      (λ w v alike.
      member_exp_same w v alike (option_and_then struct_number f.operand.type) m f.exp)
      (λ w. member_silent w (option_and_then struct_number f.operand.type) m f.exp p)
      (λ e silent. form_alike (as_place e) _ _ (λ o. refl) (λ o. silent)
      (member_alike at there f.operand m))

  pub arrow_found : (f : Found) (m : Text) → FoundCallsNone f
      → IsAlike FoundCallsNone operand_of (checked.arrow_rule at f.operand m)
      (checked.arrow_rule there f.operand m) (arrow_rule at f m) (arrow_rule there f m)
  arrow_found f m p = ask_first CallsNone _ _ _ _ _ _
      (λ w v alike. member_exp_same w v alike (target_struct f.operand.type) m f.exp)
      (λ w. member_silent w (target_struct f.operand.type) m f.exp p)
      (λ e silent. form_alike (as_place e) _ _ (λ o. refl) (λ o. silent)
      (arrow_alike at there f.operand m))

  pub cast_found : (to : Option TyData) (f : Found) → FoundCallsNone f
      → IsAlike FoundCallsNone operand_of (checked.cast_rule at to f.operand)
      (checked.cast_rule there to f.operand) (cast_rule at to f) (cast_rule there to f)
  cast_found to f p = ask_first CallsNone _ _ _ _ _ _
      (λ w v alike. cast_same w v alike to f) (λ w. cast_silent w to f p)
      (λ e silent. form_alike (as_value e) _ _ (λ o. refl) (λ o. silent)
      (cast_alike at there to f.operand))

  pub size_found : (ty : Option TyData) → IsAlike FoundCallsNone operand_of
      (checked.size_rule at ty) (checked.size_rule there ty) (size_rule at ty) (size_rule there ty)
  size_found ty = ask_first CallsNone _ _ _ _ _ _
      (λ w v alike. size_exp_same w v alike ty) (λ w. size_silent w ty)
      (λ e silent. form_alike (as_value e) _ _ (λ o. refl) (λ o. silent) (size_alike at there ty))
