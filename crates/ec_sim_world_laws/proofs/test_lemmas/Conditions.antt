-- What is tested for each condition, as it is resolved.
use Rattle.std.proofs.Common.{◌≡◌, ◌∙◌, ℕ, true, false, List, [], ◌∷◌, map, refl, ap, Option, Some, None}
use Rattle.std.specs.Prelude.{codes, pos, option_map, option_and_then, slice_get}
use Rattle.ec_ctypes.specs.Layout.{no_members, member_behind}
use Rattle.ec_ctypes.specs.SqlcaStructs.{sqlca_structs}
use Rattle.ec_ctypes.specs.declared.embedded.emb.Cond.{Cond}
use Rattle.ec_ctypes.specs.declared.embedded.emb.Cond.TheVariants.{NotFound, Warning, Error}
use Rattle.ec_ctypes.specs.declared.tree.expr.BinOp.{BinOp}
use Rattle.ec_ctypes.specs.declared.tree.expr.BinOp.TheVariants.{Eq, Lt}
use Rattle.ec_ctypes.specs.declared.types.arith.Arith.TheVariants.{Char, Long}
use Rattle.ec_ctypes.specs.declared.types.sizes.Shape.{Shape}
use Rattle.ec_ctypes.specs.trees.Types.{TyData, arithmetic, array, structure}
use Rattle.ec_ctypes.specs.trees.Exprs.{ExprData, member as member_expr, identifier, character}
use Rattle.ec_language.specs.Letters.{Text}
use Rattle.ec_memory_defs.specs.Memory.{number}
use Rattle.ec_typing_defs.specs.Operands as checked
use Rattle.ec_typing_defs.specs.Operands.{OperandData, computed, object_operand, integer_operand, valued, member_type, member_by}
use Rattle.ec_typing_defs.specs.Expressions as checked_parts
use Rattle.ec_typing_defs.specs.Expressions.{typed_members}
use Rattle.ec_typing_defs.specs.Programs.{known_structs}
use Rattle.ec_typing_defs.specs.Statements as checked_statements
use Rattle.ec_typing_defs.specs.Types.{int_type}
use Rattle.ec_typing_defs.specs.Worlds as worlds
use Rattle.ec_typing_defs.specs.Worlds.{Place, MembersData, unlisted, begun, listed, StructInfo, World, out, look_up, members_of, shapes_in}
use Rattle.ec_expansion_defs.specs.Handlers.{condition, int_constant}
use Rattle.ec_meaning_defs.specs.resolved.Operations.{pointer_plus}
use Rattle.ec_meaning_defs.specs.resolved.Resolved.{Exp, object, member, constant, operate}
use Rattle.ec_resolving_defs.specs.Conversions.{binary_exp, element_exp}
use Rattle.ec_resolving_defs.specs.Expressions.{expr}
use Rattle.ec_resolving_defs.specs.Operands.{Found, found, offset_among, member_at, over_types, value_exp, name_rule, member_rule, value_rule, binary_rule, index_rule}
use Rattle.ec_resolving_defs.specs.Statements as resolved
use Rattle.ec_resolving_defs.specs.Storage.{Storage, reached, pure, stored}
use Rattle.ec_sim_statement_laws.specs.statement.Tests.{code_exp, warning_exp, condition_exp}
use Rattle.ec_sim_statement_laws.specs.expression.Worlds.{AreAlike}
use Rattle.ec_sim_world_laws.specs.test.Area.{KnowsArea}
use Rattle.ec_sim_world_laws.proofs.test_lemmas.Alike.{reserved_is_free}
use Rattle.ec_sim_world_laws.proofs.test_lemmas.Layouts.{alike_layout}
use Rattle.ec_sim_world_laws.proofs.test_lemmas.Steps.{then_is, then_finds, checks_is, ask_is, check_ask_is}

-- ---- what is known of the area

abbrev area : Option MembersData
area = option_map (λ s. s.members) (slice_get (known_structs [] sqlca_structs) 1)

-- the two members that are tested, and the name
pub record TellsArea (z : World) : Type 0 where
  pub name : look_up (codes "sqlca") z ≡ None
  pub code : member_type (codes "sqlcode") (members_of 1 z) ≡ Some (Some (arithmetic Long))
  pub code_at : offset_among z (codes "sqlcode") (members_of 1 z) ≡ Some 16
  pub warnings : member_type (codes "sqlwarn") (members_of 1 z) ≡ Some (Some (array (arithmetic Char) 8))
  pub warnings_at : offset_among z (codes "sqlwarn") (members_of 1 z) ≡ Some 240

first_is : {A : Type 0} (xs : List A) (x : A) → slice_get xs 0 ≡ Some x → (rest : List A) × (xs ≡ x ∷ rest)
first_is [] x e = absurd (cc)
first_is (y ∷ ys) x e = let same : y ≡ x = cc in (ys, λ i. same i ∷ ys)

abbrev offset_by : List (Option Shape) → Text → Option MembersData → Option ℕ
offset_by shapes m (Some (listed ms)) = option_and_then (λ ds. option_map (λ d. d.0) (member_behind shapes no_members m ds)) (typed_members ms)
offset_by shapes m _ = None

offset_is : (w : World) (m : Text) (o : Option MembersData) → offset_among w m o ≡ offset_by (shapes_in w) m o
offset_is w m None = refl
offset_is w m (Some unlisted) = refl
offset_is w m (Some begun) = refl
offset_is w m (Some (listed ms)) = refl

members_known : {w : World} → KnowsArea w → members_of 1 w ≡ area
members_known h = ap (option_map (λ s. s.members)) (h.structs 1 _ refl refl)

-- that of the member `sqlerrm`
abbrev inner_shape : Option Shape
inner_shape = Some (record { size = 156; align = 4 })

shapes_known : {w : World} → KnowsArea w → (rest : List (Option Shape)) × (shapes_in w ≡ inner_shape ∷ rest)
shapes_known {w} h = let p = first_is w.structs _ (h.structs 0 _ refl refl) in (map (λ s. s.shape) p.0, ap (map (λ s. s.shape)) p.1)

offset_known : {w z : World} → KnowsArea w → AreAlike w z → (m : Text) {n : ℕ} → ((rest : List (Option Shape)) → offset_by (inner_shape ∷ rest) m area ≡ Some n) → offset_among z m (members_of 1 z) ≡ Some n
offset_known {w} {z} h a m k =
    (λ i. offset_among z m (members i))
    ∙ offset_is z m area
    ∙ (λ i. offset_by (shapes i) m area)
    ∙ k (shapes_known h).0
  where
    members : members_of 1 z ≡ area
    members = (alike_layout a).members 1 ∙ members_known h

    shapes : shapes_in z ≡ inner_shape ∷ (shapes_known h).0
    shapes = (alike_layout a).shapes ∙ (shapes_known h).1

member_known : {w z : World} → KnowsArea w → AreAlike w z → (m : Text) → member_type m (members_of 1 z) ≡ member_type m area
member_known h a m = λ i. member_type m (((alike_layout a).members 1 ∙ members_known h) i)

pub area_told : {w z : World} → KnowsArea w → AreAlike w z → TellsArea z
area_told h a = record {
  name = reserved_is_free a (codes "sqlca") refl;
  code = member_known h a (codes "sqlcode");
  code_at = offset_known h a (codes "sqlcode") (λ rest. refl);
  warnings = member_known h a (codes "sqlwarn");
  warnings_at = offset_known h a (codes "sqlwarn") (λ rest. refl);
}

-- ---- what the checks find

abbrev place_operand : TyData → OperandData
place_operand t = record (computed (Some t)) { is_place = true }

abbrev area_operand : OperandData
area_operand = object_operand true (Some (structure 1))

abbrev area_expr : Text → ExprData
area_expr m = member_expr (identifier (codes "sqlca")) m

module _ (there : Place) (z : World) where
  name_checked : look_up (codes "sqlca") z ≡ None → checked.name_rule there (codes "sqlca") z ≡ out area_operand [] z
  unfolding checked.name_rule checked.named_by worlds.pure
  name_checked h = then_is (worlds.ask (look_up (codes "sqlca"))) (checked.named_by there (codes "sqlca")) (check_ask_is _ _ h) refl

  member_checked : (m : Text) {t : TyData} → member_type m (members_of 1 z) ≡ Some (Some t) → checked.member_rule there area_operand m z ≡ out (place_operand t) [] z
  unfolding checked.member_rule worlds.pure
  member_checked m h = then_is (worlds.ask (λ w. member_type m (members_of 1 w))) (member_by there true) (check_ask_is _ _ h) refl

  area_checked : (m : Text) {t : TyData} → look_up (codes "sqlca") z ≡ None → member_type m (members_of 1 z) ≡ Some (Some t) → checked_parts.expr there (area_expr m) z ≡ out (place_operand t) [] z
  area_checked m h k = then_is _ _ (name_checked h) (member_checked m k)

  -- operands that compute
  abbrev valued_code : OperandData
  valued_code = valued (place_operand (arithmetic Long)) (arithmetic Long)

  abbrev warnings_type : TyData
  warnings_type = array (arithmetic Char) 8

  abbrev valued_warnings : OperandData
  valued_warnings = valued (place_operand warnings_type) warnings_type

  abbrev warning : OperandData
  warning = object_operand false (Some (arithmetic Char))

  abbrev valued_warning : OperandData
  valued_warning = valued warning (arithmetic Char)

  abbrev constant_operand : ℕ → OperandData
  constant_operand n = integer_operand int_type (pos n)

  abbrev valued_constant : ℕ → OperandData
  valued_constant n = valued (constant_operand n) int_type

  abbrev truth : OperandData
  truth = computed (Some int_type)

  code_valued : checked.value_rule there (place_operand (arithmetic Long)) z ≡ out valued_code [] z
  unfolding checked.value_rule worlds.chain worlds.ask worlds.pure
  code_valued = refl

  warnings_valued : checked.value_rule there (place_operand warnings_type) z ≡ out valued_warnings [] z
  unfolding checked.value_rule worlds.chain worlds.ask worlds.pure
  warnings_valued = refl

  warning_valued : checked.value_rule there warning z ≡ out valued_warning [] z
  unfolding checked.value_rule worlds.chain worlds.ask worlds.pure
  warning_valued = refl

  warning_checked : checked.index_rule there valued_warnings (valued_constant 0) z ≡ out warning [] z
  unfolding checked.index_rule worlds.chain worlds.ask worlds.pure
  warning_checked = refl

  constant_checked : (n : ℕ) → checked_parts.expr there (int_constant n) z ≡ out (constant_operand n) [] z
  unfolding worlds.pure
  constant_checked n = refl

  character_checked : (n : ℕ) → checked_parts.expr there (character (pos n)) z ≡ out (constant_operand n) [] z
  unfolding worlds.pure
  character_checked n = refl

  constant_valued : (n : ℕ) → checked.value_rule there (constant_operand n) z ≡ out (valued_constant n) [] z
  unfolding checked.value_rule worlds.chain worlds.ask worlds.pure
  constant_valued n = refl

  equal_checked : (n : ℕ) → checked.binary_rule there Eq valued_code (valued_constant n) z ≡ out truth [] z
  unfolding checked.binary_rule checked.typed worlds.chain worlds.ask worlds.pure
  equal_checked n = refl

  less_checked : (n : ℕ) → checked.binary_rule there Lt valued_code (valued_constant n) z ≡ out truth [] z
  unfolding checked.binary_rule checked.typed worlds.chain worlds.ask worlds.pure
  less_checked n = refl

  warned_checked : (n : ℕ) → checked.binary_rule there Eq valued_warning (valued_constant n) z ≡ out truth [] z
  unfolding checked.binary_rule checked.typed worlds.chain worlds.ask worlds.pure
  warned_checked n = refl

  truth_valued : checked.value_rule there truth z ≡ out truth [] z
  unfolding checked.value_rule worlds.chain worlds.ask worlds.pure
  truth_valued = refl

  truth_checked : checked_statements.condition_rule there truth z ≡ out tt [] z
  unfolding checked_statements.condition_rule worlds.demand worlds.pure
  truth_checked = refl

  tested_checked : (e : ExprData) → checked_parts.expr there e z ≡ out truth [] z → checked_statements.condition there e z ≡ out tt [] z
  tested_checked e h = then_is _ _ (then_is _ _ h truth_valued) truth_checked

  pub condition_checked : TellsArea z → (c : Cond) → checked_statements.condition there (condition c) z ≡ out tt [] z
  condition_checked h NotFound = tested_checked (condition NotFound)
      (then_is _ _ (then_is _ _ (area_checked (codes "sqlcode") h.name h.code) code_valued)
      (then_is _ _ (then_is _ _ (constant_checked 100) (constant_valued 100)) (equal_checked 100)))
  condition_checked h Warning = tested_checked (condition Warning)
      (then_is _ _ (then_is _ _ (then_is _ _ (then_is _ _ (area_checked (codes "sqlwarn") h.name h.warnings) warnings_valued)
      (then_is _ _ (then_is _ _ (constant_checked 0) (constant_valued 0)) warning_checked)) warning_valued)
      (then_is _ _ (then_is _ _ (character_checked 87) (constant_valued 87)) (warned_checked 87)))
  condition_checked h Error = tested_checked (condition Error)
      (then_is _ _ (then_is _ _ (area_checked (codes "sqlcode") h.name h.code) code_valued)
      (then_is _ _ (then_is _ _ (constant_checked 0) (constant_valued 0)) (less_checked 0)))

  -- ---- what the walk finds

  abbrev code_place : Found
  code_place = found (place_operand (arithmetic Long)) (member 16 (object 1)) true

  abbrev code_value : Found
  code_value = found valued_code code_exp false

  abbrev warnings_place : Found
  warnings_place = found (place_operand warnings_type) (member 240 (object 1)) true

  abbrev warning_place : Found
  warning_place = found warning (operate (pointer_plus 1) (member 240 (object 1)) (constant (number (pos 0)))) true

  abbrev constant_value : OperandData → ℕ → Found
  constant_value o n = found o (constant (number (pos n))) false

  module _ (s : Storage) where
    done : {A : Type 0} (a : A) → pure a s z ≡ reached a s z
    unfolding pure
    done a = refl

    sites_are : stored (λ s. s.sites) s z ≡ reached s.sites s z
    unfolding stored
    sites_are = refl

    name_found : look_up (codes "sqlca") z ≡ None → name_rule there (codes "sqlca") s z ≡ reached (found area_operand (object 1) true) s z
    name_found h = then_finds _ _ (ask_is _ _ _ h) (then_finds _ _ sites_are (then_finds _ _ (checks_is _ _ (name_checked h)) (done _)))

    member_found : (m : Text) (n : ℕ) {t : TyData} → member_type m (members_of 1 z) ≡ Some (Some t) → offset_among z m (members_of 1 z) ≡ Some n
        → member_rule there (found area_operand (object 1) true) m s z ≡ reached (found (place_operand t) (member n (object 1)) true) s z
    member_found m n h k = then_finds _ _ (ask_is _ _ _ (λ i. member_at (object 1) (k i))) (then_finds _ _ (checks_is _ _ (member_checked m h)) (done _))

    area_found : (m : Text) (n : ℕ) {t : TyData} → look_up (codes "sqlca") z ≡ None → member_type m (members_of 1 z) ≡ Some (Some t) → offset_among z m (members_of 1 z) ≡ Some n
        → expr there (area_expr m) s z ≡ reached (found (place_operand t) (member n (object 1)) true) s z
    area_found m n h k l = then_finds _ _ (name_found h) (member_found m n k l)

    value_found : (f : Found) {o : OperandData} → checked.value_rule there f.operand z ≡ out o [] z → value_rule there f s z ≡ reached (found o (value_exp f) false) s z
    value_found f h = then_finds _ _ (checks_is _ _ h) (done _)

    binary_found : (op : BinOp) (a b : Found) {o : OperandData} → checked.binary_rule there op a.operand b.operand z ≡ out o [] z
        → binary_rule there op a b s z ≡ reached (found o (over_types a.operand.type b.operand.type (λ t u. binary_exp z op t a.exp u b.exp)) false) s z
    binary_found op a b h = then_finds _ _ (ask_is _ _ _ refl) (then_finds _ _ (checks_is _ _ h) (done _))

    index_found : (a b : Found) {o : OperandData} → checked.index_rule there a.operand b.operand z ≡ out o [] z
        → index_rule there a b s z ≡ reached (found o (over_types a.operand.type b.operand.type (λ t u. element_exp z t a.exp u b.exp)) true) s z
    index_found a b h = then_finds _ _ (ask_is _ _ _ refl) (then_finds _ _ (checks_is _ _ h) (done _))

    constant_found : (n : ℕ) → expr there (int_constant n) s z ≡ reached (found (constant_operand n) (constant (number (pos n))) false) s z
    constant_found n = done _

    character_found : (n : ℕ) → expr there (character (pos n)) s z ≡ reached (found (constant_operand n) (constant (number (pos n))) false) s z
    character_found n = done _

    tested_found : (e : ExprData) (x : Exp) → expr there e s z ≡ reached (found truth x false) s z → resolved.condition there e s z ≡ reached x s z
    tested_found e x h = then_finds _ _ (then_finds _ _ h (value_found (found truth x false) truth_valued)) (done _)

    pub condition_found : TellsArea z → (c : Cond) → resolved.condition there (condition c) s z ≡ reached (condition_exp c) s z
    condition_found h NotFound = tested_found (condition NotFound) _
        (then_finds _ _ (then_finds _ _ (area_found (codes "sqlcode") 16 h.name h.code h.code_at) (value_found code_place code_valued))
        (then_finds _ _ (then_finds _ _ (constant_found 100) (value_found (constant_value (constant_operand 100) 100) (constant_valued 100))) (binary_found Eq code_value (constant_value (valued_constant 100) 100) (equal_checked 100))))
    condition_found h Warning = tested_found (condition Warning) _
        (then_finds _ _ (then_finds _ _ (then_finds _ _ (then_finds _ _ (area_found (codes "sqlwarn") 240 h.name h.warnings h.warnings_at) (value_found warnings_place warnings_valued))
        (then_finds _ _ (then_finds _ _ (constant_found 0) (value_found (constant_value (constant_operand 0) 0) (constant_valued 0))) (index_found (found valued_warnings (member 240 (object 1)) false) (constant_value (valued_constant 0) 0) warning_checked))) (value_found warning_place warning_valued))
        (then_finds _ _ (then_finds _ _ (character_found 87) (value_found (constant_value (constant_operand 87) 87) (constant_valued 87))) (binary_found Eq (found valued_warning warning_exp false) (constant_value (valued_constant 87) 87) (warned_checked 87))))
    condition_found h Error = tested_found (condition Error) _
        (then_finds _ _ (then_finds _ _ (area_found (codes "sqlcode") 16 h.name h.code h.code_at) (value_found code_place code_valued))
        (then_finds _ _ (then_finds _ _ (constant_found 0) (value_found (constant_value (constant_operand 0) 0) (constant_valued 0))) (binary_found Lt code_value (constant_value (valued_constant 0) 0) (less_checked 0))))
