-- The checks of references leave what is known as it is.
use Rattle.std.proofs.Common.{◌≡◌, ◌∙◌, ℕ, Bool, true, false, [], ◌∷◌, refl, Option, Some, None, if◌then◌else◌}
use Rattle.std.specs.Prelude.{codes, pos, is_some}
use Rattle.ec_base.specs.declared.fault.FaultKind.{FaultKind}
use Rattle.ec_base.specs.declared.fault.FaultKind.TheVariants.{F11, F14}
use Rattle.ec_base.specs.declared.fault.LimitKind.{LimitKind}
use Rattle.ec_ctypes.specs.trees.Types.{TyData, arithmetic, structure}
use Rattle.ec_ctypes.specs.trees.Exprs.{ExprData, integer, identifier, index, member, arrow}
use Rattle.ec_language.specs.Letters.{Text, same_text}
use Rattle.ec_typing_defs.specs.statement_parts.References.{References}
use Rattle.ec_typing_defs.specs.Known.{known_function}
use Rattle.ec_typing_defs.specs.Types.{int_type}
use Rattle.ec_typing_defs.specs.Operands.{OperandData, unknown, object_operand, null_operand, integer_operand, given, predefined, named_by, name_rule, value_rule, element_by, index_rule, member_by, member_in, member_rule, arrow_rule}
use Rattle.ec_typing_defs.specs.Worlds.{Place, EntryData, object, function, World, Rule, chain, pure, ask, note, keep_within}
use Rattle.ec_typing_defs.specs.Expressions.{expr}
use Rattle.ec_typing_defs.specs.Embedded.{reference_rule, members_rule, references_rule}
use Rattle.ec_sim_world_laws.specs.place.References.{IsIndex, IsReference}
use Rattle.ec_sim_host_laws.specs.reference.Found.{AreReferences}

pub record Stays {A : Type 0} (m : Rule A) : Type 0 where
  pub world : (w : World) → (m w).world ≡ w

pub chained : {A B : Type 0} {m : Rule A} {f : A → Rule B} → Stays m → ((a : A) → Stays (f a)) → Stays (chain m f)
unfolding chain
chained {m = m} {f = f} h k = record { world = λ w. (k (m w).answer).world (m w).world ∙ h.world w }

pub pure_stays : {A : Type 0} (a : A) → Stays (pure a)
unfolding pure
pure_stays a = record { world = λ w. refl }

pub asked : {A B : Type 0} (g : World → A) {f : A → Rule B} → ((a : A) → Stays (f a)) → Stays (chain (ask g) f)
unfolding chain ask
asked g k = record { world = λ w. (k (g w)).world w }

note_stays : (at : Place) (kind : FaultKind) → Stays (note at kind)
unfolding note
note_stays at kind = record { world = λ w. refl }

fault : {A : Type 0} (at : Place) (kind : FaultKind) (a : A) → Stays (chain (note at kind) (λ u. pure a))
fault at kind a = chained (note_stays at kind) (λ u. pure_stays a)

keep_stays : (at : Place) (kind : LimitKind) (b : Bool) → Stays (keep_within at kind b)
unfolding keep_within
keep_stays at kind true = pure_stays tt
keep_stays at kind false = record { world = λ w. refl }

chosen : {A : Type 0} (b : Bool) {x y : Rule A} → Stays x → Stays y → Stays (elim b [ true ↦ x | false ↦ y ])
chosen true h k = h
chosen false h k = k

decided : {A : Type 0} (b : Bool) {x y : Rule A} → Stays x → Stays y → Stays (if b then x else y)
decided true h k = h
decided false h k = k

-- ---- operands

given_stays : (t : Option TyData) {f : TyData → Rule OperandData} → ((s : TyData) → Stays (f s)) → Stays (given t f)
given_stays None k = pure_stays _
given_stays (Some t) k = k t

predefined_stays : (at : Place) (name : Text) → Stays (predefined at name)
predefined_stays at name =
    decided (same_text name (codes "sqlca")) (pure_stays (object_operand true (Some (structure 1))))
    (decided (same_text name (codes "NULL")) (pure_stays null_operand)
    (decided (same_text name (codes "true")) (pure_stays (integer_operand int_type (pos 1)))
    (decided (same_text name (codes "false")) (pure_stays (integer_operand int_type (pos 0)))
    (decided (is_some (known_function name)) (fault at F14 unknown) (fault at F11 unknown)))))

named_stays : (at : Place) (name : Text) (e : Option EntryData) → Stays (named_by at name e)
unfolding named_by
named_stays at name (Some (object k global t)) = pure_stays _
named_stays at name (Some (function k done r ps)) = fault _ _ _
named_stays at name None = predefined_stays at name

pub name_stays : (at : Place) (name : Text) → Stays (name_rule at name)
unfolding name_rule
name_stays at name = asked _ (λ entry. named_stays at name entry)

pub value_stays : (at : Place) (o : OperandData) → Stays (value_rule at o)
unfolding value_rule
value_stays at o = given_stays o.type (λ t. asked _ (λ complete. chosen _ (fault _ _ _) (pure_stays _)))

element_stays : (at : Place) (t : Option TyData) → Stays (element_by at t)
element_stays at (Some t) = pure_stays _
element_stays at None = fault _ _ _

pub index_stays : (at : Place) (a b : OperandData) → Stays (index_rule at a b)
unfolding index_rule
index_stays at a b = given_stays a.type (λ s. given_stays b.type (λ t. asked _ (λ ty. element_stays at ty)))

member_by_stays : (at : Place) (of_place : Bool) (t : Option (Option TyData)) → Stays (member_by at of_place t)
member_by_stays at of_place (Some t) = pure_stays _
member_by_stays at of_place None = fault _ _ _

member_in_stays : (at : Place) (of_place : Bool) (m : Text) (k : Option ℕ) → Stays (member_in at of_place m k)
member_in_stays at of_place m None = fault _ _ _
member_in_stays at of_place m (Some k) = asked _ (λ found. member_by_stays at of_place found)

pub member_stays : (at : Place) (o : OperandData) (m : Text) → Stays (member_rule at o m)
unfolding member_rule
member_stays at o m = given_stays o.type (λ t. member_in_stays at o.is_place m _)

pub arrow_stays : (at : Place) (o : OperandData) (m : Text) → Stays (arrow_rule at o m)
unfolding arrow_rule
arrow_stays at o m = given_stays o.type (λ t. member_in_stays at true m _)

-- ---- references

valued : (at : Place) {m : Rule OperandData} → Stays m → Stays (chain m (value_rule at))
valued at h = chained h (λ o. value_stays at o)

part_stays : (at : Place) (b : ExprData) → IsIndex b → Stays (expr at b)
part_stays at (integer n (arithmetic a)) p = pure_stays _
part_stays at (identifier x) p = name_stays at x
part_stays at _ p = absurd p

-- an index as a value
pub index_part_stays : (at : Place) (b : ExprData) → IsIndex b → Stays (chain (expr at b) (value_rule at))
index_part_stays at b p = valued at (part_stays at b p)

pub expr_stays : (at : Place) (e : ExprData) → IsReference e → Stays (expr at e)
expr_stays at (identifier x) p = name_stays at x
expr_stays at (index a b) p = chained (valued at (expr_stays at a p.0)) (λ x. chained (index_part_stays at b p.1) (λ y. index_stays at x y))
expr_stays at (member e m) p = chained (expr_stays at e p) (λ o. member_stays at o m)
expr_stays at (arrow e m) p = chained (valued at (expr_stays at e p)) (λ o. arrow_stays at o m)
expr_stays at _ p = absurd p

pub expr_value_stays : (at : Place) (e : ExprData) → IsReference e → Stays (chain (expr at e) (value_rule at))
expr_value_stays at e p = valued at (expr_stays at e p)

pub reference_stays : (at : Place) (e : ExprData) → IsReference e → Stays (reference_rule at e)
unfolding reference_rule
reference_stays at e p = asked _ (λ alone. chosen alone (pure_stays _) (expr_stays at e p))

pub members_stay : (at : Place) (is_host : Bool) (t : Option TyData) → Stays (members_rule at is_host t)
unfolding members_rule
members_stay at is_host t = asked _ (λ few. keep_stays _ _ _)

pub references_stay : (at : Place) (rs : References) → AreReferences rs → Stays (references_rule at rs)
references_stay at [] p = pure_stays _
references_stay at (r ∷ rs) p =
    chained (reference_stays at r.value p.0) (λ o. chained (members_stay at r.is_host o.type) (λ u. references_stay at rs p.1))
