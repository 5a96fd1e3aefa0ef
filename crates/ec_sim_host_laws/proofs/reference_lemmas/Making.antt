-- The resolved walk makes nothing for references.
use Rattle.std.proofs.Common.{◌≡◌, ◌∙◌, Bool, true, false, [], ◌∷◌, refl}
use Rattle.ec_ctypes.specs.trees.Exprs.{ExprData, integer, identifier, index, member, arrow}
use Rattle.ec_ctypes.specs.trees.Types.{arithmetic}
use Rattle.ec_language.specs.Letters.{Text}
use Rattle.ec_typing_defs.specs.statement_parts.References.{References}
use Rattle.ec_typing_defs.specs.Operands.{OperandData}
use Rattle.ec_typing_defs.specs.Worlds.{Place, World, Rule}
use Rattle.ec_resolving_defs.specs.Storage.{Storage, Resolving, chain, pure, checks, ask, stored}
use Rattle.ec_resolving_defs.specs.Operands.{Found, with_form, name_rule, value_rule, index_rule, member_rule, arrow_rule}
use Rattle.ec_resolving_defs.specs.Expressions.{expr}
use Rattle.ec_resolving_defs.specs.Embedded.{reference_rule, references_rule}
use Rattle.ec_sim_world_laws.specs.place.References.{IsIndex, IsReference}
use Rattle.ec_sim_host_laws.specs.reference.Found.{AreReferences}
use Rattle.ec_sim_host_laws.proofs.reference_lemmas.Staying.{Stays, name_stays, value_stays, index_stays, member_stays, arrow_stays}

pub record Leaves {A : Type 0} (m : Resolving A) : Type 0 where
  pub storage : (s : Storage) (w : World) → (m s w).storage ≡ s
  pub world : (s : Storage) (w : World) → (m s w).world ≡ w

pub chained : {A B : Type 0} {m : Resolving A} {f : A → Resolving B} → Leaves m → ((a : A) → Leaves (f a)) → Leaves (chain m f)
unfolding chain
chained {m = m} {f = f} h k = record {
  storage = λ s w. (k (m s w).answer).storage (m s w).storage (m s w).world ∙ h.storage s w;
  world = λ s w. (k (m s w).answer).world (m s w).storage (m s w).world ∙ h.world s w;
}

pure_leaves : {A : Type 0} (a : A) → Leaves (pure a)
unfolding pure
pure_leaves a = record { storage = λ s w. refl; world = λ s w. refl }

asked : {A B : Type 0} (g : World → A) {f : A → Resolving B} → ((a : A) → Leaves (f a)) → Leaves (chain (ask g) f)
unfolding chain ask
asked g k = record { storage = λ s w. (k (g w)).storage s w; world = λ s w. (k (g w)).world s w }

stored_then : {A B : Type 0} (g : Storage → A) {f : A → Resolving B} → ((a : A) → Leaves (f a)) → Leaves (chain (stored g) f)
unfolding chain stored
stored_then g k = record { storage = λ s w. (k (g s)).storage s w; world = λ s w. (k (g s)).world s w }

checks_leave : {A : Type 0} (m : Rule A) → Stays m → Leaves (checks m)
unfolding checks
checks_leave m h = record { storage = λ s w. refl; world = λ s w. h.world w }

chosen : {A : Type 0} (b : Bool) {x y : Resolving A} → Leaves x → Leaves y → Leaves (elim b [ true ↦ x | false ↦ y ])
chosen true h k = h
chosen false h k = k

-- ---- operands

form_leaves : (f : OperandData → Found) (m : Rule OperandData) → Stays m → Leaves (with_form f m)
form_leaves f m h = chained (checks_leave m h) (λ o. pure_leaves _)

name_leaves : (at : Place) (name : Text) → Leaves (name_rule at name)
name_leaves at name = asked _ (λ entry. stored_then _ (λ sites. chained (checks_leave _ (name_stays at name)) (λ o. pure_leaves _)))

value_leaves : (at : Place) (f : Found) → Leaves (value_rule at f)
value_leaves at f = form_leaves _ _ (value_stays at f.operand)

valued : (at : Place) {m : Resolving Found} → Leaves m → Leaves (chain m (value_rule at))
valued at h = chained h (λ f. value_leaves at f)

index_leaves : (at : Place) (a b : Found) → Leaves (index_rule at a b)
index_leaves at a b = asked _ (λ e. form_leaves _ _ (index_stays at a.operand b.operand))

member_leaves : (at : Place) (f : Found) (m : Text) → Leaves (member_rule at f m)
member_leaves at f m = asked _ (λ e. form_leaves _ _ (member_stays at f.operand m))

arrow_leaves : (at : Place) (f : Found) (m : Text) → Leaves (arrow_rule at f m)
arrow_leaves at f m = asked _ (λ e. form_leaves _ _ (arrow_stays at f.operand m))

-- ---- references

part_leaves : (at : Place) (b : ExprData) → IsIndex b → Leaves (expr at b)
part_leaves at (integer n (arithmetic a)) p = pure_leaves _
part_leaves at (identifier x) p = name_leaves at x
part_leaves at _ p = absurd p

-- an index as a value
pub index_part_leaves : (at : Place) (b : ExprData) → IsIndex b → Leaves (chain (expr at b) (value_rule at))
index_part_leaves at b p = valued at (part_leaves at b p)

pub expr_leaves : (at : Place) (e : ExprData) → IsReference e → Leaves (expr at e)
expr_leaves at (identifier x) p = name_leaves at x
expr_leaves at (index a b) p = chained (valued at (expr_leaves at a p.0)) (λ x. chained (index_part_leaves at b p.1) (λ y. index_leaves at x y))
expr_leaves at (member e m) p = chained (expr_leaves at e p) (λ f. member_leaves at f m)
expr_leaves at (arrow e m) p = chained (valued at (expr_leaves at e p)) (λ f. arrow_leaves at f m)
expr_leaves at _ p = absurd p

pub expr_value_leaves : (at : Place) (e : ExprData) → IsReference e → Leaves (chain (expr at e) (value_rule at))
expr_value_leaves at e p = valued at (expr_leaves at e p)

pub reference_leaves : (at : Place) (e : ExprData) → IsReference e → Leaves (reference_rule at e)
reference_leaves at e p = asked _ (λ alone. chosen alone (pure_leaves _) (expr_leaves at e p))

pub references_leave : (at : Place) (rs : References) → AreReferences rs → Leaves (references_rule at rs)
references_leave at [] p = pure_leaves _
references_leave at (r ∷ rs) p = chained (reference_leaves at r.value p.0) (λ f. chained (references_leave at rs p.1) (λ more. pure_leaves _))
