-- The same of the resolved walk: it makes nothing for such references, and of a directive its form.
use Rattle.std.proofs.Common.{◌≡◌, ◌∙◌, ℕ, Bool, true, false, List, [], ◌∷◌, refl}
use Rattle.std.proofs.lemmas.Bool.{false≢true}
use Rattle.ec_ctypes.specs.trees.Embedded.{EmbData}
use Rattle.ec_ctypes.specs.trees.Exprs.{ExprData, integer, character, identifier, index, member, arrow}
use Rattle.ec_language.specs.Letters.{Text}
use Rattle.ec_typing_defs.specs.statement_parts.Handlers.{is_directive}
use Rattle.ec_typing_defs.specs.statement_parts.References.{References, references}
use Rattle.ec_typing_defs.specs.Tables.{Named}
use Rattle.ec_typing_defs.specs.Embedded.{denote, variables_of}
use Rattle.ec_typing_defs.specs.Operands.{OperandData}
use Rattle.ec_typing_defs.specs.Worlds.{Place, World, Rule, change}
use Rattle.ec_resolving_defs.specs.Storage.{ReferenceForm, StatementForm, ActionForms, no_actions, Storage, with_statement, Resolving, reached, chain, pure, checks, ask, stored, arrange}
use Rattle.ec_resolving_defs.specs.Operands.{Found, with_form, name_rule, value_rule, index_rule, member_rule, arrow_rule}
use Rattle.ec_resolving_defs.specs.Expressions.{expr}
use Rattle.ec_resolving_defs.specs.Embedded.{reference_rule, references_rule, actions_rule, embedded_rule}
use Rattle.ec_sim_program_laws.specs.directive.References.{MakesNothing, MakeNothing}
use Rattle.ec_sim_program_laws.proofs.directive_lemmas.Staying.{Stays, name_stays, value_stays, index_stays, member_stays, arrow_stays, denoting}

pub record Leaves {A : Type 0} (m : Resolving A) : Type 0 where
  pub storage : (s : Storage) (w : World) → (m s w).storage ≡ s
  pub world : (s : Storage) (w : World) → (m s w).world ≡ w

chained : {A B : Type 0} {m : Resolving A} {f : A → Resolving B} → Leaves m → ((a : A) → Leaves (f a)) → Leaves (chain m f)
unfolding chain
chained {m = m} {f = f} h k = record {
  storage = λ s w. (k (m s w).answer).storage (m s w).storage (m s w).world ∙ h.storage s w;
  world = λ s w. (k (m s w).answer).world (m s w).storage (m s w).world ∙ h.world s w;
}

pure_leaves : {A : Type 0} (a : A) → Leaves (pure a)
unfolding pure
pure_leaves a = record { storage = λ s w. refl; world = λ s w. refl }

asked : {A B : Type 0} (g : World → A) {f : A → Resolving B} → ((a : A) → Leaves (f a)) → Leaves (chain (ask g) f)
unfolding chain ask
asked g k = record { storage = λ s w. (k (g w)).storage s w; world = λ s w. (k (g w)).world s w }

stored_then : {A B : Type 0} (g : Storage → A) {f : A → Resolving B} → ((a : A) → Leaves (f a)) → Leaves (chain (stored g) f)
unfolding chain stored
stored_then g k = record { storage = λ s w. (k (g s)).storage s w; world = λ s w. (k (g s)).world s w }

checks_leave : {A : Type 0} (m : Rule A) → Stays m → Leaves (checks m)
unfolding checks
checks_leave m h = record { storage = λ s w. refl; world = λ s w. h.world w }

chosen : {A : Type 0} (b : Bool) {x y : Resolving A} → Leaves x → Leaves y → Leaves (elim b [ true ↦ x | false ↦ y ])
chosen true h k = h
chosen false h k = k

-- ---- operands

form_leaves : (f : OperandData → Found) (m : Rule OperandData) → Stays m → Leaves (with_form f m)
form_leaves f m h = chained (checks_leave m h) (λ o. pure_leaves _)

name_leaves : (at : Place) (name : Text) → Leaves (name_rule at name)
name_leaves at name = asked _ (λ entry. stored_then _ (λ sites. chained (checks_leave _ (name_stays at name)) (λ o. pure_leaves _)))

value_leaves : (at : Place) (f : Found) → Leaves (value_rule at f)
value_leaves at f = form_leaves _ _ (value_stays at f.operand)

valued : (at : Place) {m : Resolving Found} → Leaves m → Leaves (chain m (value_rule at))
valued at h = chained h (λ f. value_leaves at f)

index_leaves : (at : Place) (a b : Found) → Leaves (index_rule at a b)
index_leaves at a b = asked _ (λ e. form_leaves _ _ (index_stays at a.operand b.operand))

member_leaves : (at : Place) (f : Found) (m : Text) → Leaves (member_rule at f m)
member_leaves at f m = asked _ (λ e. form_leaves _ _ (member_stays at f.operand m))

arrow_leaves : (at : Place) (f : Found) (m : Text) → Leaves (arrow_rule at f m)
arrow_leaves at f m = asked _ (λ e. form_leaves _ _ (arrow_stays at f.operand m))

-- ---- references

expr_leaves : (at : Place) (e : ExprData) → MakesNothing e → Leaves (expr at e)
expr_leaves at (integer n t) p = pure_leaves _
expr_leaves at (character c) p = pure_leaves _
expr_leaves at (identifier x) p = name_leaves at x
expr_leaves at (index a b) p = chained (valued at (expr_leaves at a p.0)) (λ x. chained (valued at (expr_leaves at b p.1)) (λ y. index_leaves at x y))
expr_leaves at (member e m) p = chained (expr_leaves at e p) (λ f. member_leaves at f m)
expr_leaves at (arrow e m) p = chained (valued at (expr_leaves at e p)) (λ f. arrow_leaves at f m)
expr_leaves at _ p = absurd p

reference_leaves : (at : Place) (e : ExprData) → MakesNothing e → Leaves (reference_rule at e)
reference_leaves at e p = asked _ (λ alone. chosen alone (pure_leaves _) (expr_leaves at e p))

references_leave : (at : Place) (rs : References) → MakeNothing rs → Leaves (references_rule at rs)
references_leave at [] p = pure_leaves _
references_leave at (r ∷ rs) p = chained (reference_leaves at r.value p.0) (λ f. chained (references_leave at rs p.1) (λ more. pure_leaves _))

-- ---- directives

abbrev pub form_of : ℕ → List ReferenceForm → StatementForm
form_of n rs = record { number = n; references = rs; actions = no_actions }

first : {A B : Type 0} {m : Resolving A} (f : A → Resolving B) → Leaves m → (s : Storage) (w : World) → chain m f s w ≡ f (m s w).answer s w
unfolding chain
first {m = m} f h s w = λ i. f (m s w).answer (h.storage s w i) (h.world s w i)

-- what is done behind the references of a statement with these names, if it is a directive
abbrev behind_references : List Text → ℕ → Bool → Resolving ActionForms → List ReferenceForm → Resolving (Unit {0})
behind_references names n b y rs =
    chain (checks (denote names)) (λ u. chain (elim b [ true ↦ pure no_actions | false ↦ y ]) (λ actions. arrange (with_statement (record { number = n; references = rs; actions = actions }))))

formed : (names : List Text) (n : ℕ) (b : Bool) (y : Resolving ActionForms) (rs : List ReferenceForm) → b ≡ true → (s : Storage) (w : World)
    → behind_references names n b y rs s w ≡ reached tt (with_statement (form_of n rs) s) (denoting names w)
unfolding chain checks denote change pure arrange
formed names n true y rs d s w = refl
formed names n false y rs d s w = absurd (false≢true d)

pub directive_resolved : (es : List EmbData) (labels : Named (Unit {0})) (at : Place) (n : ℕ) (e : EmbData) → is_directive e ≡ true → MakeNothing (references e)
    → (s : Storage) (w : World) → embedded_rule es labels at n e s w
    ≡ reached tt (with_statement (form_of n (references_rule at (references e) s w).answer) s) (denoting (variables_of es n e) w)
directive_resolved es labels at n e d p s w =
    first (behind_references (variables_of es n e) n (is_directive e) (actions_rule es labels at e)) (references_leave at (references e) p) s w
    ∙ formed (variables_of es n e) n (is_directive e) (actions_rule es labels at e) (references_rule at (references e) s w).answer d s w
