-- The checks of references that make nothing leave what is known as it is.
use Rattle.std.proofs.Common.{◌≡◌, ◌∙◌, ℕ, Bool, true, false, not, ◌&&◌, List, [], ◌∷◌, ◌++◌, refl, sym, Option, Some, None, if◌then◌else◌}
use Rattle.std.proofs.lemmas.Bool.{false≢true}
use Rattle.std.specs.Prelude.{codes, pos, is_some}
use Rattle.ec_base.specs.declared.fault.FaultKind.{FaultKind}
use Rattle.ec_base.specs.declared.fault.FaultKind.TheVariants.{F11, F14, F29}
use Rattle.ec_base.specs.declared.fault.LimitKind.{LimitKind}
use Rattle.ec_ctypes.specs.trees.Types.{TyData, structure}
use Rattle.ec_ctypes.specs.trees.Embedded.{EmbData}
use Rattle.ec_ctypes.specs.trees.Exprs.{ExprData, integer, character, identifier, index, member, arrow}
use Rattle.ec_language.specs.Letters.{Text, same_text}
use Rattle.ec_typing_defs.specs.statement_parts.Handlers.{is_directive}
use Rattle.ec_typing_defs.specs.statement_parts.References.{References, references}
use Rattle.ec_typing_defs.specs.Tables.{Named}
use Rattle.ec_typing_defs.specs.Known.{known_function}
use Rattle.ec_typing_defs.specs.Types.{int_type}
use Rattle.ec_typing_defs.specs.Operands.{OperandData, unknown, object_operand, null_operand, integer_operand, given, predefined, named_by, name_rule, value_rule, element_by, index_rule, member_by, member_in, member_rule, arrow_rule}
use Rattle.ec_typing_defs.specs.Worlds.{Place, EntryData, object, function, World, Rule, chain, pure, ask, change, note, demand, keep_within}
use Rattle.ec_typing_defs.specs.Expressions.{expr}
use Rattle.ec_typing_defs.specs.Embedded.{reference_rule, members_rule, references_rule, actions_rule, denoted_in, denote, variables_of, embedded_rule}
use Rattle.ec_sim_statement_laws.specs.expression.Rules.{none_before, none_behind}
use Rattle.ec_sim_program_laws.specs.directive.References.{MakesNothing, MakeNothing}

pub record Stays {A : Type 0} (m : Rule A) : Type 0 where
  pub world : (w : World) → (m w).world ≡ w

pub chained : {A B : Type 0} {m : Rule A} {f : A → Rule B} → Stays m → ((a : A) → Stays (f a)) → Stays (chain m f)
unfolding chain
chained {m = m} {f = f} h k = record { world = λ w. (k (m w).answer).world (m w).world ∙ h.world w }

pub pure_stays : {A : Type 0} (a : A) → Stays (pure a)
unfolding pure
pure_stays a = record { world = λ w. refl }

pub asked : {A B : Type 0} (g : World → A) {f : A → Rule B} → ((a : A) → Stays (f a)) → Stays (chain (ask g) f)
unfolding chain ask
asked g k = record { world = λ w. (k (g w)).world w }

note_stays : (at : Place) (kind : FaultKind) → Stays (note at kind)
unfolding note
note_stays at kind = record { world = λ w. refl }

fault : {A : Type 0} (at : Place) (kind : FaultKind) (a : A) → Stays (chain (note at kind) (λ u. pure a))
fault at kind a = chained (note_stays at kind) (λ u. pure_stays a)

demand_stays : (at : Place) (kind : FaultKind) (b : Bool) → Stays (demand at kind b)
unfolding demand
demand_stays at kind true = pure_stays tt
demand_stays at kind false = note_stays at kind

keep_stays : (at : Place) (kind : LimitKind) (b : Bool) → Stays (keep_within at kind b)
unfolding keep_within
keep_stays at kind true = pure_stays tt
keep_stays at kind false = record { world = λ w. refl }

chosen : {A : Type 0} (b : Bool) {x y : Rule A} → Stays x → Stays y → Stays (elim b [ true ↦ x | false ↦ y ])
chosen true h k = h
chosen false h k = k

decided : {A : Type 0} (b : Bool) {x y : Rule A} → Stays x → Stays y → Stays (if b then x else y)
decided true h k = h
decided false h k = k

-- ---- operands

given_stays : (t : Option TyData) {f : TyData → Rule OperandData} → ((s : TyData) → Stays (f s)) → Stays (given t f)
given_stays None k = pure_stays _
given_stays (Some t) k = k t

predefined_stays : (at : Place) (name : Text) → Stays (predefined at name)
predefined_stays at name =
    decided (same_text name (codes "sqlca")) (pure_stays (object_operand true (Some (structure 1))))
    (decided (same_text name (codes "NULL")) (pure_stays null_operand)
    (decided (same_text name (codes "true")) (pure_stays (integer_operand int_type (pos 1)))
    (decided (same_text name (codes "false")) (pure_stays (integer_operand int_type (pos 0)))
    (decided (is_some (known_function name)) (fault at F14 unknown) (fault at F11 unknown)))))

named_stays : (at : Place) (name : Text) (e : Option EntryData) → Stays (named_by at name e)
unfolding named_by
named_stays at name (Some (object k global t)) = pure_stays _
named_stays at name (Some (function k done r ps)) = fault _ _ _
named_stays at name None = predefined_stays at name

pub name_stays : (at : Place) (name : Text) → Stays (name_rule at name)
unfolding name_rule
name_stays at name = asked _ (λ entry. named_stays at name entry)

pub value_stays : (at : Place) (o : OperandData) → Stays (value_rule at o)
unfolding value_rule
value_stays at o = given_stays o.type (λ t. asked _ (λ complete. chosen _ (fault _ _ _) (pure_stays _)))

element_stays : (at : Place) (t : Option TyData) → Stays (element_by at t)
element_stays at (Some t) = pure_stays _
element_stays at None = fault _ _ _

pub index_stays : (at : Place) (a b : OperandData) → Stays (index_rule at a b)
unfolding index_rule
index_stays at a b = given_stays a.type (λ s. given_stays b.type (λ t. asked _ (λ ty. element_stays at ty)))

member_by_stays : (at : Place) (of_place : Bool) (t : Option (Option TyData)) → Stays (member_by at of_place t)
member_by_stays at of_place (Some t) = pure_stays _
member_by_stays at of_place None = fault _ _ _

member_in_stays : (at : Place) (of_place : Bool) (m : Text) (k : Option ℕ) → Stays (member_in at of_place m k)
member_in_stays at of_place m None = fault _ _ _
member_in_stays at of_place m (Some k) = asked _ (λ found. member_by_stays at of_place found)

pub member_stays : (at : Place) (o : OperandData) (m : Text) → Stays (member_rule at o m)
unfolding member_rule
member_stays at o m = given_stays o.type (λ t. member_in_stays at o.is_place m _)

pub arrow_stays : (at : Place) (o : OperandData) (m : Text) → Stays (arrow_rule at o m)
unfolding arrow_rule
arrow_stays at o m = given_stays o.type (λ t. member_in_stays at true m _)

-- ---- references

valued : (at : Place) {m : Rule OperandData} → Stays m → Stays (chain m (value_rule at))
valued at h = chained h (λ o. value_stays at o)

expr_stays : (at : Place) (e : ExprData) → MakesNothing e → Stays (expr at e)
expr_stays at (integer n t) p = pure_stays _
expr_stays at (character c) p = pure_stays _
expr_stays at (identifier x) p = name_stays at x
expr_stays at (index a b) p = chained (valued at (expr_stays at a p.0)) (λ x. chained (valued at (expr_stays at b p.1)) (λ y. index_stays at x y))
expr_stays at (member e m) p = chained (expr_stays at e p) (λ o. member_stays at o m)
expr_stays at (arrow e m) p = chained (valued at (expr_stays at e p)) (λ o. arrow_stays at o m)
expr_stays at _ p = absurd p

reference_stays : (at : Place) (e : ExprData) → MakesNothing e → Stays (reference_rule at e)
unfolding reference_rule
reference_stays at e p = asked _ (λ alone. chosen alone (pure_stays _) (expr_stays at e p))

members_stay : (at : Place) (is_host : Bool) (t : Option TyData) → Stays (members_rule at is_host t)
unfolding members_rule
members_stay at is_host t = asked _ (λ few. keep_stays _ _ _)

references_stay : (at : Place) (rs : References) → MakeNothing rs → Stays (references_rule at rs)
references_stay at [] p = pure_stays _
references_stay at (r ∷ rs) p =
    chained (reference_stays at r.value p.0) (λ o. chained (members_stay at r.is_host o.type) (λ u. references_stay at rs p.1))

-- ---- directives

-- what is known behind them
abbrev pub denoting : List Text → World → World
denoting names w = record w { denoted = w.denoted ++ denoted_in w names ∷ [] }

record Denotes {A : Type 0} (names : List Text) (m : Rule A) : Type 0 where
  pub world : (w : World) → (m w).world ≡ denoting names w

first : {A B : Type 0} {names : List Text} {m : Rule A} {f : A → Rule B} → Stays m → ((a : A) → Denotes names (f a)) → Denotes names (chain m f)
unfolding chain
first {names = names} {m = m} {f = f} h k = record { world = λ w. (k (m w).answer).world (m w).world ∙ (λ i. denoting names (h.world w i)) }

denoted_then : {B : Type 0} (names : List Text) {f : Unit {0} → Rule B} → ((u : Unit {0}) → Stays (f u)) → Denotes names (chain (denote names) f)
unfolding chain denote change
denoted_then names k = record { world = λ w. (k tt).world (denoting names w) }

-- nothing is tested behind it
unhandled : (b : Bool) (x y : Rule (Unit {0})) → b ≡ true → Stays x → Stays (elim b [ true ↦ x | false ↦ y ])
unhandled true x y d h = h
unhandled false x y d h = absurd (false≢true d)

pub directive_checked : (es : List EmbData) (body loop : Bool) (labels : Named (Unit {0})) (at : Place) (n : ℕ) (e : EmbData) → is_directive e ≡ true → MakeNothing (references e)
    → (w : World) → (embedded_rule es body loop labels at n e w).world ≡ denoting (variables_of es n e) w
directive_checked es body loop labels at n e d p w = found.world w
  where
    found : Denotes (variables_of es n e) (embedded_rule es body loop labels at n e)
    found = first (demand_stays _ _ _) (λ a. first (references_stay at (references e) p) (λ b.
        denoted_then (variables_of es n e) (λ u. unhandled (is_directive e) (pure tt) (actions_rule es loop labels at e) d (pure_stays tt))))

-- its references have no fault where it has none
pub references_clean : (es : List EmbData) (body loop : Bool) (labels : Named (Unit {0})) (at : Place) (n : ℕ) (e : EmbData) (w : World)
    → (embedded_rule es body loop labels at n e w).found ≡ [] → (references_rule at (references e) w).found ≡ []
unfolding chain
references_clean es body loop labels at n e w none =
    let o = demand at F29 (not (body && is_directive e)) w in
    (λ i. (references_rule at (references e) (sym ((demand_stays at F29 (not (body && is_directive e))).world w) i)).found)
    ∙ none_before (references_rule at (references e) o.world).found _ (none_behind o.found _ none)
