-- The references and the handlers of a statement are found in a scope and a block further in as they are found outside.
use Rattle.std.proofs.Common.{◌≡◌, ◌∙◌, Bool, true, false, List, [], ◌∷◌, map, refl, Option, Some, None}
use Rattle.ec_base.specs.declared.fault.FaultKind.{FaultKind}
use Rattle.ec_base.specs.declared.fault.FaultKind.TheVariants.{F30}
use Rattle.ec_base.specs.declared.fault.LimitKind.{LimitKind}
use Rattle.ec_base.specs.declared.stop.Stop.TheVariants.{Refused}
use Rattle.std.specs.Prelude.{nat_le}
use Rattle.ec_ctypes.specs.declared.checked.library.LibName.{LibName}
use Rattle.ec_ctypes.specs.declared.embedded.emb.Cond.TheVariants.{NotFound, Warning, Error}
use Rattle.ec_ctypes.specs.trees.Embedded.{ActionData, continue_action, goto_action, print_action, stop_action, break_action, next_action, call_action, EmbData}
use Rattle.ec_ctypes.specs.trees.Types.{TyData, void, arithmetic, pointer, array, structure}
use Rattle.ec_ctypes.specs.trees.Exprs.{ExprData, integer, character, string, identifier, call, index, member, arrow, ExprList, no_exprs, exprs}
use Rattle.ec_language.specs.Letters.{Text}
use Rattle.ec_typing_defs.specs.statement_parts.Handlers.{is_directive, handler}
use Rattle.ec_typing_defs.specs.statement_parts.References.{References}
use Rattle.ec_typing_defs.specs.Embedded as checked
use Rattle.ec_typing_defs.specs.Known.{ArgumentsData, is_no_expression}
use Rattle.ec_typing_defs.specs.Operands.{OperandData}
use Rattle.ec_typing_defs.specs.Tables.{Named}
use Rattle.ec_typing_defs.specs.Worlds as worlds
use Rattle.ec_typing_defs.specs.Worlds.{Place, World, Rule, entered}
use Rattle.ec_meaning_defs.specs.resolved.Resolved.{faulty}
use Rattle.ec_resolving_defs.specs.Embedded.{reference_rule, references_rule, action_rule, actions_rule, handlers_rule}
use Rattle.ec_resolving_defs.specs.Expressions.{library_literal, expr, args}
use Rattle.ec_resolving_defs.specs.Operands.{Found, over_types, as_value, value_rule, index_rule, member_rule, arrow_rule, name_rule, literal_rule, with_form, library_exp, function_called, called, call_rule, is_library_literal, done_alone}
use Rattle.ec_resolving_defs.specs.Storage.{BlockObjects, Storage, Resolving, reached, followed, chain, pure, checks, ask, stored, arrange, back_in_block}
use Rattle.ec_sim_world_laws.specs.test.Plain.{IsPlain, ArePlain, IsPlainOption, HasPlainActions}
use Rattle.ec_sim_world_laws.proofs.test_lemmas.Finding.{Finds, chained as both_find, pure_finds, asked as asked_find, call_alone_finds}
use Rattle.ec_sim_world_laws.proofs.test_lemmas.Layouts.{inside_layout, element_same, member_same, done_same}
use Rattle.ec_sim_world_laws.proofs.test_lemmas.Looking.{Looks, chained as both_look, pure_looks, asked as asked_look, plain_looks, name_looks, value_looks, index_looks, member_looks, arrow_looks, call_alone_looks}
use Rattle.ec_sim_world_laws.specs.place.References.{IsIndex, IsReference}
use Rattle.ec_sim_host_laws.specs.reference.Found.{AreReferences}

-- ---- in another block

-- a rule that neither looks at the block nor changes it
pub record Passes {A : Type 0} (m : Resolving A) : Type 0 where
  pub inside : (s : Storage) (b : BlockObjects) (w : World) → m (back_in_block b s) w ≡ reached (m s w).answer (back_in_block b (m s w).storage) (m s w).world
  pub block : (s : Storage) (w : World) → (m s w).storage.block ≡ s.block

chained : {A B : Type 0} {m : Resolving A} {f : A → Resolving B} → Passes m → ((a : A) → Passes (f a)) → Passes (chain m f)
unfolding chain
chained {m = m} {f = f} h k = record {
  inside = λ s b w. (λ i. followed (h.inside s b w i) f) ∙ (k (m s w).answer).inside (m s w).storage b (m s w).world;
  block = λ s w. (k (m s w).answer).block (m s w).storage (m s w).world ∙ h.block s w;
}

pure_passes : {A : Type 0} (a : A) → Passes (pure a)
unfolding pure
pure_passes a = record { inside = λ s b w. refl; block = λ s w. refl }

ask_passes : {A : Type 0} (g : World → A) → Passes (ask g)
unfolding ask
ask_passes g = record { inside = λ s b w. refl; block = λ s w. refl }

checks_pass : {A : Type 0} (m : Rule A) → Passes (checks m)
unfolding checks
checks_pass m = record { inside = λ s b w. refl; block = λ s w. refl }

stored_passes : {A : Type 0} (g : Storage → A) → ((s : Storage) (b : BlockObjects) → g (back_in_block b s) ≡ g s) → Passes (stored g)
unfolding stored
stored_passes g e = record { inside = λ s b w i. reached (e s b i) (back_in_block b s) w; block = λ s w. refl }

arrange_passes : (g : Storage → Storage) → ((s : Storage) (b : BlockObjects) → g (back_in_block b s) ≡ back_in_block b (g s)) → ((s : Storage) → (g s).block ≡ s.block) → Passes (arrange g)
unfolding arrange
arrange_passes g e k = record { inside = λ s b w i. reached tt (e s b i) w; block = λ s w. k s }

chosen : {A : Type 0} (b : Bool) {x y : Resolving A} → Passes x → Passes y → Passes (elim b [ true ↦ x | false ↦ y ])
chosen true h k = h
chosen false h k = k

-- ---- operands

form_passes : (f : OperandData → Found) (m : Rule OperandData) → Passes (with_form f m)
form_passes f m = chained (checks_pass m) (λ o. pure_passes _)

name_passes : (at : Place) (name : Text) → Passes (name_rule at name)
name_passes at name = chained (ask_passes _) (λ entry. chained (stored_passes _ (λ s b. refl)) (λ sites. chained (checks_pass _) (λ o. pure_passes _)))

literal_passes : (text : Text) → Passes (literal_rule text)
literal_passes text = chained (stored_passes _ (λ s b. refl)) (λ e. chained (arrange_passes _ (λ s b. refl) (λ s. refl)) (λ u. pure_passes _))

value_passes : (at : Place) (f : Found) → Passes (value_rule at f)
value_passes at f = form_passes _ _

valued : (at : Place) {m : Resolving Found} → Passes m → Passes (chain m (value_rule at))
valued at h = chained h (λ f. value_passes at f)

index_passes : (at : Place) (a b : Found) → Passes (index_rule at a b)
index_passes at a b = chained (ask_passes _) (λ e. form_passes _ _)

member_passes : (at : Place) (f : Found) (m : Text) → Passes (member_rule at f m)
member_passes at f m = chained (ask_passes _) (λ e. form_passes _ _)

arrow_passes : (at : Place) (f : Found) (m : Text) → Passes (arrow_rule at f m)
arrow_passes at f m = chained (ask_passes _) (λ e. form_passes _ _)

-- ---- calls

named_call_passes : (name : Text) (es : ExprList) (fs : List Found) (of_library : Option LibName)
    → Passes (elim of_library [ Some call_name ↦ library_exp call_name es fs | None ↦ function_called name es fs ])
named_call_passes name es fs (Some call_name) = chained (stored_passes _ (λ s b. refl)) (λ n. chained (arrange_passes _ (λ s b. refl) (λ s. refl)) (λ u. pure_passes _))
named_call_passes name es fs None = chained (stored_passes _ (λ s b. refl)) (λ defined. ask_passes _)

called_passes : (name : Text) (es : ExprList) (fs : List Found) → Passes (called name es fs)
called_passes name es fs = chained (ask_passes _) (λ of_library. named_call_passes name es fs of_library)

call_passes : (at : Place) (name : Text) (es : ExprList) (fs : List Found) → Passes (call_rule at name es fs)
call_passes at name es fs = chained (called_passes name es fs) (λ e. form_passes _ _)

-- ---- plain expressions, and calls with such arguments

library_literal_passes : (at : Place) (e : ExprData) → Passes (library_literal at e)
unfolding library_literal
library_literal_passes at e = form_passes (as_value faulty) _

plain_passes : (at : Place) (e : ExprData) → IsPlain e → Passes (expr at e)
plain_passes at (integer n t) p = pure_passes _
plain_passes at (character c) p = pure_passes _
plain_passes at (string s) p = literal_passes s
plain_passes at (identifier x) p = name_passes at x
plain_passes at (index a b) p = chained (valued at (plain_passes at a p.0)) (λ x. chained (valued at (plain_passes at b p.1)) (λ y. index_passes at x y))
plain_passes at (member e m) p = chained (plain_passes at e p) (λ o. member_passes at o m)
plain_passes at (arrow e m) p = chained (valued at (plain_passes at e p)) (λ o. arrow_passes at o m)
plain_passes at _ p = absurd p

plain_args_pass : (at : Place) (forms : ArgumentsData) (es : ExprList) → ArePlain es → Passes (args at forms es)
plain_args_pass at forms no_exprs p = pure_passes _
plain_args_pass at forms (exprs e es) p =
    chained (chosen (is_no_expression forms e) (pure_passes _) (chosen (is_library_literal forms e) (library_literal_passes at e) (valued at (plain_passes at e p.0)))) (λ f. chained (plain_args_pass at _ es p.1) (λ fs. pure_passes _))

call_alone_passes : (at : Place) (f : Text) (es : ExprList) → ArePlain es → Passes (expr at (call f es))
call_alone_passes at f es p = chained (ask_passes _) (λ forms. chained (plain_args_pass at forms es p) (λ fs. call_passes at f es fs))

-- ---- actions in another block

action_passes : (labels : Named (Unit {0})) (at : Place) (a : Option ActionData) → IsPlainOption a → Passes (action_rule labels at a)
action_passes labels at None p = pure_passes _
action_passes labels at (Some continue_action) p = pure_passes _
action_passes labels at (Some (goto_action l)) p = pure_passes _
action_passes labels at (Some print_action) p = pure_passes _
action_passes labels at (Some stop_action) p = pure_passes _
action_passes labels at (Some break_action) p = pure_passes _
action_passes labels at (Some next_action) p = pure_passes _
action_passes labels at (Some (call_action f es)) p = chained (chained (call_alone_passes at f es p) (λ x. ask_passes _)) (λ e. pure_passes _)

actions_pass : (es : List EmbData) (labels : Named (Unit {0})) (at : Place) (e : EmbData) → HasPlainActions es e → Passes (actions_rule es labels at e)
actions_pass es labels at e p =
    chained (action_passes labels at (handler es e.place NotFound) (p NotFound)) (λ a. chained (action_passes labels at (handler es e.place Warning) (p Warning)) (λ b.
    chained (action_passes labels at (handler es e.place Error) (p Error)) (λ c. pure_passes _)))

pub handlers_pass : (es : List EmbData) (labels : Named (Unit {0})) (at : Place) (e : EmbData) → HasPlainActions es e → Passes (handlers_rule es labels at e)
handlers_pass es labels at e p = chosen (is_directive e) (pure_passes _) (actions_pass es labels at e p)

-- ---- actions in another scope

ask_finds : {A : Type 0} (g : World → A) → ((w : World) → g (entered w) ≡ g w) → Finds (ask g)
unfolding ask
ask_finds g e = record { inside = λ s w i. reached (e w i) s (entered w); world = λ s w. refl }

chosen_find : {A : Type 0} (b : Bool) {x y : Resolving A} → Finds x → Finds y → Finds (elim b [ true ↦ x | false ↦ y ])
chosen_find true h k = h
chosen_find false h k = k

action_finds : (labels : Named (Unit {0})) (at : Place) (a : Option ActionData) → IsPlainOption a → Finds (action_rule labels at a)
action_finds labels at None p = pure_finds _
action_finds labels at (Some continue_action) p = pure_finds _
action_finds labels at (Some (goto_action l)) p = pure_finds _
action_finds labels at (Some print_action) p = pure_finds _
action_finds labels at (Some stop_action) p = pure_finds _
action_finds labels at (Some break_action) p = pure_finds _
action_finds labels at (Some next_action) p = pure_finds _
action_finds labels at (Some (call_action f es)) p = both_find (both_find (call_alone_finds at f es p) (λ x. ask_finds (λ w. done_alone w (call f es) x) (λ w. done_same (inside_layout w) (call f es) x))) (λ e. pure_finds _)

actions_find : (es : List EmbData) (labels : Named (Unit {0})) (at : Place) (e : EmbData) → HasPlainActions es e → Finds (actions_rule es labels at e)
actions_find es labels at e p =
    both_find (action_finds labels at (handler es e.place NotFound) (p NotFound)) (λ a. both_find (action_finds labels at (handler es e.place Warning) (p Warning)) (λ b.
    both_find (action_finds labels at (handler es e.place Error) (p Error)) (λ c. pure_finds _)))

pub handlers_find : (es : List EmbData) (labels : Named (Unit {0})) (at : Place) (e : EmbData) → HasPlainActions es e → Finds (handlers_rule es labels at e)
handlers_find es labels at e p = chosen_find (is_directive e) (pure_finds _) (actions_find es labels at e p)

note_looks : (at : Place) (kind : FaultKind) → Looks (worlds.note at kind)
unfolding worlds.note
note_looks at kind = record { inside = λ w. refl; world = λ w. refl }

demand_looks : (at : Place) (kind : FaultKind) (b : Bool) → Looks (worlds.demand at kind b)
unfolding worlds.demand
demand_looks at kind true = pure_looks tt
demand_looks at kind false = note_looks at kind

instead_looks : (at : Place) (kind : FaultKind) (m : Rule (Unit {0})) → Looks m → Looks (worlds.instead at kind m)
unfolding worlds.instead
instead_looks at kind m h = record {
  inside = λ w i. worlds.out tt (map (λ v. record { place = at.number; stop = Refused kind at.line }) (h.inside w i).found) (h.inside w i).world;
  world = λ w. h.world w;
}

chosen_look : {A : Type 0} (b : Bool) {x y : Rule A} → Looks x → Looks y → Looks (elim b [ true ↦ x | false ↦ y ])
chosen_look true h k = h
chosen_look false h k = k

action_looks : (in_loop : Bool) (labels : Named (Unit {0})) (at : Place) (a : Option ActionData) → IsPlainOption a → Looks (checked.action_rule in_loop labels at a)
action_looks in_loop labels at None p = pure_looks _
action_looks in_loop labels at (Some continue_action) p = pure_looks _
action_looks in_loop labels at (Some (goto_action l)) p = demand_looks _ _ _
action_looks in_loop labels at (Some print_action) p = pure_looks _
action_looks in_loop labels at (Some stop_action) p = pure_looks _
action_looks in_loop labels at (Some break_action) p = demand_looks _ _ _
action_looks in_loop labels at (Some next_action) p = demand_looks _ _ _
action_looks in_loop labels at (Some (call_action f es)) p = instead_looks at F30 _ (both_look (call_alone_looks at f es p) (λ o. pure_looks tt))

actions_look : (es : List EmbData) (in_loop : Bool) (labels : Named (Unit {0})) (at : Place) (e : EmbData) → HasPlainActions es e → Looks (checked.actions_rule es in_loop labels at e)
actions_look es in_loop labels at e p =
    both_look (action_looks in_loop labels at (handler es e.place NotFound) (p NotFound)) (λ a. both_look (action_looks in_loop labels at (handler es e.place Warning) (p Warning)) (λ b.
    action_looks in_loop labels at (handler es e.place Error) (p Error)))

pub handlers_look : (es : List EmbData) (in_loop : Bool) (labels : Named (Unit {0})) (at : Place) (e : EmbData) → HasPlainActions es e → Looks (checked.handlers_rule es in_loop labels at e)
handlers_look es in_loop labels at e p = chosen_look (is_directive e) (pure_looks tt) (actions_look es in_loop labels at e p)

-- ---- both

pub handlers_inside : (es : List EmbData) (labels : Named (Unit {0})) (at : Place) (e : EmbData) → HasPlainActions es e → (s : Storage) (b : BlockObjects) (w : World)
    → handlers_rule es labels at e (back_in_block b s) (entered w) ≡ reached (handlers_rule es labels at e s w).answer (back_in_block b (handlers_rule es labels at e s w).storage) (entered w)
handlers_inside es labels at e p s b w =
    (handlers_find es labels at e p).inside (back_in_block b s) w
    ∙ (λ i. reached ((handlers_pass es labels at e p).inside s b w i).answer ((handlers_pass es labels at e p).inside s b w i).storage (entered w))

-- ---- references

index_plain : (e : ExprData) → IsIndex e → IsPlain e
index_plain (integer n (arithmetic a)) h = tt
index_plain (identifier x) h = tt
index_plain _ h = absurd h

reference_plain : (e : ExprData) → IsReference e → IsPlain e
reference_plain (identifier x) h = tt
reference_plain (index a b) h = (reference_plain a h.0, index_plain b h.1)
reference_plain (member e m) h = reference_plain e h
reference_plain (arrow e m) h = reference_plain e h
reference_plain _ h = absurd h

-- whether it is a function's name alone
name_alone : (e : ExprData) → IsReference e → (w : World) → checked.is_function_name (entered w) e ≡ checked.is_function_name w e
name_alone (identifier x) h w = refl
name_alone (index a b) h w = refl
name_alone (member e m) h w = refl
name_alone (arrow e m) h w = refl
name_alone _ h w = absurd h

members_same : (t : Option TyData) (w : World) → checked.members_in (entered w) t ≡ checked.members_in w t
members_same None w = refl
members_same (Some void) w = refl
members_same (Some (arithmetic a)) w = refl
members_same (Some (pointer t)) w = refl
members_same (Some (array t n)) w = refl
members_same (Some (structure k)) w = refl

keep_looks : (at : Place) (kind : LimitKind) (b : Bool) → Looks (worlds.keep_within at kind b)
unfolding worlds.keep_within
keep_looks at kind true = pure_looks tt
keep_looks at kind false = record { inside = λ w. refl; world = λ w. refl }

members_look : (at : Place) (is_host : Bool) (t : Option TyData) → Looks (checked.members_rule at is_host t)
unfolding checked.members_rule
members_look at is_host t = asked_look _ _ (λ w i. nat_le (members_same t w i) checked.max_members) (λ few. keep_looks _ _ _)

reference_looks : (at : Place) (e : ExprData) → IsReference e → Looks (checked.reference_rule at e)
unfolding checked.reference_rule
reference_looks at e h = asked_look _ _ (name_alone e h) (λ alone. chosen_look alone (pure_looks _) (plain_looks at e (reference_plain e h)))

pub references_look : (at : Place) (rs : References) → AreReferences rs → Looks (checked.references_rule at rs)
references_look at [] h = pure_looks tt
references_look at (r ∷ rs) h = both_look (reference_looks at r.value h.0) (λ o. both_look (members_look at r.is_host o.type) (λ u. references_look at rs h.1))

-- by the walk

stored_finds : {A : Type 0} (g : Storage → A) → Finds (stored g)
unfolding stored
stored_finds g = record { inside = λ s w. refl; world = λ s w. refl }

checks_find : {A : Type 0} (m : Rule A) → Looks m → Finds (checks m)
unfolding checks
checks_find m h = record { inside = λ s w i. reached (h.inside w i).answer s (h.inside w i).world; world = λ s w. h.world w }

form_finds : (f : OperandData → Found) (m : Rule OperandData) → Looks m → Finds (with_form f m)
form_finds f m h = both_find (checks_find m h) (λ o. pure_finds _)

name_finds : (at : Place) (name : Text) → Finds (name_rule at name)
name_finds at name = asked_find _ _ (λ w. refl) (λ entry. both_find (stored_finds _) (λ sites. both_find (checks_find _ (name_looks at name)) (λ o. pure_finds _)))

valued_find : (at : Place) {m : Resolving Found} → Finds m → Finds (chain m (value_rule at))
valued_find at h = both_find h (λ f. form_finds _ _ (value_looks at f.operand))

index_finds : (at : Place) (a b : Found) → Finds (index_rule at a b)
index_finds at a b =
    asked_find _ _ (λ w i. over_types a.operand.type b.operand.type (λ s t. element_same (inside_layout w) s a.exp t b.exp i)) (λ e. form_finds _ _ (index_looks at a.operand b.operand))

member_finds : (at : Place) (f : Found) (m : Text) → Finds (member_rule at f m)
member_finds at f m = asked_find _ _ (λ w. member_same (inside_layout w) _ m f.exp) (λ e. form_finds _ _ (member_looks at f.operand m))

arrow_finds : (at : Place) (f : Found) (m : Text) → Finds (arrow_rule at f m)
arrow_finds at f m = asked_find _ _ (λ w. member_same (inside_layout w) _ m f.exp) (λ e. form_finds _ _ (arrow_looks at f.operand m))

index_found : (at : Place) (e : ExprData) → IsIndex e → Finds (expr at e)
index_found at (integer n (arithmetic a)) h = pure_finds _
index_found at (identifier x) h = name_finds at x
index_found at _ h = absurd h

reference_found : (at : Place) (e : ExprData) → IsReference e → Finds (expr at e)
reference_found at (identifier x) h = name_finds at x
reference_found at (index a b) h = both_find (valued_find at (reference_found at a h.0)) (λ x. both_find (valued_find at (index_found at b h.1)) (λ y. index_finds at x y))
reference_found at (member e m) h = both_find (reference_found at e h) (λ f. member_finds at f m)
reference_found at (arrow e m) h = both_find (valued_find at (reference_found at e h)) (λ f. arrow_finds at f m)
reference_found at _ h = absurd h

reference_finds : (at : Place) (e : ExprData) → IsReference e → Finds (reference_rule at e)
reference_finds at e h = asked_find _ _ (name_alone e h) (λ alone. chosen_find alone (pure_finds _) (reference_found at e h))

references_find : (at : Place) (rs : References) → AreReferences rs → Finds (references_rule at rs)
references_find at [] h = pure_finds _
references_find at (r ∷ rs) h = both_find (reference_finds at r.value h.0) (λ f. both_find (references_find at rs h.1) (λ more. pure_finds _))

references_pass : (at : Place) (rs : References) → AreReferences rs → Passes (references_rule at rs)
references_pass at [] h = pure_passes _
references_pass at (r ∷ rs) h =
    chained (chained (ask_passes _) (λ alone. chosen alone (pure_passes _) (plain_passes at r.value (reference_plain r.value h.0)))) (λ f. chained (references_pass at rs h.1) (λ more. pure_passes _))

pub references_inside : (at : Place) (rs : References) → AreReferences rs → (s : Storage) (b : BlockObjects) (w : World)
    → references_rule at rs (back_in_block b s) (entered w) ≡ reached (references_rule at rs s w).answer (back_in_block b (references_rule at rs s w).storage) (entered w)
references_inside at rs h s b w =
    (references_find at rs h).inside (back_in_block b s) w
    ∙ (λ i. reached ((references_pass at rs h).inside s b w i).answer ((references_pass at rs h).inside s b w i).storage (entered w))
