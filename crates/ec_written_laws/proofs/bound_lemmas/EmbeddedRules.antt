-- Embedded statements in which the rules find nothing: the names in their references and in the actions that hold at them.
use Rattle.std.proofs.Common.{◌≡◌, ℕ, Bool, true, false, not, ◌&&◌, List, [], ◌∷◌, map, refl, sym, ap, ◌∙◌, Option, Some, None, if◌then◌else◌}
use Rattle.std.specs.Prelude.{is_some, slice_get, codes, ◌||◌}
use Rattle.std.proofs.lemmas.Bool.{false≢true}
use Rattle.ec_base.specs.declared.fault.FaultKind.{FaultKind}
use Rattle.ec_base.specs.declared.fault.FaultKind.TheVariants.{F30}
use Rattle.ec_ctypes.specs.Texts.{symbol_text}
use Rattle.ec_ctypes.specs.declared.checked.library.Sym.{Sym}
use Rattle.ec_ctypes.specs.declared.embedded.emb.Cond.{Cond}
use Rattle.ec_ctypes.specs.declared.embedded.emb.Cond.TheVariants.{NotFound, Warning, Error}
use Rattle.ec_ctypes.specs.trees.Types.{TyData}
use Rattle.ec_ctypes.specs.trees.Exprs.{ExprData, integer, character, string, identifier, unary, binary, assign, bump, call, call_other, index, member, arrow, cast, size_type, size_expr, ExprList, no_exprs, exprs}
use Rattle.ec_ctypes.specs.trees.Embedded.{ActionData, continue_action, goto_action, print_action, stop_action, break_action, next_action, call_action, EmbData}
use Rattle.ec_language.specs.First.{Violation}
use Rattle.ec_language.specs.Letters.{Text, same_text}
use Rattle.ec_language.proofs.Ends.{both}
use Rattle.ec_language.proofs.Marks.{same_text_is}
use Rattle.ec_typing_defs.specs.statement_parts.Handlers.{is_directive, handler}
use Rattle.ec_typing_defs.specs.statement_parts.References.{References, references}
use Rattle.ec_typing_defs.specs.Known.{KnownData, known_function, ArgumentsData, all_expressions, stream_first, with_symbols, is_no_expression, library_symbols}
use Rattle.ec_typing_defs.specs.Operands.{OperandData}
use Rattle.ec_typing_defs.specs.Tables.{Named, find, is_one_of}
use Rattle.ec_typing_defs.specs.Worlds.{Place, EntryData, object, function, World, Rule, pure, instead, look_up}
use Rattle.ec_typing_defs.specs.Expressions.{expr, args}
use Rattle.ec_typing_defs.specs.Embedded.{is_function_entry, is_function_name, reference_rule, members_rule, references_rule, action_rule, actions_rule, handlers_rule, denote, embedded_rule}
use Rattle.ec_writing_defs.specs.Shapes.{is_plain_name, is_free_name}
use Rattle.ec_written_laws.specs.bound.Names.{is_simple_index, is_simple, are_simple, have_plain_members, is_simple_action, have_simple_values, has_free_names, have_free_names, has_known_names_option, have_free_values}
use Rattle.ec_written_laws.proofs.bound_lemmas.Rules.{join, Clean, look_up_free, Holds, Quiet, chained, gives, asked, pure_holds, demand_holds, demand_quiet, keep_quiet, change_holds}
use Rattle.ec_written_laws.proofs.bound_lemmas.Operands.{function_free, name_free, index_quiet, member_quiet, arrow_quiet, call_holds}
use Rattle.ec_written_laws.proofs.bound_lemmas.Expressions.{valued}

chosen_by : {A : Type 0} (b : Bool) {x y : Rule A} {Q : A → Type 0} → (b ≡ true → Holds x Q) → (b ≡ false → Holds y Q) → Holds (elim b [ true ↦ x | false ↦ y ]) Q
chosen_by true h k = h refl
chosen_by false h k = k refl

-- ---- expressions

index_known : (at : Place) (e : ExprData) → is_simple_index e ≡ true → Holds (expr at e) (λ o. has_free_names e ≡ true)
index_known at (identifier x) s = name_free at x
index_known at (integer n t) s = pure_holds _ refl
index_known at _ s = absurd (false≢true s)

pub expr_known : (at : Place) (e : ExprData) → is_simple e ≡ true → Holds (expr at e) (λ o. has_free_names e ≡ true)
expr_known at (integer n t) s = pure_holds _ refl
expr_known at (character c) s = pure_holds _ refl
expr_known at (identifier x) s = name_free at x
expr_known at (index a b) s =
    let p = both (is_simple a) (is_simple_index b) s in
    chained (valued at (expr_known at a p.0)) (λ x h. chained (valued at (index_known at b p.1)) (λ y k. gives (index_quiet at x y) (λ o u. join h k)))
expr_known at (member e m) s = chained (expr_known at e s) (λ o h. gives (member_quiet at o m) (λ a u. h))
expr_known at (arrow e m) s = chained (valued at (expr_known at e s)) (λ o h. gives (arrow_quiet at o m) (λ a u. h))
expr_known at (string t) s = absurd (false≢true s)
expr_known at (unary op e) s = absurd (false≢true s)
expr_known at (binary op a b) s = absurd (false≢true s)
expr_known at (assign op a b) s = absurd (false≢true s)
expr_known at (bump before up e) s = absurd (false≢true s)
expr_known at (call f es) s = absurd (false≢true s)
expr_known at (call_other f es) s = absurd (false≢true s)
expr_known at (cast b stars e) s = absurd (false≢true s)
expr_known at (size_type b stars) s = absurd (false≢true s)
expr_known at (size_expr e) s = absurd (false≢true s)

abbrev all_free : List Text → Type 0
all_free [] = Unit {0}
all_free (t ∷ ts) = (is_free_name t ≡ true) × all_free ts

one_free : (x : Text) (ts : List Text) → all_free ts → is_one_of ts x ≡ true → is_free_name x ≡ true
one_free x [] c e = absurd (false≢true e)
one_free x (t ∷ ts) c e = go (same_text t x) refl e (one_free x ts c.1)
  where
    go : (b : Bool) → same_text t x ≡ b → (b || is_one_of ts x) ≡ true → (is_one_of ts x ≡ true → is_free_name x ≡ true) → is_free_name x ≡ true
    go true s e more = ap is_free_name (sym (same_text_is t x s)) ∙ c.0
    go false s e more = more e

-- streams, and the symbols of the library
no_expression : (forms : ArgumentsData) (e : ExprData) → is_no_expression forms e ≡ true → has_free_names e ≡ true
no_expression all_expressions e h = absurd (false≢true h)
no_expression stream_first (identifier x) h = one_free x (codes "stdout" ∷ codes "stderr" ∷ []) (refl, (refl, tt)) h
no_expression stream_first _ h = absurd (false≢true h)
no_expression with_symbols (identifier x) h = one_free x library_symbols
    (refl, (refl, (refl, (refl, (refl, (refl, (refl, (refl, (refl, (refl, (refl, (refl, (refl, (refl, (refl, (refl, (refl, (refl, (refl, (refl, (refl, (refl, (refl, (refl, (refl, (refl, (refl, tt))))))))))))))))))))))))))) h
no_expression with_symbols _ h = absurd (false≢true h)

args_known : (at : Place) (forms : ArgumentsData) (es : ExprList) → are_simple es ≡ true → Holds (args at forms es) (λ os. have_free_names es ≡ true)
args_known at forms no_exprs s = pure_holds _ refl
args_known at forms (exprs e es) s =
    let p = both (is_simple e) (are_simple es) s in
    chained (chosen_by (is_no_expression forms e) (λ i. pure_holds _ (no_expression forms e i)) (λ i. valued at (expr_known at e p.0))) (λ o h. chained (args_known at _ es p.1) (λ os k. pure_holds _ (join h k)))

call_known : (at : Place) (f : Text) (es : ExprList) → are_simple es ≡ true → Holds (expr at (call f es)) (λ o. (is_free_name f && have_free_names es) ≡ true)
call_known at f es s = asked _ _ (λ w c. chained (args_known at _ es s) (λ os h. gives (call_holds at f es os) (λ o k. join k h)))

-- ---- references

-- the name of a function alone
function_name : (w : World) → Clean w → (e : ExprData) → is_function_name w e ≡ true → has_free_names e ≡ true
function_name w c (identifier x) h = go (look_up x w) refl h
  where
    known : (k : Option KnownData) → known_function x ≡ k → is_some k ≡ true → is_free_name x ≡ true
    known (Some k) e i = function_free x k e
    known None e i = absurd (false≢true i)

    go : (e : Option EntryData) → look_up x w ≡ e → is_function_entry x e ≡ true → is_free_name x ≡ true
    go (Some (object k global t)) e i = absurd (false≢true i)
    go (Some (function k done r ps)) e i = look_up_free x _ w c e
    go None e i = known (known_function x) refl i
function_name w c _ h = absurd (false≢true h)

reference_known : (at : Place) (e : ExprData) → is_simple e ≡ true → Holds (reference_rule at e) (λ o. has_free_names e ≡ true)
unfolding reference_rule
reference_known at e s = asked _ _ (λ w c. chosen_by (is_function_name w e) (λ i. pure_holds _ (function_name w c e i)) (λ i. expr_known at e s))

members_quiet : (at : Place) (is_host : Bool) (t : Option TyData) → Quiet (members_rule at is_host t)
unfolding members_rule
members_quiet at is_host t = asked _ _ (λ w c. keep_quiet _ _ _)

references_known : (at : Place) (rs : References) → have_simple_values rs ≡ true → Holds (references_rule at rs) (λ u. have_free_values rs ≡ true)
references_known at [] s = pure_holds _ refl
references_known at (r ∷ rs) s =
    let p = both (is_simple r.value) (have_simple_values rs) s in
    chained (reference_known at r.value p.0) (λ o h. chained (members_quiet at r.is_host o.type) (λ a q. gives (references_known at rs p.1) (λ u k. join h k)))

-- ---- actions

instead_holds : (at : Place) (kind : FaultKind) (m : Rule (Unit {0})) (Q : Type 0) → Holds m (λ u. Q) → Holds (instead at kind m) (λ u. Q)
unfolding instead
instead_holds at kind m Q h = record { run = λ w c e. h.run w c (none _ (m w).found e) }
  where
    none : (f : Violation → Violation) (vs : List Violation) → map f vs ≡ [] → vs ≡ []
    none f [] e = refl
    none f (v ∷ vs) e = absurd (cc)

-- each label is a name
abbrev pub PlainLabels : Named (Unit {0}) → Type 0
PlainLabels labels = (l : Text) → is_some (find l labels) ≡ true → is_plain_name l ≡ true

abbrev SimpleOption : Option ActionData → Type 0
SimpleOption None = Unit {0}
SimpleOption (Some a) = is_simple_action a ≡ true

action_known : (in_loop : Bool) (labels : Named (Unit {0})) (at : Place) (a : Option ActionData) → PlainLabels labels → SimpleOption a → Holds (action_rule in_loop labels at a) (λ u. has_known_names_option a ≡ true)
action_known in_loop labels at None l s = pure_holds _ refl
action_known in_loop labels at (Some continue_action) l s = pure_holds _ refl
action_known in_loop labels at (Some (goto_action x)) l s = gives (demand_holds _ _ _) (λ u e. l x e)
action_known in_loop labels at (Some print_action) l s = pure_holds _ refl
action_known in_loop labels at (Some stop_action) l s = pure_holds _ refl
action_known in_loop labels at (Some break_action) l s = gives (demand_quiet _ _ _) (λ u e. refl)
action_known in_loop labels at (Some next_action) l s = gives (demand_quiet _ _ _) (λ u e. refl)
action_known in_loop labels at (Some (call_action f es)) l s = instead_holds at F30 _ _ (chained (call_known at f es (both (are_simple es) (have_plain_members es) s).0) (λ o h. pure_holds _ h))

-- ---- statements

-- what tokens of SQL make of the statements of a program
pub record AreSimple (es : List EmbData) : Type 0 where
  pub values : (n : ℕ) (e : EmbData) → slice_get es n ≡ Some e → have_simple_values (references e) ≡ true
  pub actions : (place : ℕ) (cond : Cond) (a : ActionData) → handler es place cond ≡ Some a → is_simple_action a ≡ true

-- what is known of a statement
pub record HasKnownNames (es : List EmbData) (e : EmbData) : Type 0 where
  pub values : have_free_values (references e) ≡ true
  pub actions : is_directive e ≡ false → (cond : Cond) → has_known_names_option (handler es e.place cond) ≡ true

-- and of that of this number
abbrev pub IsKnown : List EmbData → ℕ → Type 0
IsKnown es n = (e : EmbData) → slice_get es n ≡ Some e → HasKnownNames es e

handler_known : (es : List EmbData) → AreSimple es → (in_loop : Bool) (labels : Named (Unit {0})) (at : Place) (e : EmbData) (cond : Cond) → PlainLabels labels → Holds (action_rule in_loop labels at (handler es e.place cond)) (λ u. has_known_names_option (handler es e.place cond) ≡ true)
handler_known es s in_loop labels at e cond l = action_known in_loop labels at (handler es e.place cond) l (go (handler es e.place cond) refl)
  where
    go : (a : Option ActionData) → handler es e.place cond ≡ a → SimpleOption a
    go None h = tt
    go (Some a) h = s.actions e.place cond a h

by_condition : (P : Cond → Type 0) → P NotFound → P Warning → P Error → (cond : Cond) → P cond
by_condition P a b c NotFound = a
by_condition P a b c Warning = b
by_condition P a b c Error = c

actions_known : (es : List EmbData) → AreSimple es → (in_loop : Bool) (labels : Named (Unit {0})) (at : Place) (e : EmbData) → PlainLabels labels → Holds (actions_rule es in_loop labels at e) (λ u. (cond : Cond) → has_known_names_option (handler es e.place cond) ≡ true)
actions_known es s in_loop labels at e l =
    chained (handler_known es s in_loop labels at e NotFound l) (λ a p. chained (handler_known es s in_loop labels at e Warning l) (λ b q. gives (handler_known es s in_loop labels at e Error l) (λ c r. by_condition (λ cond. has_known_names_option (handler es e.place cond) ≡ true) p q r)))

handlers_known : (es : List EmbData) → AreSimple es → (in_loop : Bool) (labels : Named (Unit {0})) (at : Place) (e : EmbData) → PlainLabels labels
    → Holds (handlers_rule es in_loop labels at e) (λ u. is_directive e ≡ false → (cond : Cond) → has_known_names_option (handler es e.place cond) ≡ true)
handlers_known es s in_loop labels at e l = chosen_by (is_directive e) (λ d. pure_holds _ (λ n. absurd (false≢true (sym n ∙ d)))) (λ d. gives (actions_known es s in_loop labels at e l) (λ u h n. h))

denote_quiet : (names : List Text) → Quiet (denote names)
unfolding denote
denote_quiet names = change_holds _ (λ w c. c)

pub embedded_known : (es : List EmbData) → AreSimple es → (is_body in_loop : Bool) (labels : Named (Unit {0})) (at : Place) (n : ℕ) (e : EmbData) → PlainLabels labels → slice_get es n ≡ Some e → Holds (embedded_rule es is_body in_loop labels at n e) (λ u. HasKnownNames es e)
embedded_known es s is_body in_loop labels at n e l i =
    chained (demand_quiet _ _ _) (λ a p. chained (references_known at (references e) (s.values n e i)) (λ b q. chained (denote_quiet _) (λ c r. gives (handlers_known es s in_loop labels at e l) (λ u h. record { values = q; actions = h }))))
