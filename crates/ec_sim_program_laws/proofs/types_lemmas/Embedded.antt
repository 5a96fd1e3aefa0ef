-- Embedded statements have types where nothing is wrong, and so do the indexes in their references.
use Rattle.std.proofs.Common.{◌≡◌, ◌∙◌, ◌⊎◌, inl, inr, ℕ, zero, suc, ◌+◌, Bool, not, ◌&&◌, List, [], ◌∷◌, ◌++◌, map, length, take, drop, Option, Some, None, refl, sym, ap, subst, append_assoc, slice_get, arith}
use Rattle.ec_base.specs.declared.fault.FaultKind.TheVariants.{F29, F30}
use Rattle.ec_written_laws.specs.bound.Numbers.{numbers_from}
use Rattle.ec_ctypes.specs.declared.embedded.emb.Cond.TheVariants.{NotFound, Warning, Error}
use Rattle.ec_ctypes.specs.trees.Types.{TyData}
use Rattle.ec_ctypes.specs.trees.Exprs.{ExprData, integer, character, string, identifier, index, member, arrow, call, unary, binary, assign, bump, call_other, cast, size_type, size_expr, ExprList, no_exprs, exprs}
use Rattle.ec_ctypes.specs.trees.Embedded.{ActionData, continue_action, goto_action, print_action, stop_action, break_action, next_action, call_action, EmbData}
use Rattle.ec_ctypes.specs.trees.Units.{UnitData}
use Rattle.ec_language.specs.Letters.{Text}
use Rattle.ec_typing_defs.specs.statement_parts.Cursors.{declare_opened}
use Rattle.ec_typing_defs.specs.statement_parts.Handlers.{is_directive, handler}
use Rattle.ec_typing_defs.specs.statement_parts.References.{References, references, names_in, all_names, names_of_option}
use Rattle.ec_typing_defs.specs.Tables.{Named, find}
use Rattle.ec_typing_defs.specs.Operands.{unknown, value_rule, name_rule, named_by, index_rule}
use Rattle.ec_typing_defs.specs.Worlds.{Place, EntryData, object, function, Rule, World, chain, pure, ask, note, change, look_up, look_up_in, or_else}
use Rattle.ec_typing_defs.specs.Expressions.{expr}
use Rattle.ec_typing_defs.specs.Embedded.{reference_rule, members_rule, references_rule, action_rule, handlers_rule, denoted_by, denoted_in, denote, variables_of, embedded_rule}
use Rattle.ec_sim_world_laws.proofs.growth_lemmas.Rules as growth
use Rattle.ec_sim_world_laws.proofs.closing_lemmas.Lists.{get_behind, get_last, some_is}
use Rattle.ec_sim_world_laws.specs.test.Plain.{IsPlain, ArePlain, IsPlainOption, HasPlainActions}
use Rattle.ec_sim_world_laws.specs.place.References.{IsIndex, IsReference, variable_in}
use Rattle.ec_sim_host_laws.specs.reference.Found.{AreReferences}
use Rattle.ec_sim_world_laws.specs.known.Known.{IsEntry, InScopes, AreEntries}
use Rattle.ec_sim_world_laws.proofs.known_lemmas.EntriesKept.{HasEntries}
use Rattle.ec_sim_world_laws.proofs.known_lemmas.EntriesKept as entries
use Rattle.ec_sim_world_laws.proofs.known_lemmas.NamesRules as stay
use Rattle.ec_sim_world_laws.proofs.known_lemmas.NamesRules.{NamesStay, stay_so, stay_further, Staying, demand_stays}
use Rattle.ec_sim_world_laws.proofs.known_lemmas.NamesExpressions as staying
use Rattle.ec_sim_world_laws.proofs.known_lemmas.NamesExpressions.{expr_stays}
use Rattle.ec_sim_world_laws.proofs.known_lemmas.NamesEmbedded.{references_stays, handlers_stays, denote_stays}
use Rattle.ec_sim_world_laws.proofs.known_lemmas.WorldsGrow.{denote_grows}
use Rattle.ec_sim_program_laws.specs.types.Types.{IsSimple}
use Rattle.ec_sim_program_laws.proofs.types_lemmas.Fits.{Fits, FitAll}
use Rattle.ec_sim_program_laws.proofs.types_lemmas.Rules.{Sound, Any, NoMore, Typing, both_none, chained, from, pure_types, asked_any, demand_types, keep_types, chosen, instead_types, EntryIn, name_typed}
use Rattle.ec_sim_program_laws.proofs.types_lemmas.Expressions.{expr_has}
use Rattle.ec_sim_program_laws.proofs.types_lemmas.Statements.{unsaid}
use Rattle.ec_sim_program_laws.proofs.types_lemmas.Walking.{IsTypedAt, AreTypedAt, HasTypeAt, RowIsTyped, RowsAreTyped, row_grows, StillToCome, Known, Walking, walked}
use Rattle.ec_sim_program_laws.proofs.types_lemmas.Walking as walking

-- ---- the trees of statements

pub plain_fits : (e : ExprData) → IsPlain e → Fits e
plain_fits (integer n t) h = tt
plain_fits (character c) h = tt
plain_fits (string s) h = tt
plain_fits (identifier x) h = tt
plain_fits (index a b) h = (plain_fits a h.0, plain_fits b h.1)
plain_fits (member e m) h = plain_fits e h
plain_fits (arrow e m) h = plain_fits e h
plain_fits (unary op e) h = absurd h
plain_fits (binary op a b) h = absurd h
plain_fits (assign op a b) h = absurd h
plain_fits (bump before up e) h = absurd h
plain_fits (call f es) h = absurd h
plain_fits (call_other f es) h = absurd h
plain_fits (cast b stars e) h = absurd h
plain_fits (size_type b stars) h = absurd h
plain_fits (size_expr e) h = absurd h

all_plain_fit : (es : ExprList) → ArePlain es → FitAll es
all_plain_fit no_exprs h = tt
all_plain_fit (exprs e es) h = (plain_fits e h.0, all_plain_fit es h.1)

index_fits : (e : ExprData) → IsIndex e → Fits e
index_fits (integer n t) h = tt
index_fits (identifier x) h = tt
index_fits (character c) h = absurd h
index_fits (string s) h = absurd h
index_fits (index a b) h = absurd h
index_fits (member e m) h = absurd h
index_fits (arrow e m) h = absurd h
index_fits (unary op e) h = absurd h
index_fits (binary op a b) h = absurd h
index_fits (assign op a b) h = absurd h
index_fits (bump before up e) h = absurd h
index_fits (call f es) h = absurd h
index_fits (call_other f es) h = absurd h
index_fits (cast b stars e) h = absurd h
index_fits (size_type b stars) h = absurd h
index_fits (size_expr e) h = absurd h

reference_fits : (e : ExprData) → IsReference e → Fits e
reference_fits (identifier x) h = tt
reference_fits (index a b) h = (reference_fits a h.0, index_fits b h.1)
reference_fits (member e m) h = reference_fits e h
reference_fits (arrow e m) h = reference_fits e h
reference_fits (integer n t) h = absurd h
reference_fits (character c) h = absurd h
reference_fits (string s) h = absurd h
reference_fits (unary op e) h = absurd h
reference_fits (binary op a b) h = absurd h
reference_fits (assign op a b) h = absurd h
reference_fits (bump before up e) h = absurd h
reference_fits (call f es) h = absurd h
reference_fits (call_other f es) h = absurd h
reference_fits (cast b stars e) h = absurd h
reference_fits (size_type b stars) h = absurd h
reference_fits (size_expr e) h = absurd h

-- ---- references and actions

reference_types : (at : Place) (e : ExprData) → IsReference e → Typing Any NoMore (reference_rule at e)
unfolding reference_rule
reference_types at e h = asked_any _ _ (λ alone. chosen alone (pure_types unknown (λ w r. tt)) (from (λ w r. tt) (unsaid (expr_has at e (reference_fits e h)))))

members_types : (at : Place) (is_host : Bool) (t : Option TyData) → Typing Any NoMore (members_rule at is_host t)
unfolding members_rule
members_types at is_host t = asked_any _ _ (λ few. unsaid (keep_types _ _ _))

references_types : (at : Place) (rs : References) → AreReferences rs → Typing Any NoMore (references_rule at rs)
references_types at [] h = pure_types tt (λ w r. tt)
references_types at (r ∷ rs) h = chained (reference_types at r.value h.0) (λ o. chained (members_types at r.is_host o.type) (λ u. references_types at rs h.1))

action_types : (in_loop : Bool) (labels : Named (Unit {0})) (at : Place) (a : Option ActionData) → IsPlainOption a → Typing Any NoMore (action_rule in_loop labels at a)
action_types in_loop labels at None h = pure_types tt (λ w r. tt)
action_types in_loop labels at (Some continue_action) h = pure_types tt (λ w r. tt)
action_types in_loop labels at (Some (goto_action l)) h = unsaid (demand_types _ _ _)
action_types in_loop labels at (Some print_action) h = pure_types tt (λ w r. tt)
action_types in_loop labels at (Some stop_action) h = pure_types tt (λ w r. tt)
action_types in_loop labels at (Some break_action) h = unsaid (demand_types _ _ _)
action_types in_loop labels at (Some next_action) h = unsaid (demand_types _ _ _)
action_types in_loop labels at (Some (call_action f es)) h = instead_types at F30 (chain (expr at (call f es)) (λ o. pure tt)) (chained (expr_has at (call f es) (all_plain_fit es h)) (λ o. pure_types tt (λ w r. tt)))

handlers_types : (es : List EmbData) (in_loop : Bool) (labels : Named (Unit {0})) (at : Place) (e : EmbData) → HasPlainActions es e → Typing Any NoMore (handlers_rule es in_loop labels at e)
handlers_types es in_loop labels at e h =
    chosen (is_directive e) (pure_types tt (λ w r. tt))
    (from (λ w r. tt) (chained (action_types in_loop labels at (handler es e.place NotFound) (h NotFound)) (λ a. chained (action_types in_loop labels at (handler es e.place Warning) (h Warning)) (λ b.
    action_types in_loop labels at (handler es e.place Error) (h Error)))))

-- ---- what indexes stand for

-- no function
abbrev NoFunction : Option EntryData → Type 0
NoFunction None = Unit {0}
NoFunction (Some (object k global t)) = Unit {0}
NoFunction (Some (function k done r ps)) = ⊥

abbrev NoFunctions : World → List Text → Type 0
NoFunctions w [] = Unit {0}
NoFunctions w (x ∷ xs) = NoFunction (look_up x w) × NoFunctions w xs

no_functions_join : (w : World) (xs ys : List Text) → NoFunctions w xs → NoFunctions w ys → NoFunctions w (xs ++ ys)
no_functions_join w [] ys p q = q
no_functions_join w (x ∷ xs) ys p q = (p.0, no_functions_join w xs ys p.1 q)

-- the names in a reference behind that of its variable
abbrev index_names : ExprData → List Text
index_names (index a b) = index_names a ++ names_in b
index_names (member e m) = index_names e
index_names (arrow e m) = index_names e
index_names _ = []

names_split : (e : ExprData) → IsReference e → names_in e ≡ variable_in e ∷ index_names e
names_split (identifier x) h = refl
names_split (index a b) h = ap (λ xs. xs ++ names_in b) (names_split a h.0)
names_split (member e m) h = names_split e h
names_split (arrow e m) h = names_split e h
names_split (integer n t) h = absurd h
names_split (character c) h = absurd h
names_split (string s) h = absurd h
names_split (unary op e) h = absurd h
names_split (binary op a b) h = absurd h
names_split (assign op a b) h = absurd h
names_split (bump before up e) h = absurd h
names_split (call f es) h = absurd h
names_split (call_other f es) h = absurd h
names_split (cast b stars e) h = absurd h
names_split (size_type b stars) h = absurd h
names_split (size_expr e) h = absurd h

-- where names stay, a name stands for the same
same_name : (w z : World) → NamesStay w z → (x : Text) → look_up x z ≡ look_up x w
same_name w z s x = (λ i. or_else (find x (s.here i)) (look_up_in z.outer x)) ∙ (λ i. or_else (find x w.here.names) (look_up_in (s.outer i) x))

no_function_by : (at : Place) (x : Text) (e : Option EntryData) (w : World) → (named_by at x e w).found ≡ [] → NoFunction e
unfolding named_by chain note
no_function_by at x None w found = tt
no_function_by at x (Some (object k global t)) w found = tt
no_function_by at x (Some (function k done r ps)) w found = absurd (cc)

name_clean : (at : Place) (x : Text) (w : World) → (name_rule at x w).found ≡ [] → NoFunction (look_up x w)
unfolding name_rule chain ask
name_clean at x w found = no_function_by at x (look_up x w) w found

-- of an index alone
index_clean : (at : Place) (e : ExprData) → IsIndex e → (w z : World) → NamesStay w z → (expr at e z).found ≡ [] → NoFunctions w (names_in e)
index_clean at (integer n t) h w z s found = tt
index_clean at (identifier x) h w z s found = (subst NoFunction (same_name w z s x) (name_clean at x z found), tt)
index_clean at (character c) h w z s found = absurd h
index_clean at (string x) h w z s found = absurd h
index_clean at (index a b) h w z s found = absurd h
index_clean at (member e m) h w z s found = absurd h
index_clean at (arrow e m) h w z s found = absurd h
index_clean at (unary op e) h w z s found = absurd h
index_clean at (binary op a b) h w z s found = absurd h
index_clean at (assign op a b) h w z s found = absurd h
index_clean at (bump before up e) h w z s found = absurd h
index_clean at (call f es) h w z s found = absurd h
index_clean at (call_other f es) h w z s found = absurd h
index_clean at (cast b stars e) h w z s found = absurd h
index_clean at (size_type b stars) h w z s found = absurd h
index_clean at (size_expr e) h w z s found = absurd h

-- what the first of two rules found, and the second
first_clean : {A B : Type 0} (m : Rule A) (f : A → Rule B) (w : World) → (chain m f w).found ≡ [] → (m w).found ≡ []
unfolding chain
first_clean m f w e = (both_none (m w).found (f (m w).answer (m w).world).found e).0

second_clean : {A B : Type 0} (m : Rule A) (f : A → Rule B) (w : World) → (chain m f w).found ≡ [] → (f (m w).answer (m w).world).found ≡ []
unfolding chain
second_clean m f w e = (both_none (m w).found (f (m w).answer (m w).world).found e).1

names_clean : (at : Place) (e : ExprData) → IsReference e → (w z : World) → NamesStay w z → (expr at e z).found ≡ [] → NoFunctions w (index_names e)
names_clean at (identifier x) h w z s found = tt
names_clean at (index a b) h w z s found =
    let left : Rule _ = chain (expr at a) (value_rule at) in
    let f = first_clean left (λ x. chain (chain (expr at b) (value_rule at)) (λ y. index_rule at x y)) z found in
    let g = second_clean left (λ x. chain (chain (expr at b) (value_rule at)) (λ y. index_rule at x y)) z found in
    let y = left z in
    no_functions_join w (index_names a) (names_in b) (names_clean at a h.0 w z s (first_clean (expr at a) (value_rule at) z f))
    (index_clean at b h.1 w y.world (stay_further w z y.world s ((staying.valued at (expr_stays at a)).stays z))
    (first_clean (expr at b) (value_rule at) y.world (first_clean (chain (expr at b) (value_rule at)) (λ v. index_rule at y.answer v) y.world g)))
names_clean at (member e m) h w z s found = names_clean at e h w z s (first_clean (expr at e) _ z found)
names_clean at (arrow e m) h w z s found = names_clean at e h w z s (first_clean (expr at e) (value_rule at) z (first_clean (chain (expr at e) (value_rule at)) _ z found))
names_clean at (integer n t) h w z s found = absurd h
names_clean at (character c) h w z s found = absurd h
names_clean at (string x) h w z s found = absurd h
names_clean at (unary op e) h w z s found = absurd h
names_clean at (binary op a b) h w z s found = absurd h
names_clean at (assign op a b) h w z s found = absurd h
names_clean at (bump before up e) h w z s found = absurd h
names_clean at (call f es) h w z s found = absurd h
names_clean at (call_other f es) h w z s found = absurd h
names_clean at (cast b stars e) h w z s found = absurd h
names_clean at (size_type b stars) h w z s found = absurd h
names_clean at (size_expr e) h w z s found = absurd h

-- a reference that is looked at as an expression
reference_clean : (at : Place) (e : ExprData) → IsReference e → (w z : World) → NamesStay w z → (reference_rule at e z).found ≡ [] → NoFunctions w (index_names e)
unfolding reference_rule chain ask
reference_clean at (identifier x) h w z s found = tt
reference_clean at (index a b) h w z s found = names_clean at (index a b) h w z s found
reference_clean at (member e m) h w z s found = names_clean at (member e m) h w z s found
reference_clean at (arrow e m) h w z s found = names_clean at (arrow e m) h w z s found
reference_clean at (integer n t) h w z s found = absurd h
reference_clean at (character c) h w z s found = absurd h
reference_clean at (string x) h w z s found = absurd h
reference_clean at (unary op e) h w z s found = absurd h
reference_clean at (binary op a b) h w z s found = absurd h
reference_clean at (assign op a b) h w z s found = absurd h
reference_clean at (bump before up e) h w z s found = absurd h
reference_clean at (call f es) h w z s found = absurd h
reference_clean at (call_other f es) h w z s found = absurd h
reference_clean at (cast b stars e) h w z s found = absurd h
reference_clean at (size_type b stars) h w z s found = absurd h
reference_clean at (size_expr e) h w z s found = absurd h

abbrev AllNoFunctions : World → References → Type 0
AllNoFunctions w [] = Unit {0}
AllNoFunctions w (r ∷ rs) = NoFunctions w (index_names r.value) × AllNoFunctions w rs

reference_stays : (at : Place) (e : ExprData) → Staying (reference_rule at e)
unfolding reference_rule
reference_stays at e = stay.asked _ _ (λ alone. stay.chosen alone (stay.pure_stays unknown) (expr_stays at e))

members_stays : (at : Place) (is_host : Bool) (t : Option TyData) → Staying (members_rule at is_host t)
unfolding members_rule
members_stays at is_host t = stay.asked _ _ (λ few. stay.keep_stays _ _ _)

references_clean : (at : Place) (rs : References) → AreReferences rs → (w z : World) → NamesStay w z → (references_rule at rs z).found ≡ [] → AllNoFunctions w rs
references_clean at [] h w z s found = tt
references_clean at (r ∷ rs) h w z s found =
    let m = reference_rule at r.value in
    let f : _ → Rule (Unit {0}) = λ o. chain (members_rule at r.is_host o.type) (λ u. references_rule at rs) in
    let y = m z in
    let v = members_rule at r.is_host y.answer.type y.world in
    let s1 = stay_further w z y.world s ((reference_stays at r.value).stays z) in (
      reference_clean at r.value h.0 w z s (first_clean m f z found),
      references_clean at rs h.1 w v.world (stay_further w y.world v.world s1 ((members_stays at r.is_host y.answer.type).stays y.world))
          (second_clean (members_rule at r.is_host y.answer.type) (λ u. references_rule at rs) y.world (second_clean m f z found)),
    )

-- ---- rows

-- what a name stands for is declared
abbrev IsEntryIn : UnitData → World → Option EntryData → Type 0
IsEntryIn u w None = Unit {0}
IsEntryIn u w (Some e) = IsEntry u w e

either_entry : (u : UnitData) (w : World) (a b : Option EntryData) → IsEntryIn u w a → IsEntryIn u w b → IsEntryIn u w (or_else a b)
either_entry u w None b p q = q
either_entry u w (Some e) b p q = p

one_entry : (u : UnitData) (w : World) (x : Text) (names : Named EntryData) → AreEntries u w names → IsEntryIn u w (find x names)
one_entry u w x names all = go (find x names) refl
  where
    go : (o : Option EntryData) → find x names ≡ o → IsEntryIn u w o
    go None is = tt
    go (Some e) is = all x e is

scopes_entry : (u : UnitData) (w : World) (x : Text) (ss : List _) → InScopes u w ss → IsEntryIn u w (look_up_in ss x)
scopes_entry u w x [] h = tt
scopes_entry u w x (s ∷ ss) h = either_entry u w (find x s.names) (look_up_in ss x) (one_entry u w x s.names h.0) (scopes_entry u w x ss h.1)

name_entry : (u : UnitData) (w : World) → HasEntries u w → (x : Text) → IsEntryIn u w (look_up x w)
name_entry u w h x = either_entry u w (find x w.here.names) (look_up_in w.outer x) (one_entry u w x w.here.names h.here) (scopes_entry u w x w.outer h.outer)

typed_at : (u : UnitData) (w : World) (o : Option EntryData) → NoFunction o → EntryIn o → IsEntryIn u w o → IsTypedAt w (denoted_by o)
typed_at u w None n t d = tt
typed_at u w (Some (object k global None)) n t d = absurd t
typed_at u w (Some (object k global (Some s))) n t d = record { type = s; is = d.in_table; no_void = d.no_void }
typed_at u w (Some (function k done r ps)) n t d = absurd n

names_typed_at : (u : UnitData) (w : World) → Sound w → HasEntries u w → (xs : List Text) → NoFunctions w xs → AreTypedAt w (denoted_in w xs)
names_typed_at u w sound h [] n = tt
names_typed_at u w sound h (x ∷ xs) n = (typed_at u w (look_up x w) n.0 (name_typed x w sound) (name_entry u w h x), names_typed_at u w sound h xs n.1)

front_taken : {A B : Type 0} (f : A → B) (xs ys : List A) → take (length xs) (map f (xs ++ ys)) ≡ map f xs
front_taken f [] ys = refl
front_taken f (x ∷ xs) ys = ap (λ zs. f x ∷ zs) (front_taken f xs ys)

front_dropped : {A B : Type 0} (f : A → B) (xs ys : List A) → drop (length xs) (map f (xs ++ ys)) ≡ map f ys
front_dropped f [] ys = refl
front_dropped f (x ∷ xs) ys = front_dropped f xs ys

row_typed : (u : UnitData) (w : World) → Sound w → HasEntries u w → (rs : References) → AreReferences rs → AllNoFunctions w rs → (more : List Text) → RowIsTyped w rs (denoted_in w (all_names rs ++ more))
row_typed u w sound h [] is n more = tt
row_typed u w sound h (r ∷ rs) is n more = subst (λ xs. RowIsTyped w (r ∷ rs) (denoted_in w xs)) (sym (append_assoc (names_in r.value) (all_names rs) more)) (
  subst (AreTypedAt w) (sym (ap (drop 1) (front_taken (λ x. denoted_by (look_up x w)) (names_in r.value) (all_names rs ++ more)) ∙ ap (λ xs. drop 1 (denoted_in w xs)) (names_split r.value is.0)))
      (names_typed_at u w sound h (index_names r.value) n.0),
  subst (RowIsTyped w rs) (sym (front_dropped (λ x. denoted_by (look_up x w)) (names_in r.value) (all_names rs ++ more))) (row_typed u w sound h rs is.1 n.1 more),
)

no_functions_stay : (w z : World) → NamesStay w z → (xs : List Text) → NoFunctions w xs → NoFunctions z xs
no_functions_stay w z s [] h = tt
no_functions_stay w z s (x ∷ xs) h = (subst NoFunction (sym (same_name w z s x)) h.0, no_functions_stay w z s xs h.1)

all_no_functions_stay : (w z : World) → NamesStay w z → (rs : References) → AllNoFunctions w rs → AllNoFunctions z rs
all_no_functions_stay w z s [] h = tt
all_no_functions_stay w z s (r ∷ rs) h = (no_functions_stay w z s (index_names r.value) h.0, all_no_functions_stay w z s rs h.1)

-- ---- statements

references_walk : (u : UnitData) {ns : List ℕ} (at : Place) (rs : References) (more : List Text) → AreReferences rs
    → Walking u ns ns Any (λ w a. RowIsTyped w rs (denoted_in w (all_names rs ++ more))) (references_rule at rs)
references_walk u {ns} at rs more h = record {
  growing = m.growing;
  walks = λ w known r found shallow.
      let p = m.walks w known r found shallow in
      let z = (references_rule at rs w).world in
      (p.0, row_typed u z p.0.sound p.0.entries rs h (all_no_functions_stay w z ((references_stays at rs).stays w) rs (references_clean at rs h w w (stay_so w) found)) more);
}
  where
    m : Walking u ns ns Any NoMore (references_rule at rs)
    m = walking.resting (references_stays at rs) (references_types at rs h)

length_more : {A : Type 0} (xs : List A) (x : A) → length (xs ++ x ∷ []) ≡ suc (length xs)
length_more [] x = refl
length_more (y ∷ xs) x = ap (λ n. suc n) (length_more xs x)

-- the next of these numbers, and those behind it
record Came (n : ℕ) (more : List ℕ) (k whole : ℕ) : Type 0 where
  rest : ℕ
  first : n ≡ k
  are : more ≡ numbers_from (suc k) rest
  all : suc k + rest ≡ whole

came : (n : ℕ) (more : List ℕ) (k count whole : ℕ) → n ∷ more ≡ numbers_from k count → k + count ≡ whole → Came n more k whole
came n more k zero whole e a = absurd (cc)
came n more k (suc c) whole e a = record {
  rest = c;
  first = ap (first_of k) e;
  are = ap behind_of e;
  all = omega (arith, a);
}
  where
    first_of : ℕ → List ℕ → ℕ
    first_of d [] = d
    first_of d (x ∷ xs) = x

    behind_of : List ℕ → List ℕ
    behind_of [] = []
    behind_of (x ∷ xs) = xs

module _ (u : UnitData) where
  denote_walks : (n : ℕ) (more : List ℕ) (e : EmbData) → slice_get u.embs n ≡ Some e → (names : List Text)
      → Walking u (n ∷ more) more (λ w. RowIsTyped w (references e) (denoted_in w names)) NoMore (denote names)
  unfolding denote change
  denote_walks n more e is names = record {
    growing = denote_grows names;
    walks = λ w known r found shallow.
        let z : World = record w { denoted = w.denoted ++ denoted_in w names ∷ [] } in
        let c = came n more (length w.denoted) known.to_come.count (length u.embs) known.to_come.are known.to_come.all in (
          record {
            sound = record { here = known.sound.here; outer = known.sound.outer; structs = known.sound.structs };
            entries = (entries.staying (denote_grows names) (denote_stays names)).keeps w known.entries;
            rows = λ k row f get is_emb. go w known r c.first k row f get is_emb (get_behind w.denoted (denoted_in w names) k);
            to_come = record {
              count = c.rest;
              are = c.are ∙ ap (λ l. numbers_from l c.rest) (sym (length_more w.denoted (denoted_in w names)));
              all = ap (λ l. l + c.rest) (length_more w.denoted (denoted_in w names)) ∙ c.all;
            };
          },
          tt,
        );
  }
    where
      go : (w : World) → Known u (n ∷ more) w → RowIsTyped w (references e) (denoted_in w names) → n ≡ length w.denoted → (k : ℕ) (row : _) (f : EmbData)
          → slice_get (w.denoted ++ denoted_in w names ∷ []) k ≡ Some row → slice_get u.embs k ≡ Some f
          → (slice_get (w.denoted ++ denoted_in w names ∷ []) k ≡ slice_get w.denoted k) ⊎ (k ≡ length w.denoted)
          → RowIsTyped (record w { denoted = w.denoted ++ denoted_in w names ∷ [] }) (references f) row
      go w known r first k row f get is_emb (inl same) =
          row_grows w (record w { denoted = w.denoted ++ denoted_in w names ∷ [] }) (growth.begins_itself w.types) (references f) row (known.rows k row f (sym same ∙ get) is_emb)
      go w known r first k row f get is_emb (inr last) =
          let same_row : denoted_in w names ≡ row = some_is (sym (get_last w.denoted (denoted_in w names)) ∙ sym (ap (slice_get (w.denoted ++ denoted_in w names ∷ [])) last) ∙ get) in
          let same_emb : e ≡ f = some_is (sym is ∙ ap (slice_get u.embs) (first ∙ sym last) ∙ is_emb) in
          row_grows w (record w { denoted = w.denoted ++ denoted_in w names ∷ [] }) (growth.begins_itself w.types) (references f) row
          (subst (λ x. RowIsTyped w (references f) x) same_row (subst (λ g. RowIsTyped w (references g) (denoted_in w names)) same_emb r))

  pub embedded_walks : (is_body in_loop : Bool) (labels : Named (Unit {0})) (at : Place) (n : ℕ) (more : List ℕ) (e : EmbData) → slice_get u.embs n ≡ Some e → IsSimple u.embs e
      → Walking u (n ∷ more) more Any NoMore (embedded_rule u.embs is_body in_loop labels at n e)
  embedded_walks is_body in_loop labels at n more e is h =
      walking.chained (walking.resting (demand_stays _ _ _) (demand_types {R = Any} at F29 (not (is_body && is_directive e)))) (λ a.
      walking.chained (references_walk u at (references e) (names_of_option (declare_opened u.embs n e)) h.are_references) (λ b.
      walking.chained (denote_walks n more e is (variables_of u.embs n e)) (λ c.
      walking.resting (handlers_stays u.embs in_loop labels at e) (handlers_types u.embs in_loop labels at e h.actions))))

  there_below : {A : Type 0} (xs : List A) (n c : ℕ) → n + suc c ≡ length xs → slice_get xs n ≡ None → ⊥
  there_below [] n c l e = omega (arith, l)
  there_below (x ∷ xs) zero c l e = cc
  there_below (x ∷ xs) (suc n) c l e = there_below xs n c (omega (arith, l)) e

  -- a number of no statement is not among those to come
  pub none_walks : (n : ℕ) (more : List ℕ) → slice_get u.embs n ≡ None → Walking u (n ∷ more) more Any NoMore (pure {A = Unit {0}} tt)
  none_walks n more none = record {
    growing = growth.pure_grows tt;
    walks = λ w known r found shallow.
        let c = came n more (length w.denoted) known.to_come.count (length u.embs) known.to_come.are known.to_come.all in
        absurd (there_below u.embs n c.rest (let f = c.first in let a = c.all in omega (arith, f, a)) none);
  }
