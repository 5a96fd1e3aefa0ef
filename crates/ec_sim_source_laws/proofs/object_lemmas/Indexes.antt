-- A name that is an index in a reference in which nothing is wrong stands for no function.
use Rattle.std.proofs.Common.{◌≡◌, ◌∙◌, ℕ, Bool, true, not, List, [], ◌∷◌, ◌++◌, map, length, take, drop, Option, Some, None, refl, sym, ap, subst, append_assoc, ◌&&◌}
use Rattle.ec_ctypes.specs.trees.Types.{TyData}
use Rattle.ec_ctypes.specs.trees.Exprs.{ExprData, integer, character, string, identifier, index, member, arrow, call, unary, binary, assign, bump, call_other, cast, size_type, size_expr}
use Rattle.ec_sim_host_laws.specs.cursor.Cursors.{is_no_function, are_no_functions}
use Rattle.ec_language.specs.Letters.{Text}
use Rattle.ec_typing_defs.specs.statement_parts.References.{References, names_in, all_names}
use Rattle.ec_typing_defs.specs.Tables.{Named, find}
use Rattle.ec_typing_defs.specs.Operands.{unknown, value_rule, name_rule, named_by, index_rule}
use Rattle.ec_typing_defs.specs.Worlds.{Place, EntryData, object, function, ScopeData, Rule, World, chain, ask, note, look_up, look_up_in, or_else}
use Rattle.ec_typing_defs.specs.Expressions.{expr}
use Rattle.ec_typing_defs.specs.Embedded.{reference_rule, members_rule, references_rule, denoted_by, denoted_in}
use Rattle.ec_sim_world_laws.specs.place.References.{IsIndex, IsReference, variable_in}
use Rattle.ec_sim_host_laws.specs.reference.Found.{AreReferences}
use Rattle.ec_sim_world_laws.proofs.known_lemmas.NamesRules as stay
use Rattle.ec_sim_world_laws.proofs.known_lemmas.NamesRules.{NamesStay, stay_so, stay_further, Staying}
use Rattle.ec_sim_world_laws.proofs.known_lemmas.NamesExpressions as staying
use Rattle.ec_sim_world_laws.proofs.known_lemmas.NamesExpressions.{expr_stays}
use Rattle.ec_sim_source_laws.proofs.object_lemmas.Walking.{both_none, IsFine, AreFine, ScopesAreFine, RowIsFine}

-- ---- what indexes stand for

-- no function
abbrev NoFunction : Option EntryData → Type 0
NoFunction None = Unit {0}
NoFunction (Some (object k global t)) = Unit {0}
NoFunction (Some (function k done r ps)) = ⊥

abbrev NoFunctions : World → List Text → Type 0
NoFunctions w [] = Unit {0}
NoFunctions w (x ∷ xs) = NoFunction (look_up x w) × NoFunctions w xs

no_functions_join : (w : World) (xs ys : List Text) → NoFunctions w xs → NoFunctions w ys → NoFunctions w (xs ++ ys)
no_functions_join w [] ys p q = q
no_functions_join w (x ∷ xs) ys p q = (p.0, no_functions_join w xs ys p.1 q)

-- the names in a reference behind that of its variable
abbrev index_names : ExprData → List Text
index_names (index a b) = index_names a ++ names_in b
index_names (member e m) = index_names e
index_names (arrow e m) = index_names e
index_names _ = []

names_split : (e : ExprData) → IsReference e → names_in e ≡ variable_in e ∷ index_names e
names_split (identifier x) h = refl
names_split (index a b) h = ap (λ xs. xs ++ names_in b) (names_split a h.0)
names_split (member e m) h = names_split e h
names_split (arrow e m) h = names_split e h
names_split (integer n t) h = absurd h
names_split (character c) h = absurd h
names_split (string s) h = absurd h
names_split (unary op e) h = absurd h
names_split (binary op a b) h = absurd h
names_split (assign op a b) h = absurd h
names_split (bump before up e) h = absurd h
names_split (call f es) h = absurd h
names_split (call_other f es) h = absurd h
names_split (cast b stars e) h = absurd h
names_split (size_type b stars) h = absurd h
names_split (size_expr e) h = absurd h

-- where names stay, a name stands for the same
same_name : (w z : World) → NamesStay w z → (x : Text) → look_up x z ≡ look_up x w
same_name w z s x = (λ i. or_else (find x (s.here i)) (look_up_in z.outer x)) ∙ (λ i. or_else (find x w.here.names) (look_up_in (s.outer i) x))

no_function_by : (at : Place) (x : Text) (e : Option EntryData) (w : World) → (named_by at x e w).found ≡ [] → NoFunction e
unfolding named_by chain note
no_function_by at x None w found = tt
no_function_by at x (Some (object k global t)) w found = tt
no_function_by at x (Some (function k done r ps)) w found = absurd (cc)

name_clean : (at : Place) (x : Text) (w : World) → (name_rule at x w).found ≡ [] → NoFunction (look_up x w)
unfolding name_rule chain ask
name_clean at x w found = no_function_by at x (look_up x w) w found

-- of an index alone
index_clean : (at : Place) (e : ExprData) → IsIndex e → (w z : World) → NamesStay w z → (expr at e z).found ≡ [] → NoFunctions w (names_in e)
index_clean at (integer n t) h w z s found = tt
index_clean at (identifier x) h w z s found = (subst NoFunction (same_name w z s x) (name_clean at x z found), tt)
index_clean at (character c) h w z s found = absurd h
index_clean at (string x) h w z s found = absurd h
index_clean at (index a b) h w z s found = absurd h
index_clean at (member e m) h w z s found = absurd h
index_clean at (arrow e m) h w z s found = absurd h
index_clean at (unary op e) h w z s found = absurd h
index_clean at (binary op a b) h w z s found = absurd h
index_clean at (assign op a b) h w z s found = absurd h
index_clean at (bump before up e) h w z s found = absurd h
index_clean at (call f es) h w z s found = absurd h
index_clean at (call_other f es) h w z s found = absurd h
index_clean at (cast b stars e) h w z s found = absurd h
index_clean at (size_type b stars) h w z s found = absurd h
index_clean at (size_expr e) h w z s found = absurd h

-- what the first of two rules found, and the second
first_clean : {A B : Type 0} (m : Rule A) (f : A → Rule B) (w : World) → (chain m f w).found ≡ [] → (m w).found ≡ []
unfolding chain
first_clean m f w e = (both_none (m w).found (f (m w).answer (m w).world).found e).0

second_clean : {A B : Type 0} (m : Rule A) (f : A → Rule B) (w : World) → (chain m f w).found ≡ [] → (f (m w).answer (m w).world).found ≡ []
unfolding chain
second_clean m f w e = (both_none (m w).found (f (m w).answer (m w).world).found e).1

names_clean : (at : Place) (e : ExprData) → IsReference e → (w z : World) → NamesStay w z → (expr at e z).found ≡ [] → NoFunctions w (index_names e)
names_clean at (identifier x) h w z s found = tt
names_clean at (index a b) h w z s found =
    let left : Rule _ = chain (expr at a) (value_rule at) in
    let f = first_clean left (λ x. chain (chain (expr at b) (value_rule at)) (λ y. index_rule at x y)) z found in
    let g = second_clean left (λ x. chain (chain (expr at b) (value_rule at)) (λ y. index_rule at x y)) z found in
    let y = left z in
    no_functions_join w (index_names a) (names_in b) (names_clean at a h.0 w z s (first_clean (expr at a) (value_rule at) z f))
    (index_clean at b h.1 w y.world (stay_further w z y.world s ((staying.valued at (expr_stays at a)).stays z))
    (first_clean (expr at b) (value_rule at) y.world (first_clean (chain (expr at b) (value_rule at)) (λ v. index_rule at y.answer v) y.world g)))
names_clean at (member e m) h w z s found = names_clean at e h w z s (first_clean (expr at e) _ z found)
names_clean at (arrow e m) h w z s found = names_clean at e h w z s (first_clean (expr at e) (value_rule at) z (first_clean (chain (expr at e) (value_rule at)) _ z found))
names_clean at (integer n t) h w z s found = absurd h
names_clean at (character c) h w z s found = absurd h
names_clean at (string x) h w z s found = absurd h
names_clean at (unary op e) h w z s found = absurd h
names_clean at (binary op a b) h w z s found = absurd h
names_clean at (assign op a b) h w z s found = absurd h
names_clean at (bump before up e) h w z s found = absurd h
names_clean at (call f es) h w z s found = absurd h
names_clean at (call_other f es) h w z s found = absurd h
names_clean at (cast b stars e) h w z s found = absurd h
names_clean at (size_type b stars) h w z s found = absurd h
names_clean at (size_expr e) h w z s found = absurd h

-- a reference that is looked at as an expression
reference_clean : (at : Place) (e : ExprData) → IsReference e → (w z : World) → NamesStay w z → (reference_rule at e z).found ≡ [] → NoFunctions w (index_names e)
unfolding reference_rule chain ask
reference_clean at (identifier x) h w z s found = tt
reference_clean at (index a b) h w z s found = names_clean at (index a b) h w z s found
reference_clean at (member e m) h w z s found = names_clean at (member e m) h w z s found
reference_clean at (arrow e m) h w z s found = names_clean at (arrow e m) h w z s found
reference_clean at (integer n t) h w z s found = absurd h
reference_clean at (character c) h w z s found = absurd h
reference_clean at (string x) h w z s found = absurd h
reference_clean at (unary op e) h w z s found = absurd h
reference_clean at (binary op a b) h w z s found = absurd h
reference_clean at (assign op a b) h w z s found = absurd h
reference_clean at (bump before up e) h w z s found = absurd h
reference_clean at (call f es) h w z s found = absurd h
reference_clean at (call_other f es) h w z s found = absurd h
reference_clean at (cast b stars e) h w z s found = absurd h
reference_clean at (size_type b stars) h w z s found = absurd h
reference_clean at (size_expr e) h w z s found = absurd h

abbrev pub AllNoFunctions : World → References → Type 0
AllNoFunctions w [] = Unit {0}
AllNoFunctions w (r ∷ rs) = NoFunctions w (index_names r.value) × AllNoFunctions w rs

reference_stays : (at : Place) (e : ExprData) → Staying (reference_rule at e)
unfolding reference_rule
reference_stays at e = stay.asked _ _ (λ alone. stay.chosen alone (stay.pure_stays unknown) (expr_stays at e))

members_stays : (at : Place) (is_host : Bool) (t : Option TyData) → Staying (members_rule at is_host t)
unfolding members_rule
members_stays at is_host t = stay.asked _ _ (λ few. stay.keep_stays _ _ _)

pub references_clean : (at : Place) (rs : References) → AreReferences rs → (w z : World) → NamesStay w z → (references_rule at rs z).found ≡ [] → AllNoFunctions w rs
references_clean at [] h w z s found = tt
references_clean at (r ∷ rs) h w z s found =
    let m = reference_rule at r.value in
    let f : _ → Rule (Unit {0}) = λ o. chain (members_rule at r.is_host o.type) (λ u. references_rule at rs) in
    let y = m z in
    let v = members_rule at r.is_host y.answer.type y.world in
    let s1 = stay_further w z y.world s ((reference_stays at r.value).stays z) in (
      reference_clean at r.value h.0 w z s (first_clean m f z found),
      references_clean at rs h.1 w v.world (stay_further w y.world v.world s1 ((members_stays at r.is_host y.answer.type).stays y.world))
          (second_clean (members_rule at r.is_host y.answer.type) (λ u. references_rule at rs) y.world (second_clean m f z found)),
    )

-- ---- rows

abbrev IsFineOption : List ℕ → Option EntryData → Type 0
IsFineOption fs None = Unit {0}
IsFineOption fs (Some e) = IsFine fs e

either_fine : (fs : List ℕ) (a b : Option EntryData) → IsFineOption fs a → IsFineOption fs b → IsFineOption fs (or_else a b)
either_fine fs None b p q = q
either_fine fs (Some e) b p q = p

one_fine : (fs : List ℕ) (x : Text) (names : Named EntryData) → AreFine fs names → IsFineOption fs (find x names)
one_fine fs x names all = go (find x names) refl
  where
    go : (o : Option EntryData) → find x names ≡ o → IsFineOption fs o
    go None is = tt
    go (Some e) is = all x e is

scopes_fine : (fs : List ℕ) (x : Text) (ss : List ScopeData) → ScopesAreFine fs ss → IsFineOption fs (look_up_in ss x)
scopes_fine fs x [] h = tt
scopes_fine fs x (s ∷ ss) h = either_fine fs (find x s.names) (look_up_in ss x) (one_fine fs x s.names h.0) (scopes_fine fs x ss h.1)

-- where all objects are
abbrev pub HasFine : List ℕ → World → Type 0
HasFine fs w = AreFine fs w.here.names × ScopesAreFine fs w.outer

name_fine : (fs : List ℕ) (w : World) → HasFine fs w → (x : Text) → IsFineOption fs (look_up x w)
name_fine fs w h x = either_fine fs (find x w.here.names) (look_up_in w.outer x) (one_fine fs x w.here.names h.0) (scopes_fine fs x w.outer h.1)

entry_denotes : (fs : List ℕ) (o : Option EntryData) → NoFunction o → IsFineOption fs o → is_no_function fs (denoted_by o) ≡ true
entry_denotes fs None n h = refl
entry_denotes fs (Some (object k global t)) n h = ap not h
entry_denotes fs (Some (function k done r ps)) n h = absurd n

pub both_true : (a b : Bool) → a ≡ true → b ≡ true → (a && b) ≡ true
both_true a b p q = λ i. p i && q i

names_denote : (fs : List ℕ) (w : World) → HasFine fs w → (xs : List Text) → NoFunctions w xs → are_no_functions fs (denoted_in w xs) ≡ true
names_denote fs w h [] n = refl
names_denote fs w h (x ∷ xs) n =
    both_true (is_no_function fs (denoted_by (look_up x w))) (are_no_functions fs (denoted_in w xs)) (entry_denotes fs (look_up x w) n.0 (name_fine fs w h x)) (names_denote fs w h xs n.1)

front_taken : {A B : Type 0} (f : A → B) (xs ys : List A) → take (length xs) (map f (xs ++ ys)) ≡ map f xs
front_taken f [] ys = refl
front_taken f (x ∷ xs) ys = ap (λ zs. f x ∷ zs) (front_taken f xs ys)

front_dropped : {A B : Type 0} (f : A → B) (xs ys : List A) → drop (length xs) (map f (xs ++ ys)) ≡ map f ys
front_dropped f [] ys = refl
front_dropped f (x ∷ xs) ys = front_dropped f xs ys

pub row_fine : (fs : List ℕ) (w : World) → HasFine fs w → (rs : References) → AreReferences rs → AllNoFunctions w rs → (more : List Text) → more ≡ [] → RowIsFine fs rs (denoted_in w (all_names rs ++ more))
row_fine fs w h [] is n more none = ap (λ xs. denoted_in w xs) none
row_fine fs w h (r ∷ rs) is n more none = subst (λ xs. RowIsFine fs (r ∷ rs) (denoted_in w xs)) (sym (append_assoc (names_in r.value) (all_names rs) more)) (
  subst (λ ds. are_no_functions fs ds ≡ true) (sym (ap (drop 1) (front_taken (λ x. denoted_by (look_up x w)) (names_in r.value) (all_names rs ++ more)) ∙ ap (λ xs. drop 1 (denoted_in w xs)) (names_split r.value is.0)))
      (names_denote fs w h (index_names r.value) n.0),
  subst (RowIsFine fs rs) (sym (front_dropped (λ x. denoted_by (look_up x w)) (names_in r.value) (all_names rs ++ more))) (row_fine fs w h rs is.1 n.1 more none),
)

no_functions_stay : (w z : World) → NamesStay w z → (xs : List Text) → NoFunctions w xs → NoFunctions z xs
no_functions_stay w z s [] h = tt
no_functions_stay w z s (x ∷ xs) h = (subst NoFunction (sym (same_name w z s x)) h.0, no_functions_stay w z s xs h.1)

pub all_no_functions_stay : (w z : World) → NamesStay w z → (rs : References) → AllNoFunctions w rs → AllNoFunctions z rs
all_no_functions_stay w z s [] h = tt
all_no_functions_stay w z s (r ∷ rs) h = (no_functions_stay w z s (index_names r.value) h.0, all_no_functions_stay w z s rs h.1)
