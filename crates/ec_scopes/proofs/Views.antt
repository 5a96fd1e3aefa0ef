-- Tables and scopes, seen.
use Rattle.std.proofs.Common.{◌≡◌, ◌∙◌, ℕ, zero, suc, ◌+◌, ◌-◌, ◌<◌, ◌≤◌, arith, set, Bool, true, false, cond, List, [], ◌∷◌, ◌++◌, map, reverse, length, take, get_or, Option, Some, None, is_some, refl, sym, ap, add-one}
use Rattle.std.specs.Prelude.{option_map}
use Rattle.std.proofs.Math.Seq.{take-suc}
use Rattle.std.proofs.lemmas.List.{map-append, reverse-append}
use Rattle.ec_language.specs.Letters.{Text, same_text}
use Rattle.ec_typing_defs.specs.Tables.{Named, find, put}
use Rattle.ec_typing_defs.specs.Worlds.{or_else, look_up_in, tag_in}
use Rattle.ec_scopes.specs.declared.entries.Scope.{Scope}
use Rattle.ec_scopes.specs.declared.entries.Entry.{Entry}
use Rattle.ec_scopes.specs.Entries.{named_view, entry_view, scope_view, outer_view}

pub find-named : {V W : Type 0} (f : V → W) (name : Text) (es : Named V) → find name (named_view f es) ≡ option_map f (find name es)
find-named f name [] = refl
find-named f name (e ∷ es) = by (same_text name e.0) (find-named f name es)
  where
    by : (b : Bool) → find name (named_view f es) ≡ option_map f (find name es) → cond b (Some (f e.1)) (find name (named_view f es)) ≡ option_map f (cond b (Some e.1) (find name es))
    by true p = refl
    by false p = p

pub put-named : {V W : Type 0} (f : V → W) (name : Text) (v : V) (es : Named V) → named_view f (put name v es) ≡ put name (f v) (named_view f es)
put-named f name v [] = refl
put-named f name v (e ∷ es) = by (same_text name e.0) (put-named f name v es)
  where
    by : (b : Bool) → named_view f (put name v es) ≡ put name (f v) (named_view f es)
        → named_view f (cond b ((e.0, v) ∷ es) (e ∷ put name v es)) ≡ cond b ((e.0, f v) ∷ named_view f es) ((e.0, f e.1) ∷ put name (f v) (named_view f es))
    by true p = refl
    by false p = ap (λ rest. (e.0, f e.1) ∷ rest) p

pub is_some-map : {V W : Type 0} (f : V → W) (o : Option V) → is_some (option_map f o) ≡ is_some o
is_some-map f None = refl
is_some-map f (Some v) = refl

pub is_there : {V W : Type 0} (f : V → W) (name : Text) (es : Named V) → is_some (find name (named_view f es)) ≡ is_some (find name es)
is_there f name es = ap is_some (find-named f name es) ∙ is_some-map f (find name es)

-- the scopes up to one, with that one
pub one_scope_more : (ss : List Scope) (k : ℕ) (d : Scope) → k < length ss → outer_view (take (k + 1) ss) ≡ scope_view (get_or ss k d) ∷ outer_view (take k ss)
one_scope_more ss k d lt =
    ap (λ n. outer_view (take n ss)) (add-one k) ∙ ap outer_view (take-suc ss k d lt)
    ∙ ap reverse (map-append scope_view (take k ss) (get_or ss k d ∷ [])) ∙ reverse-append (map scope_view (take k ss)) (scope_view (get_or ss k d) ∷ [])

-- the first n scopes are the last of them, and those before it
pub scope_seen : (ss : List Scope) (n : ℕ) (d : Scope) → 0 < n → n ≤ length ss → outer_view (take n ss) ≡ scope_view (get_or ss (n - 1) d) ∷ outer_view (take (n - 1) ss)
scope_seen ss n d pos le =
    let e : n ≡ (n - 1) + 1 = omega arith in
    ap (λ m. outer_view (take m ss)) e ∙ one_scope_more ss (n - 1) d (omega arith)

module _ (name : Text) (ss : List Scope) (n : ℕ) (d : Scope) (pos : 0 < n) (le : n ≤ length ss) where
  pub name_found : {e : Entry} → Some e ≡ find name (get_or ss (n - 1) d).names → Some (entry_view e) ≡ look_up_in (outer_view (take n ss)) name
  name_found h = sym (ap (λ x. look_up_in x name) (scope_seen ss n d pos le) ∙ ap (λ o. or_else o (look_up_in (outer_view (take (n - 1) ss)) name)) (find-named entry_view name (get_or ss (n - 1) d).names ∙ ap (option_map entry_view) (sym h)))

  pub name_missing : None ≡ find name (get_or ss (n - 1) d).names → look_up_in (outer_view (take (n - 1) ss)) name ≡ look_up_in (outer_view (take n ss)) name
  name_missing h = sym (ap (λ x. look_up_in x name) (scope_seen ss n d pos le) ∙ ap (λ o. or_else o (look_up_in (outer_view (take (n - 1) ss)) name)) (find-named entry_view name (get_or ss (n - 1) d).names ∙ ap (option_map entry_view) (sym h)))

  pub tag_found : {k : ℕ} → Some k ≡ find name (get_or ss (n - 1) d).tags → Some k ≡ tag_in (outer_view (take n ss)) name
  tag_found h = sym (ap (λ x. tag_in x name) (scope_seen ss n d pos le) ∙ ap (λ o. or_else o (tag_in (outer_view (take (n - 1) ss)) name)) (sym h))

  pub tag_missing : None ≡ find name (get_or ss (n - 1) d).tags → tag_in (outer_view (take (n - 1) ss)) name ≡ tag_in (outer_view (take n ss)) name
  tag_missing h = sym (ap (λ x. tag_in x name) (scope_seen ss n d pos le) ∙ ap (λ o. or_else o (tag_in (outer_view (take (n - 1) ss)) name)) (sym h))

-- past the end nothing is set
pub set-past : {A : Type 0} (xs : List A) (k : ℕ) (y : A) → length xs ≤ k → xs ≡ set xs k y
set-past [] k y h = refl
set-past (x ∷ xs) zero y h = absurd (omega arith)
set-past (x ∷ xs) (suc k) y h = ap (λ zs. x ∷ zs) (set-past xs k y (omega arith))

-- the nearest scope stands last
pub outer_push : (ss : List Scope) (s : Scope) → outer_view (ss ++ (s ∷ [])) ≡ scope_view s ∷ outer_view ss
outer_push ss s = ap reverse (map-append scope_view ss (s ∷ [])) ∙ reverse-append (map scope_view ss) (scope_view s ∷ [])
