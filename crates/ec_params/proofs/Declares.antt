-- The table of cursors finds the first DECLARE above.
use Rattle.std.proofs.Common.{◌≡◌, ℕ, zero, suc, ◌+◌, Bool, true, false, List, [], ◌∷◌, map, take, Option, Some, None, refl, sym, ap, ◌∙◌, arith}
use Rattle.std.proofs.lemmas.Bool.Decides.{nat_tests}
use Rattle.std.specs.Prelude.{slice_get, nat_eq, if◌then◌else◌, ◌&&◌}
use Rattle.ec_ctypes.specs.trees.Embedded.{EmbData}
use Rattle.ec_embedded.proofs.Sound.{texts_equal}
use Rattle.ec_language.specs.Letters.{Text, lower, same_text, same_word}
use Rattle.ec_typing_defs.specs.statement_parts.Cursors.{declared_cursor, declare_from, declared_above}
use Rattle.ec_typing_defs.specs.Tables.{Named, find, put}
use Rattle.ec_params.specs.Tables.{named_cursor, found_in, with_declared, aboves}

abbrev pub or_else : Option ℕ → Option ℕ → Option ℕ
or_else (Some k) o = Some k
or_else None o = o

number_swapped : (m n : ℕ) → nat_eq m n ≡ nat_eq n m
number_swapped m n = by_test (nat_eq m n) refl
  where
    by_test : (b : Bool) → nat_eq m n ≡ b → b ≡ nat_eq n m
    by_test true e = grind (arith, nat_tests)
    by_test false e = grind (arith, nat_tests)

swapped : (a b : Text) → same_text a b ≡ same_text b a
swapped [] [] = refl
swapped [] (d ∷ b) = refl
swapped (c ∷ a) [] = refl
swapped (c ∷ a) (d ∷ b) = λ i. number_swapped c d i && swapped a b i

-- a name that wasn't there
pub find_put : (name key : Text) (n : ℕ) (t : Named ℕ) → find key t ≡ None → find name (put key n t) ≡ or_else (find name t) (if same_text name key then Some n else None)
find_put name key n [] e = refl
find_put name key n (x ∷ t) e = step (find_put name key n t) (same_text key x.0) e
  where
    by_name : (find key t ≡ None → find name (put key n t) ≡ or_else (find name t) (if same_text name key then Some n else None)) → (b : Bool) → find key t ≡ None → (if b then Some x.1 else find name (put key n t)) ≡ or_else (if b then Some x.1 else find name t) (if same_text name key then Some n else None)
    by_name rest true h = refl
    by_name rest false h = rest h

    step : (find key t ≡ None → find name (put key n t) ≡ or_else (find name t) (if same_text name key then Some n else None)) → (b : Bool) → (if b then Some x.1 else find key t) ≡ None → find name (if b then (x.0, n) ∷ t else x ∷ put key n t) ≡ or_else (find name (x ∷ t)) (if same_text name key then Some n else None)
    step rest true h = absurd cc
    step rest false h = by_name rest (same_text name x.0) h

pub joined : (k : ℕ) (d : Option ℕ) (o : Option ℕ) (b : Bool) → or_else (or_else o (if b then Some k else None)) d ≡ or_else o (if b then Some k else d)
joined k d None true = refl
joined k d None false = refl
joined k d (Some j) b = refl

-- one statement more
one_more : (c : Text) (k : ℕ) (t : Named ℕ) (o : Option Text) (rest : Option ℕ) → or_else (find (map lower c) (with_declared k t o)) rest ≡ or_else (find (map lower c) t) (elim o [ None ↦ rest | Some d ↦ if same_word d c then Some k else rest ])
one_more c k t None rest = refl
one_more c k t (Some d) rest = by_find (find (map lower d) t) refl
  where
    by_same : (j : ℕ) → find (map lower d) t ≡ Some j → (b : Bool) → same_word d c ≡ b → or_else (find (map lower c) t) rest ≡ or_else (find (map lower c) t) (if b then Some k else rest)
    by_same j e false h = refl
    by_same j e true h =
        let f : find (map lower c) t ≡ Some j = ap (λ (x : Text). find x t) (sym (texts_equal (map lower d) (map lower c) h)) ∙ e in
        ap (λ o. or_else o rest) f ∙ sym (ap (λ o. or_else o (Some k)) f)

    by_find : (r : Option ℕ) → find (map lower d) t ≡ r → or_else (find (map lower c) (elim r [ None ↦ put (map lower d) k t | Some j ↦ t ])) rest ≡ or_else (find (map lower c) t) (if same_word d c then Some k else rest)
    by_find None e =
        ap (λ o. or_else o rest) (find_put (map lower c) (map lower d) k t e)
        ∙ joined k rest (find (map lower c) t) (same_text (map lower c) (map lower d))
        ∙ ap (λ (b : Bool). or_else (find (map lower c) t) (if b then Some k else rest)) (swapped (map lower c) (map lower d))
    by_find (Some j) e = by_same j e (same_word d c) refl

-- the table behind these statements
abbrev tabled : ℕ → Named ℕ → List EmbData → Named ℕ
tabled k t [] = t
tabled k t (e ∷ es) = tabled (k + 1) (with_declared k t (declared_cursor e)) es

pub none_right : (o : Option ℕ) → or_else o None ≡ o
none_right None = refl
none_right (Some k) = refl

found_tabled : (c : Text) (k : ℕ) (t : Named ℕ) (es : List EmbData) → or_else (find (map lower c) t) (declare_from k c es) ≡ find (map lower c) (tabled k t es)
found_tabled c k t [] = none_right (find (map lower c) t)
found_tabled c k t (e ∷ es) = sym (one_more c k t (declared_cursor e) (declare_from (k + 1) c es)) ∙ found_tabled c (k + 1) (with_declared k t (declared_cursor e)) es

aboves_at : (k : ℕ) (t : Named ℕ) (es : List EmbData) (n : ℕ) (e : EmbData) → slice_get es n ≡ Some e → slice_get (aboves k t es) n ≡ Some (found_in (tabled k t (take n es)) (named_cursor e))
aboves_at k t [] n e h = absurd cc
aboves_at k t (x ∷ es) zero e h = let p : x ≡ e = cc in ap (λ (y : EmbData). Some (found_in t (named_cursor y))) p
aboves_at k t (x ∷ es) (suc n) e h = aboves_at (k + 1) (with_declared k t (declared_cursor x)) es n e h

pub above_is : (es : List EmbData) (n : ℕ) (e : EmbData) (c : Text) → slice_get es n ≡ Some e → named_cursor e ≡ Some c → slice_get (aboves 0 [] es) n ≡ Some (declared_above es n c)
above_is es n e c h g =
    aboves_at 0 [] es n e h
    ∙ ap (λ (o : Option Text). Some (found_in (tabled 0 [] (take n es)) o)) g
    ∙ ap Some (sym (found_tabled c 0 [] (take n es)))
