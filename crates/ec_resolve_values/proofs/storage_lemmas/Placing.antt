-- Names, and their places.
use Rattle.std.proofs.Common.{◌≡◌, ◌∙◌, ℕ, suc, ◌+◌, Bool, true, false, [], ◌∷◌, length, Option, Some, None, is_some, cond, refl, sym, ap, subst, arith}
use Rattle.std.proofs.lemmas.Bool.{false≢true, true≢false}
use Rattle.ec_language.specs.Letters.{Text, same_text}
use Rattle.ec_typing_defs.specs.Tables.{Named, find, put}
use Rattle.ec_resolving_defs.specs.Operands.{place_in}
use Rattle.ec_resolve_values.specs.storage.Places.{names_of, placed}

pub names_placed : (n : ℕ) (es : Named (Unit {0})) → names_of (placed n es) ≡ es
names_placed n [] = refl
names_placed n (e ∷ es) = ap (λ l. (e.0, tt) ∷ l) (names_placed (suc n) es)

-- a name that is there stays where it is
pub put_there : (name : Text) (n : ℕ) (es : Named (Unit {0})) → is_some (find name (placed n es)) ≡ true → put name tt es ≡ es
put_there name n [] h = absurd (false≢true h)
put_there name n (e ∷ es) h = by (same_text name e.0) h (put_there name (suc n) es)
  where
    by : (b : Bool) → is_some (cond b (Some n) (find name (placed (suc n) es))) ≡ true → (is_some (find name (placed (suc n) es)) ≡ true → put name tt es ≡ es)
        → cond b ((e.0, tt) ∷ es) (e ∷ put name tt es) ≡ e ∷ es
    by true h rest = refl
    by false h rest = ap (λ l. e ∷ l) (rest h)

-- any other comes last
pub put_last : (name : Text) (n : ℕ) (es : Named (Unit {0})) → is_some (find name (placed n es)) ≡ false → put name (n + length es) (placed n es) ≡ placed n (put name tt es)
put_last name n [] h = let e : n + 0 ≡ n = omega arith in ap (λ m. (name, m) ∷ []) e
put_last name n (e ∷ es) h = by (same_text name e.0) h (put_last name (suc n) es)
  where
    by : (b : Bool) → is_some (cond b (Some n) (find name (placed (suc n) es))) ≡ false
        → (is_some (find name (placed (suc n) es)) ≡ false → put name (suc n + length es) (placed (suc n) es) ≡ placed (suc n) (put name tt es))
        → cond b ((e.0, n + suc (length es)) ∷ placed (suc n) es) ((e.0, n) ∷ put name (n + suc (length es)) (placed (suc n) es)) ≡ placed n (cond b ((e.0, tt) ∷ es) (e ∷ put name tt es))
    by true h rest = absurd (true≢false h)
    by false h rest = let s : n + suc (length es) ≡ suc n + length es = omega arith in ap (λ m. (e.0, n) ∷ put name m (placed (suc n) es)) s ∙ ap (λ l. (e.0, n) ∷ l) (rest h)

-- where it is found, and where it would come
pub found_at : (name : Text) (n : ℕ) (es : Named (Unit {0})) → elim (find name (placed n es)) [ Some k ↦ k | None ↦ n + length es ] ≡ n + place_in name es
found_at name n [] = refl
found_at name n (e ∷ es) = by (same_text name e.0) (found_at name (suc n) es)
  where
    by : (b : Bool) → elim (find name (placed (suc n) es)) [ Some k ↦ k | None ↦ suc n + length es ] ≡ suc n + place_in name es
        → elim (cond b (Some n) (find name (placed (suc n) es))) [ Some k ↦ k | None ↦ n + suc (length es) ] ≡ n + cond b 0 (suc (place_in name es))
    by true rest = let e : n ≡ n + 0 = omega arith in e
    by false rest =
        let s : n + suc (length es) ≡ suc n + length es = omega arith in
        let t : suc n + place_in name es ≡ n + suc (place_in name es) = omega arith in
        ap (λ m. elim (find name (placed (suc n) es)) [ Some k ↦ k | None ↦ m ]) s ∙ rest ∙ t

same_length : (es : Named ℕ) → length (names_of es) ≡ length es
same_length [] = refl
same_length (e ∷ es) = ap suc (same_length es)

place_of : (name : Text) (table : Named ℕ) (names : Named (Unit {0})) → table ≡ placed 0 (names_of table) → names_of table ≡ names
    → elim (find name table) [ Some k ↦ k | None ↦ length table ] ≡ place_in name names
place_of name table names kept seen =
    let none : length table ≡ 0 + length (names_of table) = omega (arith, same_length table) in
    let plain : 0 + place_in name (names_of table) ≡ place_in name (names_of table) = omega arith in
    (λ i. elim (find name (kept i)) [ Some k ↦ k | None ↦ none i ]) ∙ found_at name 0 (names_of table) ∙ plain ∙ ap (place_in name) seen

pub place_found : (name : Text) (table : Named ℕ) (names : Named (Unit {0})) (k : ℕ) → table ≡ placed 0 (names_of table) → names_of table ≡ names
    → Some k ≡ find name table → k ≡ place_in name names
place_found name table names k kept seen h = ap (λ (o : Option ℕ). elim o [ Some m ↦ m | None ↦ length table ]) h ∙ place_of name table names kept seen

pub place_missing : (name : Text) (table : Named ℕ) (names : Named (Unit {0})) → table ≡ placed 0 (names_of table) → names_of table ≡ names
    → None ≡ find name table → length table ≡ place_in name names
place_missing name table names kept seen h = ap (λ (o : Option ℕ). elim o [ Some m ↦ m | None ↦ length table ]) h ∙ place_of name table names kept seen

pub there : (name : Text) (table : Named ℕ) (names : Named (Unit {0})) → table ≡ placed 0 (names_of table) → names_of table ≡ names
    → is_some (find name table) ≡ true → names ≡ put name tt names
there name table names kept seen h =
    subst (λ l. l ≡ put name tt l) seen (sym (put_there name 0 (names_of table) (ap (λ l. is_some (find name l)) (sym kept) ∙ h)))

-- one name more
pub added : (name : Text) (table new : Named ℕ) (names : Named (Unit {0})) → table ≡ placed 0 (names_of table) → names_of table ≡ names
    → is_some (find name table) ≡ false → new ≡ put name (length table) table → new ≡ placed 0 (put name tt names)
added name table new names kept seen h made =
    let count : length table ≡ 0 + length (names_of table) = omega (arith, same_length table) in
    made ∙ (λ i. put name (count i) (kept i)) ∙ put_last name 0 (names_of table) (ap (λ l. is_some (find name l)) (sym kept) ∙ h) ∙ ap (λ l. placed 0 (put name tt l)) seen

pub still_placed : (new : Named ℕ) (names : Named (Unit {0})) → new ≡ placed 0 names → new ≡ placed 0 (names_of new)
still_placed new names e = e ∙ ap (placed 0) (sym (ap names_of e ∙ names_placed 0 names))

pub now_seen : (new : Named ℕ) (names : Named (Unit {0})) → new ≡ placed 0 names → names_of new ≡ names
now_seen new names e = ap names_of e ∙ names_placed 0 names
