-- The table has for each cursor its first DECLARE.
use Rattle.std.proofs.Common.{◌≡◌, ◌∙◌, ℕ, zero, suc, ◌+◌, ◌≤◌, ◌<◌, Bool, true, false, cond, nat_lt, ◌&&◌, List, [], ◌∷◌, map, take, drop, Option, Some, None, refl, sym, ap, subst, arith, slice_get, option_and_then}
use Rattle.std.proofs.lemmas.Bool.{eq-eqb}
use Rattle.std.proofs.lemmas.Bool.Decides.{nat_tests}
use Rattle.ec_ctypes.specs.trees.Embedded.{EmbData}
use Rattle.ec_language.specs.Letters.{Text, lower, same_text, same_word}
use Rattle.ec_language.proofs.Marks.{same_text_is}
use Rattle.ec_typing_defs.specs.statement_parts.Cursors.{declared_cursor, declare_from, declared_above}
use Rattle.ec_typing_defs.specs.Tables.{Named, find, put}
use Rattle.ec_typing_defs.specs.Worlds.{or_else}
use Rattle.ec_embedded_rules.specs.parts.Cursors.{with_cursor, cursors_from}

-- ---- what is put into a table

put_here : {V : Type 0} (name : Text) (v : V) (es : Named V) → same_text name name ≡ true → find name (put name v es) ≡ Some v
put_here name v [] r = ap (λ b. cond b (Some v) None) r
put_here {V} name v (e ∷ es) r = by (same_text name e.0) refl (put_here name v es r)
  where
    by : (b : Bool) → same_text name e.0 ≡ b → find name (put name v es) ≡ Some v → find name (cond b ((e.0, v) ∷ es) (e ∷ put name v es)) ≡ Some v
    by true t ih = ap (λ b. cond b (Some v) (find name es)) t
    by false t ih = ap (λ b. cond b (Some e.1) (find name (put name v es))) t ∙ ih

put_there : {V : Type 0} (name other : Text) (v : V) (es : Named V) → same_text other name ≡ false → find other (put name v es) ≡ find other es
put_there name other v [] r = ap (λ b. cond b (Some v) None) r
put_there {V} name other v (e ∷ es) r = by (same_text name e.0) refl (put_there name other v es r)
  where
    by : (b : Bool) → same_text name e.0 ≡ b → find other (put name v es) ≡ find other es → find other (cond b ((e.0, v) ∷ es) (e ∷ put name v es)) ≡ find other (e ∷ es)
    by true t ih =
        let apart : same_text other e.0 ≡ false = ap (same_text other) (sym (same_text_is name e.0 t)) ∙ r in
        ap (λ b. cond b (Some v) (find other es)) apart ∙ sym (ap (λ b. cond b (Some e.1) (find other es)) apart)
    by false t ih = ap (λ o. cond (same_text other e.0) (Some e.1) o) ih

same_self : (w : Text) → same_text w w ≡ true
same_self [] = refl
same_self (b ∷ w) = subst (λ (c : Bool). (c && same_text w w) ≡ true) (sym (eq-eqb b b refl)) (same_self w)

other_way : (a b : Text) → same_text a b ≡ false → same_text b a ≡ false
other_way a b e = by (same_text b a) refl
  where
    by : (t : Bool) → same_text b a ≡ t → t ≡ false
    by true f = let r : a ≡ b = sym (same_text_is b a f) in let one : same_text a b ≡ true = ap (same_text a) (sym r) ∙ same_self a in cc
    by false f = refl

-- ---- the table

or_none : (o : Option ℕ) → o ≡ or_else o None
or_none None = refl
or_none (Some k) = refl

module _ (c : Text) (n : ℕ) (t : Named ℕ) (rest : Option ℕ) (s : Text) where
  there : (k : ℕ) → find (map lower s) t ≡ Some k → (b : Bool) → same_word s c ≡ b
      → or_else (find (map lower c) t) rest ≡ or_else (find (map lower c) t) (cond b (Some n) rest)
  there k h true e =
      let here : find (map lower c) t ≡ Some k = ap (λ x. find x t) (sym (same_text_is (map lower s) (map lower c) e)) ∙ h in
      ap (λ o. or_else o rest) here ∙ sym (ap (λ o. or_else o (Some n)) here)
  there k h false e = refl

  new : find (map lower s) t ≡ None → (b : Bool) → same_word s c ≡ b
      → or_else (find (map lower c) (put (map lower s) n t)) rest ≡ or_else (find (map lower c) t) (cond b (Some n) rest)
  new h true e =
      let is : map lower s ≡ map lower c = same_text_is (map lower s) (map lower c) e in
      let none : find (map lower c) t ≡ None = ap (λ x. find x t) (sym is) ∙ h in
      let here : find (map lower c) (put (map lower s) n t) ≡ Some n = ap (λ x. find x (put (map lower s) n t)) (sym is) ∙ put_here (map lower s) n t (same_self (map lower s)) in
      ap (λ o. or_else o rest) here ∙ sym (ap (λ o. or_else o (Some n)) none)
  new h false e = ap (λ o. or_else o rest) (put_there (map lower s) (map lower c) n t (other_way (map lower s) (map lower c) e))

  declared : or_else (find (map lower c) (with_cursor (Some s) n t)) rest ≡ or_else (find (map lower c) t) (cond (same_word s c) (Some n) rest)
  declared = by (find (map lower s) t) refl
    where
      by : (o : Option ℕ) → find (map lower s) t ≡ o
          → or_else (find (map lower c) (elim o [ None ↦ put (map lower s) n t | Some k ↦ t ])) rest ≡ or_else (find (map lower c) t) (cond (same_word s c) (Some n) rest)
      by None h = new h (same_word s c) refl
      by (Some k) h = there k h (same_word s c) refl

one_more : (c : Text) (n : ℕ) (t : Named ℕ) (rest : Option ℕ) (d : Option Text)
    → or_else (find (map lower c) (with_cursor d n t)) rest ≡ or_else (find (map lower c) t) (elim d [ None ↦ rest | Some s ↦ cond (same_word s c) (Some n) rest ])
one_more c n t rest None = refl
one_more c n t rest (Some s) = declared c n t rest s

pub table_has : (c : Text) (n : ℕ) (es : List EmbData) (t : Named ℕ) → find (map lower c) (cursors_from n es t) ≡ or_else (find (map lower c) t) (declare_from n c es)
table_has c n [] t = or_none (find (map lower c) t)
table_has c n (e ∷ es) t = table_has c (n + 1) es (with_cursor (declared_cursor e) n t) ∙ one_more c n t (declare_from (n + 1) c es) (declared_cursor e)

-- ---- the first DECLARE above a statement

-- a number below the other one
abbrev pub below : ℕ → Option ℕ → Option ℕ
below m None = None
below m (Some k) = cond (nat_lt k m) (Some k) None

not_below : (c : Text) (m k : ℕ) (es : List EmbData) → m ≤ k → below m (declare_from k c es) ≡ None
not_below c m k [] h = refl
not_below c m k (e ∷ es) h = by (declared_cursor e) (not_below c m (k + 1) es (omega (arith, h)))
  where
    at : below m (Some k) ≡ None
    at = let no : nat_lt k m ≡ false = grind (arith, nat_tests) in ap (λ b. cond b (Some k) None) no

    one : (b : Bool) → below m (declare_from (k + 1) c es) ≡ None → below m (cond b (Some k) (declare_from (k + 1) c es)) ≡ None
    one true r = at
    one false r = r

    by : (o : Option Text) → below m (declare_from (k + 1) c es) ≡ None → below m (elim o [ None ↦ declare_from (k + 1) c es | Some s ↦ cond (same_word s c) (Some k) (declare_from (k + 1) c es) ]) ≡ None
    by None r = r
    by (Some s) r = one (same_word s c) r

front_from : (c : Text) (k n : ℕ) (es : List EmbData) → declare_from k c (take n es) ≡ below (k + n) (declare_from k c es)
front_from c k zero [] = refl
front_from c k (suc n) [] = refl
front_from c k zero (e ∷ es) = sym (not_below c (k + zero) k (e ∷ es) (omega arith))
front_from c k (suc n) (e ∷ es) =
    let same : (k + 1) + n ≡ k + suc n = omega arith in
    by (declared_cursor e) (front_from c (k + 1) n es ∙ ap (λ m. below m (declare_from (k + 1) c es)) same)
  where
    one : (b : Bool) → declare_from (k + 1) c (take n es) ≡ below (k + suc n) (declare_from (k + 1) c es) → cond b (Some k) (declare_from (k + 1) c (take n es)) ≡ below (k + suc n) (cond b (Some k) (declare_from (k + 1) c es))
    one true rest = let yes : nat_lt k (k + suc n) ≡ true = grind (arith, nat_tests) in sym (ap (λ b. cond b (Some k) None) yes)
    one false rest = rest

    by : (o : Option Text) → declare_from (k + 1) c (take n es) ≡ below (k + suc n) (declare_from (k + 1) c es) → elim o [ None ↦ declare_from (k + 1) c (take n es) | Some s ↦ cond (same_word s c) (Some k) (declare_from (k + 1) c (take n es)) ]
        ≡ below (k + suc n) (elim o [ None ↦ declare_from (k + 1) c es | Some s ↦ cond (same_word s c) (Some k) (declare_from (k + 1) c es) ])
    by None rest = rest
    by (Some s) rest = one (same_word s c) rest

-- what the table has for the name, if it stands above the statement
pub above_is : (es : List EmbData) (n : ℕ) (c : Text) → below n (find (map lower c) (cursors_from 0 es [])) ≡ declared_above es n c
above_is es n c = ap (below n) (table_has c 0 es []) ∙ (let same : n ≡ 0 + n = omega arith in ap (λ m. below m (declare_from 0 c es)) same) ∙ sym (front_from c 0 n es)

-- one statement more is in the table
pub table_step : (n : ℕ) (es : List EmbData) (i : ℕ) (e : EmbData) (t next : Named ℕ) (whole : Named ℕ) → drop i es ≡ e ∷ drop (i + 1) es → next ≡ with_cursor (declared_cursor e) i t
    → cursors_from i (drop i es) t ≡ whole → cursors_from (i + 1) (drop (i + 1) es) next ≡ whole
table_step n es i e t next whole d is h = ap (cursors_from (i + 1) (drop (i + 1) es)) is ∙ sym (ap (λ l. cursors_from i l t) d) ∙ h

-- what stands in the table for the name, where it stands above the statement
pub opened_there : (es : List EmbData) (table : Named ℕ) (key c : Text) (n k : ℕ) → table ≡ cursors_from 0 es [] → key ≡ map lower c → Some k ≡ find key table → k < n
    → option_and_then (λ i. slice_get es i) (declared_above es n c) ≡ slice_get es k
opened_there es table key c n k is name found lt =
    let yes : nat_lt k n ≡ true = grind (arith, nat_tests) in
    let there : find (map lower c) (cursors_from 0 es []) ≡ Some k = sym ((λ i. find (name i) (is i))) ∙ sym found in
    ap (option_and_then (λ i. slice_get es i)) (sym (above_is es n c) ∙ ap (below n) there ∙ ap (λ b. cond b (Some k) None) yes)

pub opened_below : (es : List EmbData) (table : Named ℕ) (key c : Text) (n k : ℕ) → table ≡ cursors_from 0 es [] → key ≡ map lower c → Some k ≡ find key table → n ≤ k
    → None ≡ option_and_then (λ i. slice_get es i) (declared_above es n c)
opened_below es table key c n k is name found le =
    let no : nat_lt k n ≡ false = grind (arith, nat_tests) in
    let there : find (map lower c) (cursors_from 0 es []) ≡ Some k = sym ((λ i. find (name i) (is i))) ∙ sym found in
    sym (ap (option_and_then (λ i. slice_get es i)) (sym (above_is es n c) ∙ ap (below n) there ∙ ap (λ b. cond b (Some k) None) no))

pub not_opened : (es : List EmbData) (table : Named ℕ) (key c : Text) (n : ℕ) → table ≡ cursors_from 0 es [] → key ≡ map lower c → None ≡ find key table
    → None ≡ option_and_then (λ i. slice_get es i) (declared_above es n c)
not_opened es table key c n is name found =
    let there : find (map lower c) (cursors_from 0 es []) ≡ None = sym ((λ i. find (name i) (is i))) ∙ sym found in
    sym (ap (option_and_then (λ i. slice_get es i)) (sym (above_is es n c) ∙ ap (below n) there))
