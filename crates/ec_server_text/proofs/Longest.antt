-- References of a statement for the server are read by the readers of suffixes and tokens.
use Rattle.std.proofs.Common.{◌≡◌, ℕ, zero, suc, ◌≤◌, Bool, true, false, [], ◌∷◌, length, refl, ap, sym, ◌∙◌, codes, Option, Some, None, ◌⊎◌, inl, inr, arith}
use Rattle.std.specs.Prelude.{not, ◌&&◌, ◌||◌, if◌then◌else◌}
use Rattle.ec_ctypes.specs.trees.Exprs.{ExprData, identifier, member, arrow, index}
use Rattle.ec_embedded.specs.shapes.ReadShapes.{done, stuck, over_limit, and_then, counting, taking, read_one}
use Rattle.ec_language.specs.SqlTokens.{SqlToken}
use Rattle.ec_embedded.proofs.Sound.{sound}
use Rattle.ec_embedded.specs.References.{decimal_constant}
use Rattle.ec_embedded.specs.ServerText.{Tokens, Reading, is_member, is_arrow, is_index, is_place, place_at, counted_suffix, suffixes}
use Rattle.ec_embedded.specs.Terminals.{alphabet, Counts, Terminal, step_by, suffix, is, glued_word, glued_number, whole_number, suffix_sign, glued_sign}
use Rattle.ec_references.specs.Readers.{Reader, returns, ◌>>=◌, taken, if_next, next_is, turns_from, suffix_behind, member_behind, arrow_behind, index_behind, place}
use Rattle.ec_server_text.specs.Readers as r

-- ---- tests

pub both_true : (x y : Bool) → (x && y) ≡ true → (x ≡ true) × (y ≡ true)
both_true true true h = (refl, refl)
both_true true false h = absurd (cc)
both_true false y h = absurd (cc)

pub either_true : (x y : Bool) → (x || y) ≡ true → (x ≡ true) ⊎ (y ≡ true)
either_true true y h = inl refl
either_true false y h = inr h

next_test : (t : Terminal) (x : SqlToken) (w : Tokens) (b : Bool) → is t x ≡ b → next_is t (x ∷ w) ≡ b
next_test t x w true e = ap (λ c. elim c as (λ _. Bool) [ true ↦ true | false ↦ false ]) e
next_test t x w false e = ap (λ c. elim c as (λ _. Bool) [ true ↦ true | false ↦ false ]) e

pub taken_there : (t : Terminal) (n : Counts) (x : SqlToken) (w : Tokens) → is t x ≡ true → read_one alphabet t n (x ∷ w) ≡ counting alphabet t x w (step_by t.begins n)
taken_there t n x w e = ap (λ c. taking alphabet t n x w c) e

pub first_way : {A : Type 0} (t : Terminal) (p q : Reader A) (n : Counts) (x : SqlToken) (w : Tokens) → is t x ≡ true → if_next t p q n (x ∷ w) ≡ p n (x ∷ w)
first_way {A} t p q n x w e = ap (λ c. elim c as (λ _. Reading A) [ true ↦ p n (x ∷ w) | false ↦ q n (x ∷ w) ]) (next_test t x w true e)

pub other_way : {A : Type 0} (t : Terminal) (p q : Reader A) (n : Counts) (x : SqlToken) (w : Tokens) → is t x ≡ false → if_next t p q n (x ∷ w) ≡ q n (x ∷ w)
other_way {A} t p q n x w e = ap (λ c. elim c as (λ _. Reading A) [ true ↦ p n (x ∷ w) | false ↦ q n (x ∷ w) ]) (next_test t x w false e)

-- a token that is one isn't another that is apart
not_both : (t u : Terminal) (x : SqlToken) → alphabet.apart t u ≡ true → is t x ≡ true → is u x ≡ false
not_both t u x a e = go (is u x) refl
  where
    go : (b : Bool) → is u x ≡ b → is u x ≡ false
    go true f = absurd (sound t u x a e f)
    go false f = f

-- ---- suffixes

abbrev counted : Counts → Tokens → ExprData → Tokens → Reading ExprData
counted n w e r = counted_suffix n w (λ m. done e m r)

behind_sign : (t : Terminal) (n : Counts) (a : SqlToken) (w : Tokens) (f : SqlToken → Counts → Tokens → Reading ExprData) → is t a ≡ true → and_then (read_one alphabet t n (a ∷ w)) f ≡ and_then (counting alphabet t a w (step_by t.begins n)) f
behind_sign t n a w f e = ap (λ o. and_then o f) (taken_there t n a w e)

member_is : (e : ExprData) (n : Counts) (a b : SqlToken) (w : Tokens) → is_member a b ≡ true → suffix_behind e n (a ∷ b ∷ w) ≡ counted n (a ∷ b ∷ w) (member e b.bytes) w
unfolding suffix_behind
member_is e n a b w h =
    first_way (suffix_sign (codes ".")) (member_behind e) (if_next (suffix_sign (codes "->")) (arrow_behind e) (index_behind e)) n a (b ∷ w) p.0
    ∙ behind_sign (suffix_sign (codes ".")) n a (b ∷ w) _ p.0 ∙ go (step_by suffix n)
  where
    p : (is (suffix_sign (codes ".")) a ≡ true) × (is glued_word b ≡ true)
    p = both_true (is (suffix_sign (codes ".")) a) (is glued_word b) h

    go : (o : Option Counts) → and_then (counting alphabet (suffix_sign (codes ".")) a (b ∷ w) o) (λ v m r. and_then (read_one alphabet glued_word m r) (λ t m r. done (member e t.bytes) m r)) ≡ elim o as (λ _. Reading ExprData) [ None ↦ over_limit (a ∷ b ∷ w) | Some m ↦ done (member e b.bytes) m w ]
    go None = refl
    go (Some m) = behind_sign glued_word m b w (λ t m r. done (member e t.bytes) m r) p.1

arrow_is : (e : ExprData) (n : Counts) (a b : SqlToken) (w : Tokens) → is_arrow a b ≡ true → suffix_behind e n (a ∷ b ∷ w) ≡ counted n (a ∷ b ∷ w) (arrow e b.bytes) w
unfolding suffix_behind
arrow_is e n a b w h =
    other_way (suffix_sign (codes ".")) (member_behind e) (if_next (suffix_sign (codes "->")) (arrow_behind e) (index_behind e)) n a (b ∷ w) (not_both (suffix_sign (codes "->")) (suffix_sign (codes ".")) a refl p.0)
    ∙ first_way (suffix_sign (codes "->")) (arrow_behind e) (index_behind e) n a (b ∷ w) p.0
    ∙ behind_sign (suffix_sign (codes "->")) n a (b ∷ w) _ p.0 ∙ go (step_by suffix n)
  where
    p : (is (suffix_sign (codes "->")) a ≡ true) × (is glued_word b ≡ true)
    p = both_true (is (suffix_sign (codes "->")) a) (is glued_word b) h

    go : (o : Option Counts) → and_then (counting alphabet (suffix_sign (codes "->")) a (b ∷ w) o) (λ v m r. and_then (read_one alphabet glued_word m r) (λ t m r. done (arrow e t.bytes) m r)) ≡ elim o as (λ _. Reading ExprData) [ None ↦ over_limit (a ∷ b ∷ w) | Some m ↦ done (arrow e b.bytes) m w ]
    go None = refl
    go (Some m) = behind_sign glued_word m b w (λ t m r. done (arrow e t.bytes) m r) p.1

place_is : (m : Counts) (b : SqlToken) (w : Tokens) → (is glued_word b || is glued_number b) ≡ true → place m (b ∷ w) ≡ done (place_at b) m w
place_is m b w h = go (is glued_word b) refl
  where
    go : (t : Bool) → is glued_word b ≡ t → place m (b ∷ w) ≡ done (place_at b) m w
    go true e = first_way glued_word (taken glued_word >>= (λ t. returns (identifier t.bytes))) (taken glued_number >>= (λ t. returns (decimal_constant t.bytes))) m b w e ∙ behind_sign glued_word m b w (λ t m r. done (identifier t.bytes) m r) e ∙ ap (λ c. done (if c then identifier b.bytes else decimal_constant b.bytes) m w) (sym e)
    go false e = other_way glued_word (taken glued_word >>= (λ t. returns (identifier t.bytes))) (taken glued_number >>= (λ t. returns (decimal_constant t.bytes))) m b w e ∙ behind_sign glued_number m b w (λ t m r. done (decimal_constant t.bytes) m r) (ap (λ c. c || is glued_number b) (sym e) ∙ h) ∙ ap (λ c. done (if c then identifier b.bytes else decimal_constant b.bytes) m w) (sym e)

neither_true : (x y : Bool) → (x || y) ≡ false → (x ≡ false) × (y ≡ false)
neither_true true y h = absurd (cc)
neither_true false y h = (refl, h)

place_stuck : (m : Counts) (b : SqlToken) (w : Tokens) → is_place b ≡ false → place m (b ∷ w) ≡ stuck (b ∷ w)
place_stuck m b w h =
    let p = neither_true (is glued_word b) (is glued_number b) h in
    other_way glued_word (taken glued_word >>= (λ t. returns (identifier t.bytes))) (taken glued_number >>= (λ t. returns (decimal_constant t.bytes))) m b w p.0
    ∙ ap (λ c. and_then (taking alphabet glued_number m b w c) (λ t m r. done (decimal_constant t.bytes) m r)) p.1

index_parts : (a b c : SqlToken) → is_index a b c ≡ true → (is (suffix_sign (codes "[")) a ≡ true) × (is (glued_sign (codes "]")) c ≡ true)
index_parts a b c h =
    let q = both_true (is (suffix_sign (codes "[")) a && (is glued_word b || (is whole_number b && not b.gap))) (is (glued_sign (codes "]")) c) h in
    ((both_true (is (suffix_sign (codes "[")) a) (is glued_word b || (is whole_number b && not b.gap)) q.0).0, q.1)

behind_bracket : (e : ExprData) (n : Counts) (a : SqlToken) (w : Tokens) → is (suffix_sign (codes "[")) a ≡ true
    → suffix_behind e n (a ∷ w) ≡ and_then (counting alphabet (suffix_sign (codes "[")) a w (step_by suffix n)) (λ v m r. and_then (place m r) (λ i m r. and_then (read_one alphabet (glued_sign (codes "]")) m r) (λ t m r. done (index e i) m r)))
unfolding suffix_behind
behind_bracket e n a w h =
    other_way (suffix_sign (codes ".")) (member_behind e) (if_next (suffix_sign (codes "->")) (arrow_behind e) (index_behind e)) n a w (not_both (suffix_sign (codes "[")) (suffix_sign (codes ".")) a refl h)
    ∙ other_way (suffix_sign (codes "->")) (arrow_behind e) (index_behind e) n a w (not_both (suffix_sign (codes "[")) (suffix_sign (codes "->")) a refl h)
    ∙ behind_sign (suffix_sign (codes "[")) n a w _ h

index_is : (e : ExprData) (n : Counts) (a b c : SqlToken) (w : Tokens) → is_index a b c ≡ true → is_place b ≡ true → suffix_behind e n (a ∷ b ∷ c ∷ w) ≡ counted n (a ∷ b ∷ c ∷ w) (index e (place_at b)) w
index_is e n a b c w h k = behind_bracket e n a (b ∷ c ∷ w) (index_parts a b c h).0 ∙ go (step_by suffix n)
  where
    go : (o : Option Counts) → and_then (counting alphabet (suffix_sign (codes "[")) a (b ∷ c ∷ w) o) (λ v m r. and_then (place m r) (λ i m r. and_then (read_one alphabet (glued_sign (codes "]")) m r) (λ t m r. done (index e i) m r))) ≡ elim o as (λ _. Reading ExprData) [ None ↦ over_limit (a ∷ b ∷ c ∷ w) | Some m ↦ done (index e (place_at b)) m w ]
    go None = refl
    go (Some m) = ap (λ o. and_then o (λ i m r. and_then (read_one alphabet (glued_sign (codes "]")) m r) (λ t m r. done (index e i) m r))) (place_is m b (c ∷ w) k) ∙ behind_sign (glued_sign (codes "]")) m c w (λ t m r. done (index e (place_at b)) m r) (index_parts a b c h).1

-- a number that is no index
index_stuck : (e : ExprData) (n : Counts) (a b c : SqlToken) (w : Tokens) → is_index a b c ≡ true → is_place b ≡ false → suffix_behind e n (a ∷ b ∷ c ∷ w) ≡ counted_suffix n (a ∷ b ∷ c ∷ w) (λ m. stuck (b ∷ c ∷ w))
index_stuck e n a b c w h k = behind_bracket e n a (b ∷ c ∷ w) (index_parts a b c h).0 ∙ go (step_by suffix n)
  where
    go : (o : Option Counts) → and_then (counting alphabet (suffix_sign (codes "[")) a (b ∷ c ∷ w) o) (λ v m r. and_then (place m r) (λ i m r. and_then (read_one alphabet (glued_sign (codes "]")) m r) (λ t m r. done (index e i) m r))) ≡ elim o as (λ _. Reading ExprData) [ None ↦ over_limit (a ∷ b ∷ c ∷ w) | Some m ↦ stuck (b ∷ c ∷ w) ]
    go None = refl
    go (Some m) = ap (λ o. and_then o (λ i m r. and_then (read_one alphabet (glued_sign (codes "]")) m r) (λ t m r. done (index e i) m r))) (place_stuck m b (c ∷ w) k)

-- all of them

turns_end : (k : ℕ) (e : ExprData) (n : Counts) → done e n [] ≡ turns_from r.begins_suffix suffix_behind k e n []
turns_end zero e n = refl
turns_end (suc k) e n = refl

within_is : (k : ℕ) (e : ExprData) (n : Counts) (w : Tokens) → length w ≤ k → suffixes n e w ≡ turns_from r.begins_suffix suffix_behind k e n w
within_is k e n [] h = turns_end k e n
within_is zero e n (a ∷ []) h = refl
within_is (suc k) e n (a ∷ []) h = refl
within_is zero e n (a ∷ b ∷ []) h = absurd (omega (arith, h))
within_is (suc k) e n (a ∷ b ∷ []) h = go (is_member a b) refl (is_arrow a b) refl
  where
    step : (o : Reading ExprData) → suffix_behind e n (a ∷ b ∷ []) ≡ o → and_then o (λ f m q. turns_from r.begins_suffix suffix_behind k f m q) ≡ and_then (suffix_behind e n (a ∷ b ∷ [])) (λ f m q. turns_from r.begins_suffix suffix_behind k f m q)
    step o p = ap (λ x. and_then x (λ f m q. turns_from r.begins_suffix suffix_behind k f m q)) (sym p)

    ends : (x : ExprData) (o : Option Counts) → elim o as (λ _. Reading ExprData) [ None ↦ over_limit (a ∷ b ∷ []) | Some m ↦ done x m [] ] ≡ and_then (elim o as (λ _. Reading ExprData) [ None ↦ over_limit (a ∷ b ∷ []) | Some m ↦ done x m [] ]) (λ f m q. turns_from r.begins_suffix suffix_behind k f m q)
    ends x None = refl
    ends x (Some m) = turns_end k x m

    rest : (t : Bool) (s : Bool) → is_arrow a b ≡ s → elim s as (λ _. Reading ExprData) [ true ↦ counted n (a ∷ b ∷ []) (arrow e b.bytes) [] | false ↦ done e n (a ∷ b ∷ []) ] ≡ elim s as (λ _. Reading ExprData) [ true ↦ and_then (suffix_behind e n (a ∷ b ∷ [])) (λ f m q. turns_from r.begins_suffix suffix_behind k f m q) | false ↦ done e n (a ∷ b ∷ []) ]
    rest t true p = ends (arrow e b.bytes) (step_by suffix n) ∙ step _ (arrow_is e n a b [] p)
    rest t false p = refl

    go : (t : Bool) → is_member a b ≡ t → (s : Bool) → is_arrow a b ≡ s
        → suffixes n e (a ∷ b ∷ []) ≡ turns_from r.begins_suffix suffix_behind (suc k) e n (a ∷ b ∷ [])
    go true p s q =
        ap (λ x. elim x as (λ _. Reading ExprData) [ true ↦ counted n (a ∷ b ∷ []) (member e b.bytes) [] | false ↦ elim (is_arrow a b) as (λ _. Reading ExprData) [ true ↦ counted n (a ∷ b ∷ []) (arrow e b.bytes) [] | false ↦ done e n (a ∷ b ∷ []) ] ]) p
        ∙ ends (member e b.bytes) (step_by suffix n) ∙ step _ (member_is e n a b [] p)
        ∙ ap (λ x. elim (elim x as (λ _. Bool) [ true ↦ true | false ↦ is_arrow a b ]) as (λ _. Reading ExprData) [ true ↦ and_then (suffix_behind e n (a ∷ b ∷ [])) (λ f m q. turns_from r.begins_suffix suffix_behind k f m q) | false ↦ done e n (a ∷ b ∷ []) ]) (sym p)
    go false p s q =
        ap (λ x. elim x as (λ _. Reading ExprData) [ true ↦ counted n (a ∷ b ∷ []) (member e b.bytes) [] | false ↦ elim (is_arrow a b) as (λ _. Reading ExprData) [ true ↦ counted n (a ∷ b ∷ []) (arrow e b.bytes) [] | false ↦ done e n (a ∷ b ∷ []) ] ]) p
        ∙ rest true (is_arrow a b) refl
        ∙ ap (λ x. elim (elim x as (λ _. Bool) [ true ↦ true | false ↦ is_arrow a b ]) as (λ _. Reading ExprData) [ true ↦ and_then (suffix_behind e n (a ∷ b ∷ [])) (λ f m q. turns_from r.begins_suffix suffix_behind k f m q) | false ↦ done e n (a ∷ b ∷ []) ]) (sym p)
within_is zero e n (a ∷ b ∷ c ∷ w) h = absurd (omega (arith, h))
within_is (suc k) e n (a ∷ b ∷ c ∷ w) h = go (λ f m. within_is k f m (c ∷ w) (omega (arith, h))) (λ f m. within_is k f m w (omega (arith, h)))
  where
    on : ExprData → Counts → Tokens → Reading ExprData
    on f m q = turns_from r.begins_suffix suffix_behind k f m q

    turn : Reading ExprData
    turn = and_then (suffix_behind e n (a ∷ b ∷ c ∷ w)) on

    step : (o : Reading ExprData) → suffix_behind e n (a ∷ b ∷ c ∷ w) ≡ o → and_then o on ≡ turn
    step o p = ap (λ x. and_then x on) (sym p)

    more : (x : ExprData) (q : Tokens) → ((m : Counts) → suffixes m x q ≡ on x m q) → (o : Option Counts)
        → elim o as (λ _. Reading ExprData) [ None ↦ over_limit (a ∷ b ∷ c ∷ w) | Some m ↦ suffixes m x q ] ≡ and_then (elim o as (λ _. Reading ExprData) [ None ↦ over_limit (a ∷ b ∷ c ∷ w) | Some m ↦ done x m q ]) on
    more x q f None = refl
    more x q f (Some m) = f m

    stays : (o : Option Counts) → elim o as (λ _. Reading ExprData) [ None ↦ over_limit (a ∷ b ∷ c ∷ w) | Some m ↦ stuck (b ∷ c ∷ w) ] ≡ and_then (elim o as (λ _. Reading ExprData) [ None ↦ over_limit (a ∷ b ∷ c ∷ w) | Some m ↦ stuck (b ∷ c ∷ w) ]) on
    stays None = refl
    stays (Some m) = refl

    by_place : ((m : Counts) → suffixes m (index e (place_at b)) w ≡ on (index e (place_at b)) m w) → is_index a b c ≡ true → (s : Bool) → is_place b ≡ s
        → counted_suffix n (a ∷ b ∷ c ∷ w) (λ m. elim s as (λ _. Reading ExprData) [ true ↦ suffixes m (index e (place_at b)) w | false ↦ stuck (b ∷ c ∷ w) ]) ≡ turn
    by_place f p true q = more (index e (place_at b)) w f (step_by suffix n) ∙ step _ (index_is e n a b c w p q)
    by_place f p false q = stays (step_by suffix n) ∙ step _ (index_stuck e n a b c w p q)

    by_index : ((m : Counts) → suffixes m (index e (place_at b)) w ≡ on (index e (place_at b)) m w) → (s : Bool) → is_index a b c ≡ s
        → elim s as (λ _. Reading ExprData) [ true ↦ counted_suffix n (a ∷ b ∷ c ∷ w) (λ m. elim (is_place b) as (λ _. Reading ExprData) [ true ↦ suffixes m (index e (place_at b)) w | false ↦ stuck (b ∷ c ∷ w) ]) | false ↦ done e n (a ∷ b ∷ c ∷ w) ] ≡ elim s as (λ _. Reading ExprData) [ true ↦ turn | false ↦ done e n (a ∷ b ∷ c ∷ w) ]
    by_index f true p = by_place f p (is_place b) refl
    by_index f false p = refl

    by_arrow : ((x : ExprData) (m : Counts) → suffixes m x (c ∷ w) ≡ on x m (c ∷ w)) → ((x : ExprData) (m : Counts) → suffixes m x w ≡ on x m w) → (s : Bool) → is_arrow a b ≡ s
        → elim s as (λ _. Reading ExprData) [ true ↦ counted_suffix n (a ∷ b ∷ c ∷ w) (λ m. suffixes m (arrow e b.bytes) (c ∷ w)) | false ↦ elim (is_index a b c) as (λ _. Reading ExprData) [ true ↦ counted_suffix n (a ∷ b ∷ c ∷ w) (λ m. elim (is_place b) as (λ _. Reading ExprData) [ true ↦ suffixes m (index e (place_at b)) w | false ↦ stuck (b ∷ c ∷ w) ]) | false ↦ done e n (a ∷ b ∷ c ∷ w) ] ]
        ≡ elim (elim s as (λ _. Bool) [ true ↦ true | false ↦ is_index a b c ]) as (λ _. Reading ExprData) [ true ↦ turn | false ↦ done e n (a ∷ b ∷ c ∷ w) ]
    by_arrow f g true p = more (arrow e b.bytes) (c ∷ w) (f (arrow e b.bytes)) (step_by suffix n) ∙ step _ (arrow_is e n a b (c ∷ w) p)
    by_arrow f g false p = by_index (g (index e (place_at b))) (is_index a b c) refl

    by_member : ((x : ExprData) (m : Counts) → suffixes m x (c ∷ w) ≡ on x m (c ∷ w)) → ((x : ExprData) (m : Counts) → suffixes m x w ≡ on x m w) → (s : Bool) → is_member a b ≡ s
        → elim s as (λ _. Reading ExprData) [ true ↦ counted_suffix n (a ∷ b ∷ c ∷ w) (λ m. suffixes m (member e b.bytes) (c ∷ w)) | false ↦ elim (is_arrow a b) as (λ _. Reading ExprData) [ true ↦ counted_suffix n (a ∷ b ∷ c ∷ w) (λ m. suffixes m (arrow e b.bytes) (c ∷ w)) | false ↦ elim (is_index a b c) as (λ _. Reading ExprData) [ true ↦ counted_suffix n (a ∷ b ∷ c ∷ w) (λ m. elim (is_place b) as (λ _. Reading ExprData) [ true ↦ suffixes m (index e (place_at b)) w | false ↦ stuck (b ∷ c ∷ w) ]) | false ↦ done e n (a ∷ b ∷ c ∷ w) ] ] ]
        ≡ elim (elim s as (λ _. Bool) [ true ↦ true | false ↦ elim (is_arrow a b) as (λ _. Bool) [ true ↦ true | false ↦ is_index a b c ] ]) as (λ _. Reading ExprData) [ true ↦ turn | false ↦ done e n (a ∷ b ∷ c ∷ w) ]
    by_member f g true p = more (member e b.bytes) (c ∷ w) (f (member e b.bytes)) (step_by suffix n) ∙ step _ (member_is e n a b (c ∷ w) p)
    by_member f g false p = by_arrow f g (is_arrow a b) refl

    go : ((x : ExprData) (m : Counts) → suffixes m x (c ∷ w) ≡ on x m (c ∷ w)) → ((x : ExprData) (m : Counts) → suffixes m x w ≡ on x m w) → suffixes n e (a ∷ b ∷ c ∷ w) ≡ turns_from r.begins_suffix suffix_behind (suc k) e n (a ∷ b ∷ c ∷ w)
    go f g = by_member f g (is_member a b) refl

pub long_is : (e : ExprData) (n : Counts) (w : Tokens) → suffixes n e w ≡ r.long_suffixes e n w
unfolding r.long_suffixes
long_is e n w = within_is (length w) e n w (omega (arith))
