-- Elements other than symbols: tokens, what is one level deeper, whole expressions, and what has stars of its own.
use Rattle.std.proofs.Common.{◌≡◌, ℕ, zero, suc, ◌≤◌, Bool, true, false, not, [], ◌∷◌, ◌++◌, length, refl, ◌⊎◌, inl, inr, ap, sym, ◌∙◌, subst, arith, length-append, Ok, Err}
use Rattle.std.specs.Prelude.{if◌then◌else◌}
use Rattle.std.proofs.lemmas.Bool.{false≢true}
use Rattle.ec_language.specs.Productions.{Placed, Terminal, is, Counted, Sym, Value, tok, count, sym as ofs, nest, whole, own}
use Rattle.ec_language.specs.Grammar.{PlacedTokens, Limits, Counts, behind_counted, is_within, in_expression, behind_expression, in_declarator, behind_declarator}
use Rattle.ec_language.proofs.Limits.{Room, room_counted, room_expression, room_declarator}
use Rattle.ec_grammar.specs.declared.kind.Kind.{Kind}
use Rattle.ec_grammar.specs.declared.kind.Kind.TheVariants as k
use Rattle.ec_grammar.specs.declared.failure.Failure.TheVariants.{OutOfMemory, Dead, TooDeep}
use Rattle.ec_grammar.specs.Input.{State, state, Outcome, Parser, kind_at, expect, expect_counted, no_level}
use Rattle.ec_grammar.specs.Input as read
use Rattle.ec_grammar.specs.Kinds.{same_kind, terminal}
use Rattle.ec_grammar.proofs.exact_lemmas.Fits.{kind_is, is_kind, kind_terminal, terminal_own}
use Rattle.ec_grammar.proofs.exact_lemmas.Begins.{deep, null, first, ahead}
use Rattle.ec_grammar.proofs.exact_lemmas.Sound.{kind, Gives, Opens, null_sound, first_sound, whole_element, ahead_sound}
use Rattle.ec_grammar.proofs.exact_lemmas.Follow.{ext}
use Rattle.ec_grammar.proofs.exact_lemmas.Exact.{Speaks, Goes, Parses, Stops, ElementOut, Reads}
use Rattle.ec_grammar.proofs.exact_lemmas.Choose.{kinds, each, at_each}

-- a front of nothing leaves all
none_read : (w part rest u x : PlacedTokens) (size : ℕ) → w ≡ part ++ rest → length rest ≡ size → w ≡ u ++ x → u ≡ [] → size ≤ length x
none_read w part rest u x size e l f g = let h : w ≡ x = f ∙ ap (λ q. q ++ x) g in omega (arith, ap length e, length-append part rest, l, ap length h)

-- ---- one level deeper

speaks : (b : Bool) (most lim : Limits) (fewer deeper f : ℕ) → Speaks b most (suc fewer) lim deeper → deeper ≡ suc f → Speaks b most fewer lim f
speaks true most lim fewer deeper f h e = tt
speaks false most lim fewer deeper f h e = (h.0, (let a = h.1 in omega (arith, a, e)))

nest_goes : (b : Bool) (c : Counts) (s : Sym) (part rest : PlacedTokens) → Goes b c (ofs s) part rest → Goes b c (nest s) part rest
nest_goes true c s part rest h = tt
nest_goes false c s part rest (t, q, e, h) = (t, q, e, (suc h.0, front))
  where
    front : (to : Limits) (levels : ℕ) → suc h.0 ≤ levels → Room to (length (part ++ t ∷ [])) c → (n : ℕ) × Opens to n levels c (nest s) (part ++ t ∷ [])
    front to zero le room = absurd (omega arith)
    front to (suc levels) le room = let o = h.1 to levels (omega arith) room in (o.0, inr (levels, refl, o.1))

module _ (most : Limits) (fewer : ℕ) (c : Counts) (s : Sym) (w : PlacedTokens) where
  nest_parses : {v : Value s} {left : State} → Parses most fewer c (ofs s) w v left → Parses most (suc fewer) c (nest s) w v left
  nest_parses {v} {left} a = record {
    part = a.part;
    split = a.split;
    derives = (a.derives.0, (fewer, refl, a.derives.1));
    only = λ lim n deeper p x z e h d. a.only lim n d.0 p x z e h d.2;
    bound = bound;
  }
    where
      bound : (lim : Limits) (n deeper : ℕ) (u x : PlacedTokens) → w ≡ u ++ x → Opens lim n deeper c (nest s) u → length left.tokens ≤ length x
      bound lim n deeper u x h (inl e) = none_read w a.part left.tokens u x (length left.tokens) a.split refl h e
      bound lim n deeper u x h (inr o) = a.bound lim n o.0 u x h o.2

  nest_stops : {b : Bool} {size : ℕ} → Stops b most fewer c (ofs s) w size → Stops b most (suc fewer) c (nest s) w size
  nest_stops {b} {size} a = record {
    part = a.part;
    rest = a.rest;
    split = a.split;
    left = a.left;
    front = (a.front.0, inr (fewer, refl, a.front.1));
    goes = nest_goes b c s a.part a.rest a.goes;
    only = λ lim n deeper y p x z e h d. a.only lim n d.0 (speaks b most lim fewer deeper d.0 y d.1) p x z e h d.2;
    bound = bound;
  }
    where
      bound : (lim : Limits) (n deeper : ℕ) → Speaks b most (suc fewer) lim deeper → (u x : PlacedTokens) → w ≡ u ++ x → Opens lim n deeper c (nest s) u → size ≤ length x
      bound lim n deeper y u x h (inl e) = none_read w a.part a.rest u x size a.split a.left h e
      bound lim n deeper y u x h (inr o) = a.bound lim n o.0 (speaks b most lim fewer deeper o.0 y o.1) u x h o.2

  nest_out : {B : Type 0} (g : Value s → B) (o : Outcome B) → ElementOut most fewer c (ofs s) g w o → ElementOut most (suc fewer) c (nest s) g w o
  nest_out g (Ok p) x = (x.0, x.1, nest_parses x.2)
  nest_out g (Err (Dead n)) x = nest_stops x
  nest_out g (Err (TooDeep n)) x = nest_stops x
  nest_out g (Err OutOfMemory) x = absurd x

pub nest_reads : {most : Limits} {fewer : ℕ} {c : Counts} {s : Sym} {w : PlacedTokens} {B : Type 0} {g : Value s → B} {o : Outcome B} → Reads most fewer c (ofs s) B g w o → Reads most (suc fewer) c (nest s) B g w o
nest_reads {most} {fewer} {c} {s} {w} {B} {g} {o} x = record { out = nest_out most fewer c s w g o x.out }

-- ---- whole expressions, and what has stars and lengths of its own

whole_goes : (b : Bool) (c : Counts) (s : Sym) (part rest : PlacedTokens) → Goes b (in_expression c) (ofs s) part rest → Goes b c (whole s) part rest
whole_goes true c s part rest h = tt
whole_goes false c s part rest h = (h.0, h.1, h.2, (h.3.0, λ to levels le room. h.3.1 to levels le (room_expression to (length (part ++ h.0 ∷ [])) c room)))

own_goes : (b : Bool) (c : Counts) (s : Sym) (part rest : PlacedTokens) → Goes b (in_declarator c) (ofs s) part rest → Goes b c (own s) part rest
own_goes true c s part rest h = tt
own_goes false c s part rest h = (h.0, h.1, h.2, (h.3.0, λ to levels le room. h.3.1 to levels le (room_declarator to (length (part ++ h.0 ∷ [])) c room)))

module _ (most : Limits) (levels : ℕ) (c : Counts) (s : Sym) (w : PlacedTokens) where
  whole_parses : {v : Value s} {left : State} → Parses most levels (in_expression c) (ofs s) w v left → Parses most levels c (whole s) w v (state left.tokens (behind_expression c left.counts))
  whole_parses {v} {left} a = record {
    part = a.part;
    split = a.split;
    derives = (a.derives.0, (left.counts, refl, a.derives.1));
    only = λ lim n deeper p x z e h d. only p x z e d.0 d.1 (a.only lim n deeper p x z d.0 h d.2);
    bound = a.bound;
  }
    where
      only : (p x : PlacedTokens) (z : Value s) (e i : Counts) → e ≡ behind_expression c i → ((x ≡ left.tokens) × (z ≡ v) × (i ≡ left.counts)) ⊎ (ext (ofs s) z (kind_at x) ≡ true)
          → ((x ≡ left.tokens) × (z ≡ v) × (e ≡ behind_expression c left.counts)) ⊎ (ext (ofs s) z (kind_at x) ≡ true)
      only p x z e i f (inl h) = inl (h.0, h.1, f ∙ ap (behind_expression c) h.2)
      only p x z e i f (inr h) = inr h

  whole_stops : {b : Bool} {size : ℕ} → Stops b most levels (in_expression c) (ofs s) w size → Stops b most levels c (whole s) w size
  whole_stops {b} {size} a = record {
    part = a.part;
    rest = a.rest;
    split = a.split;
    left = a.left;
    front = a.front;
    goes = whole_goes b c s a.part a.rest a.goes;
    only = λ lim n deeper y p x z e h d. a.only lim n deeper y p x z d.0 h d.2;
    bound = a.bound;
  }

  whole_out : {B : Type 0} (g : Value s → B) (o : Outcome B) → ElementOut most levels (in_expression c) (ofs s) g w o → ElementOut most levels c (whole s) g w (read.whole (λ _. o) (state w c))
  unfolding read.whole
  whole_out g (Ok p) x = (x.0, x.1, whole_parses x.2)
  whole_out g (Err (Dead n)) x = whole_stops x
  whole_out g (Err (TooDeep n)) x = whole_stops x
  whole_out g (Err OutOfMemory) x = absurd x

  own_parses : {v : Value s} {left : State} → Parses most levels (in_declarator c) (ofs s) w v left → Parses most levels c (own s) w v (state left.tokens (behind_declarator c left.counts))
  own_parses {v} {left} a = record {
    part = a.part;
    split = a.split;
    derives = (a.derives.0, (left.counts, refl, a.derives.1));
    only = λ lim n deeper p x z e h d. only p x z e d.0 d.1 (a.only lim n deeper p x z d.0 h d.2);
    bound = a.bound;
  }
    where
      only : (p x : PlacedTokens) (z : Value s) (e i : Counts) → e ≡ behind_declarator c i → ((x ≡ left.tokens) × (z ≡ v) × (i ≡ left.counts)) ⊎ (ext (ofs s) z (kind_at x) ≡ true)
          → ((x ≡ left.tokens) × (z ≡ v) × (e ≡ behind_declarator c left.counts)) ⊎ (ext (ofs s) z (kind_at x) ≡ true)
      only p x z e i f (inl h) = inl (h.0, h.1, f ∙ ap (behind_declarator c) h.2)
      only p x z e i f (inr h) = inr h

  own_stops : {b : Bool} {size : ℕ} → Stops b most levels (in_declarator c) (ofs s) w size → Stops b most levels c (own s) w size
  own_stops {b} {size} a = record {
    part = a.part;
    rest = a.rest;
    split = a.split;
    left = a.left;
    front = a.front;
    goes = own_goes b c s a.part a.rest a.goes;
    only = λ lim n deeper y p x z e h d. a.only lim n deeper y p x z d.0 h d.2;
    bound = a.bound;
  }

  own_out : {B : Type 0} (g : Value s → B) (o : Outcome B) → ElementOut most levels (in_declarator c) (ofs s) g w o → ElementOut most levels c (own s) g w (read.own (λ _. o) (state w c))
  unfolding read.own
  own_out g (Ok p) x = (x.0, x.1, own_parses x.2)
  own_out g (Err (Dead n)) x = own_stops x
  own_out g (Err (TooDeep n)) x = own_stops x
  own_out g (Err OutOfMemory) x = absurd x

pub whole_reads : {most : Limits} {levels : ℕ} {s : Sym} {B : Type 0} {g : Value s → B} (p : Parser B) (st : State) → Reads most levels (in_expression st.counts) (ofs s) B g st.tokens (p (state st.tokens (in_expression st.counts))) → Reads most levels st.counts (whole s) B g st.tokens (read.whole p st)
unfolding read.whole
whole_reads {most} {levels} {s} {B} {g} p st x = record { out = whole_out most levels st.counts s st.tokens g (p (state st.tokens (in_expression st.counts))) x.out }

pub own_reads : {most : Limits} {levels : ℕ} {s : Sym} {B : Type 0} {g : Value s → B} (p : Parser B) (st : State) → Reads most levels (in_declarator st.counts) (ofs s) B g st.tokens (p (state st.tokens (in_declarator st.counts))) → Reads most levels st.counts (own s) B g st.tokens (read.own p st)
unfolding read.own
own_reads {most} {levels} {s} {B} {g} p st x = record { out = own_out most levels st.counts s st.tokens g (p (state st.tokens (in_declarator st.counts))) x.out }

-- ---- tokens

module _ (most : Limits) (levels : ℕ) (c : Counts) where
  tok_parses : (x : Terminal) (t : Placed) (w : PlacedTokens) → is x t.token.tok ≡ true → Parses most levels c (tok x) (t ∷ w) t (state w c)
  tok_parses x t w e = record {
    part = t ∷ [];
    split = refl;
    derives = (0, (refl, e, refl));
    only = λ lim n deeper p y z i f d. let h : t ∷ w ≡ z ∷ y = f ∙ ap (λ q. q ++ y) d.0 in inl ((let g : y ≡ w = cc in g), (let g : z ≡ t = cc in g), d.2);
    bound = bound;
  }
    where
      bound : (lim : Limits) (n deeper : ℕ) (u y : PlacedTokens) → t ∷ w ≡ u ++ y → Opens lim n deeper c (tok x) u → length w ≤ length y
      bound lim n deeper u y f (inl g) = let h : t ∷ w ≡ y = f ∙ ap (λ q. q ++ y) g in omega (arith, ap length h)
      bound lim n deeper u y f (inr g) = let h : t ∷ w ≡ g.0 ∷ y = f ∙ ap (λ q. q ++ y) g.1 in omega (arith, ap length h)

  count_parses : (n : Counted) (x : Terminal) (t : Placed) (w : PlacedTokens) → is x t.token.tok ≡ true → is_within most n (behind_counted n c) ≡ true → Parses most levels c (count n x) (t ∷ w) t (state w (behind_counted n c))
  count_parses n x t w e i = record {
    part = t ∷ [];
    split = refl;
    derives = (0, (refl, e, refl, i));
    only = λ lim m deeper p y z v f d. let h : t ∷ w ≡ z ∷ y = f ∙ ap (λ q. q ++ y) d.0 in inl ((let g : y ≡ w = cc in g), (let g : z ≡ t = cc in g), d.2);
    bound = bound;
  }
    where
      bound : (lim : Limits) (m deeper : ℕ) (u y : PlacedTokens) → t ∷ w ≡ u ++ y → Opens lim m deeper c (count n x) u → length w ≤ length y
      bound lim m deeper u y f (inl g) = let h : t ∷ w ≡ y = f ∙ ap (λ q. q ++ y) g in omega (arith, ap length h)
      bound lim m deeper u y f (inr g) = let h : t ∷ w ≡ g.0 ∷ y = f ∙ ap (λ q. q ++ y) g.1 in omega (arith, ap length h)

  tok_dies : (x : Terminal) (w : PlacedTokens) → ((t : Placed) (q : PlacedTokens) → w ≡ t ∷ q → is x t.token.tok ≡ true → ⊥) → Stops true most levels c (tok x) w (length w)
  tok_dies x w never = record {
    part = [];
    rest = w;
    split = refl;
    left = refl;
    front = (0, inl refl);
    goes = tt;
    only = λ lim n deeper y p q z e f d. absurd (never z q (f ∙ ap (λ r. r ++ q) d.0) d.1);
    bound = bound;
  }
    where
      bound : (lim : Limits) (n deeper : ℕ) → Unit {0} → (u y : PlacedTokens) → w ≡ u ++ y → Opens lim n deeper c (tok x) u → length w ≤ length y
      bound lim n deeper _ u y f (inl g) = none_read w [] w u y (length w) refl refl f g
      bound lim n deeper _ u y f (inr g) = absurd (never g.0 y (f ∙ ap (λ q. q ++ y) g.1) g.2)

  count_dies : (n : Counted) (x : Terminal) (w : PlacedTokens) → ((t : Placed) (q : PlacedTokens) → w ≡ t ∷ q → is x t.token.tok ≡ true → ⊥) → Stops true most levels c (count n x) w (length w)
  count_dies n x w never = record {
    part = [];
    rest = w;
    split = refl;
    left = refl;
    front = (0, inl refl);
    goes = tt;
    only = λ lim m deeper y p q z e f d. absurd (never z q (f ∙ ap (λ r. r ++ q) d.0) d.1);
    bound = bound;
  }
    where
      bound : (lim : Limits) (m deeper : ℕ) → Unit {0} → (u y : PlacedTokens) → w ≡ u ++ y → Opens lim m deeper c (count n x) u → length w ≤ length y
      bound lim m deeper _ u y f (inl g) = none_read w [] w u y (length w) refl refl f g
      bound lim m deeper _ u y f (inr g) = absurd (never g.0 y (f ∙ ap (λ q. q ++ y) g.1) g.2)

  count_passes : (n : Counted) (x : Terminal) (t : Placed) (w : PlacedTokens) → is x t.token.tok ≡ true → is_within most n (behind_counted n c) ≡ false → Stops false most levels c (count n x) (t ∷ w) (length (t ∷ w))
  count_passes n x t w e i = record {
    part = [];
    rest = t ∷ w;
    split = refl;
    left = refl;
    front = (0, inl refl);
    goes = (t, w, refl, (0, λ to deeper le room. (0, inr (t, refl, e, (room_counted to 0 n c room).1))));
    only = λ lim m deeper y p q z v f d. absurd (out lim (y.0) (subst (λ b. is_within lim n b ≡ true) d.2 d.3));
    bound = bound;
  }
    where
      out : (lim : Limits) → lim ≡ most → is_within lim n (behind_counted n c) ≡ true → ⊥
      out lim y h = false≢true (sym i ∙ subst (λ l. is_within l n (behind_counted n c) ≡ true) y h)

      bound : (lim : Limits) (m deeper : ℕ) → (lim ≡ most) × (deeper ≡ levels) → (u y : PlacedTokens) → t ∷ w ≡ u ++ y → Opens lim m deeper c (count n x) u → length (t ∷ w) ≤ length y
      bound lim m deeper z u y f (inl g) = none_read (t ∷ w) [] (t ∷ w) u y (length (t ∷ w)) refl refl f g
      bound lim m deeper z u y f (inr g) = absurd (out lim z.0 g.3)

  never_other : (j : Kind) (t : Placed) (w : PlacedTokens) → same_kind (kind t) j ≡ false → (z : Placed) (q : PlacedTokens) → t ∷ w ≡ z ∷ q → is (terminal j) z.token.tok ≡ true → ⊥
  never_other j t w e z q f h = let g : z ≡ t = cc in false≢true (sym e ∙ is_kind (kind t) j (ap kind (sym g) ∙ terminal_own j z.token.tok h))

  expect_out : (j : Kind) (w : PlacedTokens) → ElementOut most levels c (tok (terminal j)) (λ t. t) w (expect j (state w c))
  unfolding expect
  expect_out j [] = tok_dies (terminal j) [] (λ t q e _. absurd (cc))
  expect_out j (t ∷ w) = go (same_kind (kind t) j) refl
    where
      go : (b : Bool) → same_kind (kind t) j ≡ b → ElementOut most levels c (tok (terminal j)) (λ t. t) (t ∷ w) (if b then Ok (t, state w c) else Err (Dead (length (t ∷ w))))
      go true e = (t, refl, tok_parses (terminal j) t w (kind_terminal t.token.tok j (kind_is (kind t) j e)))
      go false e = tok_dies (terminal j) (t ∷ w) (never_other j t w e)

  counted_out : (n : Counted) (j : Kind) (w : PlacedTokens) → ElementOut most levels c (count n (terminal j)) (λ t. t) w (expect_counted most n j (state w c))
  unfolding expect expect_counted
  counted_out n j [] = count_dies n (terminal j) [] (λ t q e _. absurd (cc))
  counted_out n j (t ∷ w) = go (same_kind (kind t) j) refl (is_within most n (behind_counted n c)) refl
    where
      go : (b : Bool) → same_kind (kind t) j ≡ b → (i : Bool) → is_within most n (behind_counted n c) ≡ i → ElementOut most levels c (count n (terminal j)) (λ t. t) (t ∷ w) (expect_counted most n j (state (t ∷ w) c))
      go true e true f = rw e (rw f (t, refl, count_parses n (terminal j) t w (kind_terminal t.token.tok j (kind_is (kind t) j e)) f))
      go true e false f = rw e (rw f (count_passes n (terminal j) t w (kind_terminal t.token.tok j (kind_is (kind t) j e)) f))
      go false e i f = rw e (count_dies n (terminal j) (t ∷ w) (never_other j t w e))

pub expect_reads : {most : Limits} {levels : ℕ} (j : Kind) (st : State) → Reads most levels st.counts (tok (terminal j)) Placed (λ t. t) st.tokens (expect j st)
expect_reads {most} {levels} j st = record { out = expect_out most levels st.counts j st.tokens }

pub counted_reads : {most : Limits} {levels : ℕ} (n : Counted) (j : Kind) (st : State) → Reads most levels st.counts (count n (terminal j)) Placed (λ t. t) st.tokens (expect_counted most n j st)
counted_reads {most} {levels} n j st = record { out = counted_out most levels st.counts n j st.tokens }

-- ---- no level is left

-- the kinds that begin the symbol are those of the test, and each of them is a front where the limits are large enough
abbrev pub begins_test : Sym → (Kind → Bool) → Kind → Bool
begins_test s begins j = elim (begins j) [ true ↦ ahead deep s j | false ↦ not (first deep s j) ]

module _ (most : Limits) (c : Counts) (s : Sym) (begins : Kind → Bool) (test : each (begins_test s begins) kinds ≡ true) (some : null (nest s) ≡ false) (end : begins k.End ≡ false) where
  no_list : (lim : Limits) (n deeper : ℕ) (p x : PlacedTokens) (z : Value s) (e : Counts) → begins (kind_at (p ++ x)) ≡ false → Gives lim n deeper c (nest s) p z e → ⊥
  no_list lim n deeper [] x z e f d = false≢true (sym some ∙ null_sound lim n deeper c (nest s) z e d)
  no_list lim n deeper (t ∷ p) x z e f d = no_first lim n deeper t p f (whole_element lim n deeper c (nest s) (t ∷ p) z e d)
    where
      no_first : (lim : Limits) (n deeper : ℕ) (t : Placed) (p : PlacedTokens) → begins (kind t) ≡ false → Opens lim n deeper c (nest s) (t ∷ p) → ⊥
      no_first lim n deeper t p f o = go (begins (kind t)) f (first deep s (kind t)) (first_sound lim deep n deeper c (nest s) t p o) (at_each (begins_test s begins) test (kind t))
        where
          go : (b : Bool) → b ≡ false → (i : Bool) → i ≡ true → elim b [ true ↦ ahead deep s (kind t) | false ↦ not i ] ≡ true → ⊥
          go true g i h y = false≢true (sym g)
          go false g true h y = false≢true y
          go false g false h y = false≢true h

  no_front : (lim : Limits) (n deeper : ℕ) (u x : PlacedTokens) → begins (kind_at (u ++ x)) ≡ false → Opens lim n deeper c (nest s) u → u ≡ []
  no_front lim n deeper [] x f o = refl
  no_front lim n deeper (t ∷ p) x f o = absurd (go (begins (kind t)) f (first deep s (kind t)) (first_sound lim deep n deeper c (nest s) t p o) (at_each (begins_test s begins) test (kind t)))
    where
      go : (b : Bool) → b ≡ false → (i : Bool) → i ≡ true → elim b [ true ↦ ahead deep s (kind t) | false ↦ not i ] ≡ true → ⊥
      go true g i h y = false≢true (sym g)
      go false g true h y = false≢true y
      go false g false h y = false≢true h

  level_dies : (w : PlacedTokens) → begins (kind_at w) ≡ false → Stops true most zero c (nest s) w (length w)
  level_dies w f = record {
    part = [];
    rest = w;
    split = refl;
    left = refl;
    front = (0, inl refl);
    goes = tt;
    only = λ lim n deeper y p x z e h d. absurd (no_list lim n deeper p x z e (subst (λ q. begins (kind_at q) ≡ false) h f) d);
    bound = λ lim n deeper y u x h o. none_read w [] w u x (length w) refl refl h (no_front lim n deeper u x (subst (λ q. begins (kind_at q) ≡ false) h f) o);
  }

  level_passes : (t : Placed) (w : PlacedTokens) → begins (kind t) ≡ true → Stops false most zero c (nest s) (t ∷ w) (length (t ∷ w))
  level_passes t w f = record {
    part = [];
    rest = t ∷ w;
    split = refl;
    left = refl;
    front = (0, inl refl);
    goes = (t, w, refl, (suc deep, front));
    only = λ lim n deeper y p x z e h d. absurd (none_left deeper d.0 y.1 d.1);
    bound = bound;
  }
    where
      none_left : (deeper fewer : ℕ) → deeper ≡ zero → deeper ≡ suc fewer → ⊥
      none_left deeper fewer e g = omega (arith, e, g)

      bound : (lim : Limits) (n deeper : ℕ) → (lim ≡ most) × (deeper ≡ zero) → (u x : PlacedTokens) → t ∷ w ≡ u ++ x → Opens lim n deeper c (nest s) u → length (t ∷ w) ≤ length x
      bound lim n deeper y u x h (inl g) = none_read (t ∷ w) [] (t ∷ w) u x (length (t ∷ w)) refl refl h g
      bound lim n deeper y u x h (inr g) = absurd (none_left deeper g.0 y.1 g.1)

      leads_it : (b : Bool) → begins (kind t) ≡ b → b ≡ true → elim b [ true ↦ ahead deep s (kind t) | false ↦ not (first deep s (kind t)) ] ≡ true → ahead deep s (kind t) ≡ true
      leads_it true e g h = h
      leads_it false e g h = absurd (false≢true g)

      front : (to : Limits) (levels : ℕ) → suc deep ≤ levels → Room to 1 c → (n : ℕ) × Opens to n levels c (nest s) (t ∷ [])
      front to zero le room = absurd (omega arith)
      front to (suc levels) le room = (deep, inr (levels, refl, ahead_sound to deep t levels (omega arith) c room s (leads_it (begins (kind t)) refl f (at_each (begins_test s begins) test (kind t)))))

  level_out : {B : Type 0} (g : Value s → B) (w : PlacedTokens) (b : Bool) → begins (kind_at w) ≡ b → ElementOut most zero c (nest s) g w (no_level begins (state w c))
  level_out g [] true e = absurd (false≢true (sym end ∙ e))
  level_out g (t ∷ w) true e = rw e (level_passes t w e)
  level_out g w false e = rw e (level_dies w e)

pub level_reads : {most : Limits} {s : Sym} {B : Type 0} {g : Value s → B} (begins : Kind → Bool) → each (begins_test s begins) kinds ≡ true → null (nest s) ≡ false → begins k.End ≡ false
    → (st : State) → Reads most zero st.counts (nest s) B g st.tokens (no_level begins st)
level_reads {most} {s} {B} {g} begins test some end st = record { out = level_out most st.counts s begins test some end g st.tokens (begins (kind_at st.tokens)) refl }
