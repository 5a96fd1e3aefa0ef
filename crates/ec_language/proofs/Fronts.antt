-- The lists that pass the test of fronts are exactly the fronts.
use Rattle.std.proofs.Common.{◌≡◌, ℕ, zero, suc, ◌+◌, ◌*◌, ◌≤◌, Bool, true, false, ◌&&◌, List, [], ◌∷◌, ◌++◌, length, refl, ◌⊎◌, inl, inr, ap, sym, ◌∙◌, subst, arith, length-append}
use Rattle.ec_language.specs.Productions.{Placed, is, Sym, Element, tok, count, sym as ofs, nest, whole, own, Row, Node, Follows, Production, productions}
use Rattle.ec_language.specs.Grammar.{PlacedTokens, Limits, Counts, behind_counted, is_within, in_expression, in_declarator, Derivation, DerivesElement, AnyOf, DerivesBelow, Beginning, FrontElement, FrontRow, FrontBelow}
use Rattle.ec_language.specs.ReadSyntax.{chain, Reading, only_where, may_follow, IsAmong, some_of, Fronter, is_empty, front_token, front_nest, front_element, front_row, is_front, read, read_element}
use Rattle.ec_language.proofs.Among.{either_true, true_first, true_second, some_holds, holds_some}
use Rattle.ec_language.proofs.Readings.{may_follow_true, true_may_follow, both_true, true_both, reading, sound_element, sound, complete_element, complete}
use Rattle.ec_language.proofs.TableTests.{on_element, may_be_empty, first_row, is_low, all_low, first_true}
use Rattle.ec_language.proofs.Heights.{on_any, takes_token, map_any, map_passed, Moves, move_element, raise, lower}

pub empty_true : (u : PlacedTokens) → is_empty u ≡ true → u ≡ []
empty_true [] e = refl
empty_true (t ∷ u) e = absurd (let k : false ≡ true = e in cc)

pub token_true : (f : Placed → Bool) (u : PlacedTokens) → front_token f u ≡ true → (u ≡ []) ⊎ ((v : Placed) × (u ≡ v ∷ []) × (f v ≡ true))
token_true f [] e = inl refl
token_true f (v ∷ []) e = inr (v, refl, e)
token_true f (v ∷ x ∷ w) e = absurd (let k : false ≡ true = e in cc)

nest_true : (f : ℕ → Bool) (levels : ℕ) (u : PlacedTokens) → front_nest f levels u ≡ true → (u ≡ []) ⊎ ((fewer : ℕ) × (levels ≡ suc fewer) × (f fewer ≡ true))
nest_true f levels [] e = inl refl
nest_true f zero (v ∷ w) e = absurd (let k : false ≡ true = e in cc)
nest_true f (suc fewer) (v ∷ w) e = inr (fewer, refl, e)

true_nest : (f : ℕ → Bool) (fewer : ℕ) (u : PlacedTokens) → f fewer ≡ true → front_nest f (suc fewer) u ≡ true
true_nest f fewer [] e = refl
true_nest f fewer (v ∷ w) e = e

only_true : (a b : Bool) → only_where a b ≡ true → (a ≡ true) × (b ≡ true)
only_true true b e = (refl, e)
only_true false b e = absurd (let k : false ≡ true = e in cc)

true_only : (a b : Bool) → a ≡ true → b ≡ true → only_where a b ≡ true
true_only true b e f = f
true_only false b e f = e

module _ (limits : Limits) where
  -- ---- fronts whose whole elements have low derivations

  -- as for fronts, with whole elements by D
  abbrev pub LowRow : Derivation limits → Beginning limits → ℕ → Counts → Follows → Row → PlacedTokens → Type 0
  LowRow D F levels c follows [] u = u ≡ []
  LowRow D F levels c follows (i ∷ r) u =
      FrontElement limits F levels c i u
      ⊎ ((v : PlacedTokens) × (w : PlacedTokens) × (u ≡ v ++ w) × (node : Node i) × (between : Counts) × DerivesElement limits D levels c i v node between × LowRow D F levels between follows r w × ((w ≡ []) ⊎ (follows i node ≡ true)))

  abbrev pub LowFront : ℕ → Beginning limits
  LowFront zero levels c s u = ⊥
  LowFront (suc n) levels c s u = AnyOf limits (λ a. LowRow (DerivesBelow limits n) (LowFront n) levels c a.follows a.row u) (productions s)

  abbrev pub Begins : Beginning limits → Beginning limits → Sym → PlacedTokens → Type 0
  Begins F G s u = (levels : ℕ) (c : Counts) → F levels c s u → G levels c s u

  begin_element : (F G : Beginning limits) (S : Sym → Bool) (u : PlacedTokens) → ((s : Sym) → S s ≡ true → Begins F G s u) → (i : Element) → on_element true S i ≡ true → (levels : ℕ) (c : Counts) → FrontElement limits F levels c i u → FrontElement limits G levels c i u
  begin_element F G S u f (tok t) e levels c h = h
  begin_element F G S u f (count k t) e levels c h = h
  begin_element F G S u f (ofs s) e levels c h = f s e levels c h
  begin_element F G S u f (nest s) e levels c (inl h) = inl h
  begin_element F G S u f (nest s) e levels c (inr h) = inr (h.0, h.1, f s e h.0 c h.2)
  begin_element F G S u f (whole s) e levels c h = f s e levels _ h
  begin_element F G S u f (own s) e levels c h = f s e levels _ h

  -- ---- such a front is a front

  low_row : (n : ℕ) → ((s : Sym) (u : PlacedTokens) → Begins (LowFront n) (FrontBelow limits n) s u) → (follows : Follows) (r : Row) (u : PlacedTokens) (levels : ℕ) (c : Counts) → LowRow (DerivesBelow limits n) (LowFront n) levels c follows r u → FrontRow limits (FrontBelow limits n) levels c follows r u
  low_row n f follows [] u levels c h = h
  low_row n f follows (i ∷ r) u levels c (inl h) = inl (begin_element (LowFront n) (FrontBelow limits n) (λ s. true) u (λ s _. f s u) i (on_any i) levels c h)
  low_row n f follows (i ∷ r) u levels c (inr h) = inr (h.0, h.1, h.2, h.3, h.4, n, h.5, low_row n f follows r h.1 levels h.4 h.6, h.7)

  pub low_front : (n : ℕ) (s : Sym) (u : PlacedTokens) → Begins (LowFront n) (FrontBelow limits n) s u
  low_front zero s u levels c h = absurd h
  low_front (suc n) s u levels c h =
      map_any limits (λ a. LowRow (DerivesBelow limits n) (LowFront n) levels c a.follows a.row u) (λ a. FrontRow limits (FrontBelow limits n) levels c a.follows a.row u)
      (λ a x. low_row n (low_front n) a.follows a.row u levels c x) (productions s) h

  -- ---- and each front is such a front, as low as the list allows

  raise_row : (D E : Derivation limits) (F G : Beginning limits) → ((s : Sym) (w : PlacedTokens) → Moves limits D E s w) → ((s : Sym) (u : PlacedTokens) → Begins F G s u) → (follows : Follows) (r : Row) (u : PlacedTokens) (levels : ℕ) (c : Counts) → LowRow D F levels c follows r u → LowRow E G levels c follows r u
  raise_row D E F G d f follows [] u levels c h = h
  raise_row D E F G d f follows (i ∷ r) u levels c (inl h) = inl (begin_element F G (λ s. true) u (λ s _. f s u) i (on_any i) levels c h)
  raise_row D E F G d f follows (i ∷ r) u levels c (inr h) =
      inr (h.0, h.1, h.2, h.3, h.4, move_element limits D E (λ s. true) h.0 (λ s _. d s h.0) i (on_any i) levels c h.3 h.4 h.5, raise_row D E F G d f follows r h.1 levels h.4 h.6, h.7)

  raise_front : (n m : ℕ) → n ≤ m → (s : Sym) (u : PlacedTokens) → Begins (LowFront n) (LowFront m) s u
  raise_front zero m le s u levels c h = absurd h
  raise_front (suc n) zero le s u levels c h = absurd (omega arith)
  raise_front (suc n) (suc m) le s u levels c h =
      map_any limits (λ a. LowRow (DerivesBelow limits n) (LowFront n) levels c a.follows a.row u) (λ a. LowRow (DerivesBelow limits m) (LowFront m) levels c a.follows a.row u)
      (λ a x. raise_row (DerivesBelow limits n) (DerivesBelow limits m) (LowFront n) (LowFront m) (raise limits n m (omega arith)) (raise_front n m (omega arith)) a.follows a.row u levels c x) (productions s) h

  -- a whole element of a shorter list, and one that is reached without a token
  shorter_element : (n k most : ℕ) → chain * most ≤ k → (levels : ℕ) (c : Counts) (i : Element) (w : PlacedTokens) (v : Node i) (behind : Counts) → suc (length w) ≤ most → DerivesElement limits (DerivesBelow limits n) levels c i w v behind → DerivesElement limits (DerivesBelow limits k) levels c i w v behind
  shorter_element n k most up levels c i w v behind le h =
      move_element limits (DerivesBelow limits n) (DerivesBelow limits k) (λ s. true) w
      (λ s _ ls d y b p. raise limits (chain + chain * length w) k (omega arith) s w ls d y b (lower limits n chain s (all_low s) w ls d y b p))
      i (on_any i) levels c v behind h

  reached_element : (n m k most : ℕ) → m + chain * most ≤ k → (levels : ℕ) (c : Counts) (i : Element) → on_element true (is_low m) i ≡ true → (w : PlacedTokens) (v : Node i) (behind : Counts) → length w ≤ most → DerivesElement limits (DerivesBelow limits n) levels c i w v behind → DerivesElement limits (DerivesBelow limits k) levels c i w v behind
  reached_element n m k most up levels c i e w v behind le h =
      move_element limits (DerivesBelow limits n) (DerivesBelow limits k) (is_low m) w
      (λ s l ls d y b p. raise limits (m + chain * length w) k (omega arith) s w ls d y b (lower limits n m s l w ls d y b p))
      i e levels c v behind h

  later_row : (F G : Beginning limits) (k most : ℕ) → chain * most ≤ k → ((s : Sym) (u : PlacedTokens) → suc (length u) ≤ most → Begins F G s u) → (follows : Follows) (r : Row) (u : PlacedTokens) → suc (length u) ≤ most → (levels : ℕ) (c : Counts) → FrontRow limits F levels c follows r u → LowRow (DerivesBelow limits k) G levels c follows r u
  later_row F G k most up f follows [] u le levels c h = h
  later_row F G k most up f follows (i ∷ r) u le levels c (inl h) = inl (begin_element F G (λ s. true) u (λ s _. f s u le) i (on_any i) levels c h)
  later_row F G k most up f follows (i ∷ r) u le levels c (inr h) =
      let e = ap length h.2 ∙ length-append h.0 h.1 in
      inr (h.0, h.1, h.2, h.3, h.4, shorter_element h.5 k most up levels c i h.0 h.3 h.4 (omega (arith, e)) h.6, later_row F G k most up f follows r h.1 (omega (arith, e)) levels h.4 h.7, h.8)

  lower_row : (F G : Beginning limits) (m k most : ℕ) → m + chain * most ≤ k → ((s : Sym) → is_low m s ≡ true → (u : PlacedTokens) → length u ≤ most → Begins F G s u) → ((s : Sym) (u : PlacedTokens) → suc (length u) ≤ most → Begins F G s u) → (follows : Follows) (r : Row) → first_row (is_low m) r ≡ true → (u : PlacedTokens) → length u ≤ most → (levels : ℕ) (c : Counts) → FrontRow limits F levels c follows r u → LowRow (DerivesBelow limits k) G levels c follows r u
  lower_row F G m k most up f g follows [] e u le levels c h = h
  lower_row F G m k most up f g follows (i ∷ r) e u le levels c (inl h) = inl (begin_element F G (is_low m) u (λ s l. f s l u le) i (first_true (is_low m) i r e).0 levels c h)
  lower_row F G m k most up f g follows (i ∷ r) e u le levels c (inr h) =
      inr (h.0, h.1, h.2, h.3, h.4, reached_element h.5 m k most up levels c i t.0 h.0 h.3 h.4 (omega (arith, same)) h.6, go (λ z l. lower_row F G m k most up f g follows r z h.1 l levels h.4 h.7) h.0 refl t.1, h.8)
    where
      same : length u ≡ length h.0 + length h.1
      same = ap length h.2 ∙ length-append h.0 h.1

      t : (on_element true (is_low m) i ≡ true) × ((on_element false may_be_empty i ≡ false) ⊎ (first_row (is_low m) r ≡ true))
      t = first_true (is_low m) i r e

      go : (first_row (is_low m) r ≡ true → length h.1 ≤ most → LowRow (DerivesBelow limits k) G levels h.4 follows r h.1) → (v : PlacedTokens) → h.0 ≡ v → (on_element false may_be_empty i ≡ false) ⊎ (first_row (is_low m) r ≡ true) → LowRow (DerivesBelow limits k) G levels h.4 follows r h.1
      go again [] p (inl z) = absurd (takes_token limits h.5 i z levels c h.3 h.4 (subst (λ v. DerivesElement limits (DerivesBelow limits h.5) levels c i v h.3 h.4) p h.6))
      go again [] p (inr z) = again z (omega (arith, same))
      go again (x ∷ v) p z = later_row F G k most (omega arith) g follows r h.1 (let l : length h.0 ≡ suc (length v) = ap length p in omega (arith, same, l)) levels h.4 h.7

  pub lower_front : (n m : ℕ) (s : Sym) → is_low m s ≡ true → (u : PlacedTokens) → Begins (FrontBelow limits n) (LowFront (m + chain * length u)) s u
  lower_front zero m s e u levels c h = absurd h
  lower_front (suc n) zero s e u levels c h = absurd (let k : false ≡ true = e in cc)
  lower_front (suc n) (suc m) s e u levels c h = subst (λ k. LowFront k levels c s u) eq (below (lower_front n))
    where
      k : ℕ
      k = m + chain * length u

      eq : suc k ≡ suc m + chain * length u
      eq = omega arith

      below : ((m' : ℕ) (t : Sym) → is_low m' t ≡ true → (x : PlacedTokens) → Begins (FrontBelow limits n) (LowFront (m' + chain * length x)) t x) → LowFront (suc k) levels c s u
      below again =
          map_passed limits (first_row (is_low m)) (λ a. FrontRow limits (FrontBelow limits n) levels c a.follows a.row u) (λ a. LowRow (DerivesBelow limits k) (LowFront k) levels c a.follows a.row u)
          (λ a t x. lower_row (FrontBelow limits n) (LowFront k) m k (length u) (omega arith)
          (λ z l y le ls d p. raise_front (m + chain * length y) k (omega arith) z y ls d (again m z l y ls d p))
          (λ z y le ls d p. raise_front (chain + chain * length y) k (omega arith) z y ls d (again chain z (all_low z) y ls d p))
          a.follows a.row t u (omega arith) levels c x) (productions s) e h

  -- ---- what passes the test is a front

  abbrev SoundTest : Fronter → Beginning limits → Type 0
  SoundTest T F = (levels : ℕ) (c : Counts) (s : Sym) (u : PlacedTokens) → T levels c s u ≡ true → F levels c s u

  test_element : (T : Fronter) (F : Beginning limits) → SoundTest T F → (levels : ℕ) (c : Counts) (i : Element) (u : PlacedTokens) → front_element limits T levels c i u ≡ true → FrontElement limits F levels c i u
  test_element T F f levels c (tok t) u e = token_true (λ v. is t v.token.tok) u e
  test_element T F f levels c (count k t) u e = go (token_true (λ v. is t v.token.tok && is_within limits k (behind_counted k c)) u e)
    where
      go : (u ≡ []) ⊎ ((v : Placed) × (u ≡ v ∷ []) × ((is t v.token.tok && is_within limits k (behind_counted k c)) ≡ true)) → FrontElement limits F levels c (count k t) u
      go (inl h) = inl h
      go (inr h) = let b = both_true (is t h.0.token.tok) (is_within limits k (behind_counted k c)) h.2 in inr (h.0, h.1, b.0, b.1)
  test_element T F f levels c (ofs s) u e = f levels c s u e
  test_element T F f levels c (nest s) u e = go (nest_true (λ fewer. T fewer c s u) levels u e)
    where
      go : (u ≡ []) ⊎ ((fewer : ℕ) × (levels ≡ suc fewer) × (T fewer c s u ≡ true)) → FrontElement limits F levels c (nest s) u
      go (inl h) = inl h
      go (inr h) = inr (h.0, h.1, f h.0 c s u h.2)
  test_element T F f levels c (whole s) u e = f levels (in_expression c) s u e
  test_element T F f levels c (own s) u e = f levels (in_declarator c) s u e

  -- a front of the rest stands behind a reading of the element
  abbrev Behind : ℕ → Fronter → ℕ → Follows → (i : Element) → Row → Reading (Node i) → Bool
  Behind m T levels follows i r x = only_where (may_follow (follows i x.tree) x.left) (front_row limits (read limits m) T levels x.behind follows r x.left)

  test_row : (m : ℕ) (T : Fronter) (F : Beginning limits) → SoundTest T F → (levels : ℕ) (c : Counts) (follows : Follows) (r : Row) (u : PlacedTokens) → front_row limits (read limits m) T levels c follows r u ≡ true → LowRow (DerivesBelow limits m) F levels c follows r u
  test_row m T F f levels c follows [] u e = empty_true u e
  test_row m T F f levels c follows (i ∷ r) u e =
      go (λ between left. test_row m T F f levels between follows r left) (either_true (front_element limits T levels c i u) (some_of (Behind m T levels follows i r) (read_element limits (read limits m) levels c i u)) e)
    where
      go : ((between : Counts) (left : PlacedTokens) → front_row limits (read limits m) T levels between follows r left ≡ true → LowRow (DerivesBelow limits m) F levels between follows r left) → (front_element limits T levels c i u ≡ true) ⊎ (some_of (Behind m T levels follows i r) (read_element limits (read limits m) levels c i u) ≡ true) → LowRow (DerivesBelow limits m) F levels c follows (i ∷ r) u
      go again (inl h) = inl (test_element T F f levels c i u h)
      go again (inr h) =
          let x = some_holds (Behind m T levels follows i r) (read_element limits (read limits m) levels c i u) h in
          let d = sound_element limits (read limits m) (DerivesBelow limits m) (sound limits m) levels c i u x.0 x.1 in
          let o = only_true (may_follow (follows i x.0.tree) x.0.left) (front_row limits (read limits m) T levels x.0.behind follows r x.0.left) x.2 in
          inr (x.0.taken, x.0.left, d.1, x.0.tree, x.0.behind, d.0, again x.0.behind x.0.left o.1, may_follow_true (follows i x.0.tree) x.0.left o.0)

  test_any : (m : ℕ) (T : Fronter) (F : Beginning limits) → SoundTest T F → (levels : ℕ) (c : Counts) {A : Type 0} (ps : List (Production A)) (u : PlacedTokens) → some_of (λ a. front_row limits (read limits m) T levels c a.follows a.row u) ps ≡ true → AnyOf limits (λ a. LowRow (DerivesBelow limits m) F levels c a.follows a.row u) ps
  test_any m T F f levels c [] u e = absurd (let k : false ≡ true = e in cc)
  test_any m T F f levels c {A} (a ∷ rest) u e =
      go (test_any m T F f levels c rest u) (either_true (front_row limits (read limits m) T levels c a.follows a.row u) (some_of (λ b. front_row limits (read limits m) T levels c b.follows b.row u) rest) e)
    where
      go : (some_of (λ b. front_row limits (read limits m) T levels c b.follows b.row u) rest ≡ true → AnyOf limits (λ b. LowRow (DerivesBelow limits m) F levels c b.follows b.row u) rest) → (front_row limits (read limits m) T levels c a.follows a.row u ≡ true) ⊎ (some_of (λ b. front_row limits (read limits m) T levels c b.follows b.row u) rest ≡ true) → AnyOf limits (λ b. LowRow (DerivesBelow limits m) F levels c b.follows b.row u) (a ∷ rest)
      go again (inl h) = inl (test_row m T F f levels c a.follows a.row u h)
      go again (inr h) = inr (again h)

  pub front_holds : (n : ℕ) → SoundTest (is_front limits n) (LowFront n)
  front_holds zero levels c s u e = absurd (let k : false ≡ true = e in cc)
  front_holds (suc n) levels c s u e = test_any n (is_front limits n) (LowFront n) (front_holds n) levels c (productions s) u e

  -- ---- such a front passes the test

  abbrev CompleteTest : Fronter → Beginning limits → Type 0
  CompleteTest T F = (levels : ℕ) (c : Counts) (s : Sym) (u : PlacedTokens) → F levels c s u → T levels c s u ≡ true

  pass_token : (f : Placed → Bool) (u : PlacedTokens) → (u ≡ []) ⊎ ((v : Placed) × (u ≡ v ∷ []) × (f v ≡ true)) → front_token f u ≡ true
  pass_token f u (inl e) = ap (front_token f) e
  pass_token f u (inr h) = ap (front_token f) h.1 ∙ h.2

  pass_element : (T : Fronter) (F : Beginning limits) → CompleteTest T F → (levels : ℕ) (c : Counts) (i : Element) (u : PlacedTokens) → FrontElement limits F levels c i u → front_element limits T levels c i u ≡ true
  pass_element T F f levels c (tok t) u h = pass_token (λ v. is t v.token.tok) u h
  pass_element T F f levels c (count k t) u (inl h) = pass_token (λ v. is t v.token.tok && is_within limits k (behind_counted k c)) u (inl h)
  pass_element T F f levels c (count k t) u (inr h) =
      pass_token (λ v. is t v.token.tok && is_within limits k (behind_counted k c)) u (inr (h.0, h.1, true_both (is t h.0.token.tok) (is_within limits k (behind_counted k c)) h.2 h.3))
  pass_element T F f levels c (ofs s) u h = f levels c s u h
  pass_element T F f levels c (nest s) u (inl h) = ap (front_nest (λ fewer. T fewer c s u) levels) h
  pass_element T F f levels c (nest s) u (inr h) =
      ap (λ n. front_nest (λ fewer. T fewer c s u) n u) h.1 ∙ true_nest (λ fewer. T fewer c s u) h.0 u (f h.0 c s u h.2)
  pass_element T F f levels c (whole s) u h = f levels (in_expression c) s u h
  pass_element T F f levels c (own s) u h = f levels (in_declarator c) s u h

  pass_row : (m : ℕ) (T : Fronter) (F : Beginning limits) → CompleteTest T F → (levels : ℕ) (c : Counts) (follows : Follows) (r : Row) (u : PlacedTokens) → LowRow (DerivesBelow limits m) F levels c follows r u → front_row limits (read limits m) T levels c follows r u ≡ true
  pass_row m T F f levels c follows [] u h = ap is_empty h
  pass_row m T F f levels c follows (i ∷ r) u (inl h) =
      true_first (front_element limits T levels c i u) (some_of (Behind m T levels follows i r) (read_element limits (read limits m) levels c i u))
      (pass_element T F f levels c i u h)
  pass_row m T F f levels c follows (i ∷ r) u (inr h) =
      let x = complete_element limits (read limits m) (DerivesBelow limits m) (complete limits m) levels c i h.0 h.1 h.3 h.4 h.5 in
      true_second (front_element limits T levels c i u) (some_of (Behind m T levels follows i r) (read_element limits (read limits m) levels c i u))
      (holds_some (Behind m T levels follows i r) (reading h.3 h.0 h.1 h.4) (read_element limits (read limits m) levels c i u)
      (subst (λ w. IsAmong (reading h.3 h.0 h.1 h.4) (read_element limits (read limits m) levels c i w)) (sym h.2) x)
      (true_only (may_follow (follows i h.3) h.1) (front_row limits (read limits m) T levels h.4 follows r h.1) (true_may_follow (follows i h.3) h.1 h.7) (pass_row m T F f levels h.4 follows r h.1 h.6)))

  pass_any : (m : ℕ) (T : Fronter) (F : Beginning limits) → CompleteTest T F → (levels : ℕ) (c : Counts) {A : Type 0} (ps : List (Production A)) (u : PlacedTokens) → AnyOf limits (λ a. LowRow (DerivesBelow limits m) F levels c a.follows a.row u) ps → some_of (λ a. front_row limits (read limits m) T levels c a.follows a.row u) ps ≡ true
  pass_any m T F f levels c [] u h = absurd h
  pass_any m T F f levels c (a ∷ rest) u (inl h) =
      true_first (front_row limits (read limits m) T levels c a.follows a.row u) (some_of (λ b. front_row limits (read limits m) T levels c b.follows b.row u) rest) (pass_row m T F f levels c a.follows a.row u h)
  pass_any m T F f levels c (a ∷ rest) u (inr h) =
      true_second (front_row limits (read limits m) T levels c a.follows a.row u) (some_of (λ b. front_row limits (read limits m) T levels c b.follows b.row u) rest) (pass_any m T F f levels c rest u h)

  pub front_passes : (n : ℕ) → CompleteTest (is_front limits n) (LowFront n)
  front_passes zero levels c s u h = absurd h
  front_passes (suc n) levels c s u h = pass_any n (is_front limits n) (LowFront n) (front_passes n) levels c (productions s) u h
