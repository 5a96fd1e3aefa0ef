-- A derivation, and a front, has to be no higher than its tokens and the chains of symbols that take none.
use Rattle.std.proofs.Common.{◌≡◌, ℕ, zero, suc, ◌+◌, ◌*◌, ◌≤◌, Bool, true, false, List, [], ◌∷◌, ◌++◌, length, refl, ◌⊎◌, inl, inr, ap, sym, ◌∙◌, subst, arith, length-append}
use Rattle.ec_language.specs.Productions.{Sym, Value, Element, tok, count, sym as ofs, nest, whole, own, Row, Node, Nodes, Follows, Production, productions}
use Rattle.ec_language.specs.Grammar.{PlacedTokens, Limits, Counts, Derivation, DerivesElement, DerivesRow, AnyOf, Makes, DerivesBelow}
use Rattle.ec_language.specs.ReadSyntax.{chain}
use Rattle.ec_language.proofs.TableTests.{any_row, every_row, on_element, empty_row, empty_within, may_be_empty, first_row, is_low, all_low, any_false, every_true, empty_false, first_true}

pub nothing_left : (u x : PlacedTokens) → u ++ x ≡ [] → (u ≡ []) × (x ≡ [])
nothing_left [] x e = (refl, e)
nothing_left (t ∷ u) x e = absurd (cc)

pub on_any : (i : Element) → on_element true (λ s. true) i ≡ true
on_any (tok t) = refl
on_any (count k t) = refl
on_any (ofs s) = refl
on_any (nest s) = refl
on_any (whole s) = refl
on_any (own s) = refl

module _ (limits : Limits) where
  -- ---- what derives no token

  abbrev pub NeverEmpty : Derivation limits → Sym → Type 0
  NeverEmpty D s = (levels : ℕ) (c : Counts) (v : Value s) (behind : Counts) → D levels c s [] v behind → ⊥

  full_element : (D : Derivation limits) (E : Sym → Bool) → ((s : Sym) → E s ≡ false → NeverEmpty D s) → (i : Element) → on_element false E i ≡ false → (levels : ℕ) (c : Counts) (v : Node i) (behind : Counts) → DerivesElement limits D levels c i [] v behind → ⊥
  full_element D E f (tok t) e levels c v behind h = absurd (let k : [] ≡ v ∷ [] = h.0 in cc)
  full_element D E f (count k t) e levels c v behind h = absurd (let k : [] ≡ v ∷ [] = h.0 in cc)
  full_element D E f (ofs s) e levels c v behind h = f s e levels c v behind h
  full_element D E f (nest s) e levels c v behind h = f s e h.0 c v behind h.2
  full_element D E f (whole s) e levels c v behind h = f s e levels _ v h.0 h.2
  full_element D E f (own s) e levels c v behind h = f s e levels _ v h.0 h.2

  pub full_row : (D : Derivation limits) (E : Sym → Bool) → ((s : Sym) → E s ≡ false → NeverEmpty D s) → (follows : Follows) (r : Row) → empty_row E r ≡ false → (levels : ℕ) (c : Counts) (vs : Nodes r) (behind : Counts) → DerivesRow limits D levels c follows r [] vs behind → ⊥
  full_row D E f follows [] e levels c vs behind h = absurd (let k : true ≡ false = e in cc)
  full_row D E f follows (i ∷ r) e levels c vs behind h = go (λ k. full_row D E f follows r k levels h.3 vs.1 behind) (nothing_left h.0 h.1 (sym h.2)) (empty_false E i r e)
    where
      go : (empty_row E r ≡ false → DerivesRow limits D levels h.3 follows r [] vs.1 behind → ⊥) → (h.0 ≡ []) × (h.1 ≡ []) → (on_element false E i ≡ false) ⊎ (empty_row E r ≡ false) → ⊥
      go again n (inl k) = full_element D E f i k levels c vs.0 h.3 (subst (λ u. DerivesElement limits D levels c i u vs.0 h.3) n.0 h.4)
      go again n (inr k) = again k (subst (λ u. DerivesRow limits D levels h.3 follows r u vs.1 behind) n.1 h.5)

  full_any : (D : Derivation limits) (E : Sym → Bool) → ((s : Sym) → E s ≡ false → NeverEmpty D s) → {A : Type 0} (ps : List (Production A)) → any_row (empty_row E) ps ≡ false → (levels : ℕ) (c : Counts) (v : A) (behind : Counts) → AnyOf limits (Makes limits D levels c [] v behind) ps → ⊥
  full_any D E f [] e levels c v behind h = h
  full_any D E f (a ∷ rest) e levels c v behind (inl h) = full_row D E f a.follows a.row (any_false (empty_row E) a rest e).0 levels c h.0 behind h.2
  full_any D E f (a ∷ rest) e levels c v behind (inr h) = full_any D E f rest (any_false (empty_row E) a rest e).1 levels c v behind h

  pub full : (n m : ℕ) (s : Sym) → empty_within m s ≡ false → NeverEmpty (DerivesBelow limits n) s
  full zero m s e levels c v behind h = h
  full (suc n) zero s e levels c v behind h = absurd (let k : true ≡ false = e in cc)
  full (suc n) (suc m) s e levels c v behind h = full_any (DerivesBelow limits n) (empty_within m) (full n m) (productions s) e levels c v behind h

  -- a whole element that is not empty takes a token
  pub takes_token : (n : ℕ) (i : Element) → on_element false may_be_empty i ≡ false → (levels : ℕ) (c : Counts) (v : Node i) (behind : Counts) → DerivesElement limits (DerivesBelow limits n) levels c i [] v behind → ⊥
  takes_token n i e = full_element (DerivesBelow limits n) may_be_empty (full n chain) i e

  -- ---- from one derivation to another

  pub map_any : {A : Type 0} (X Y : Production A → Type 0) → ((a : Production A) → X a → Y a) → (ps : List (Production A)) → AnyOf limits X ps → AnyOf limits Y ps
  map_any X Y f [] h = absurd h
  map_any X Y f (a ∷ rest) (inl h) = inl (f a h)
  map_any X Y f (a ∷ rest) (inr h) = inr (map_any X Y f rest h)

  pub map_passed : {A : Type 0} (T : Row → Bool) (X Y : Production A → Type 0) → ((a : Production A) → T a.row ≡ true → X a → Y a) → (ps : List (Production A)) → every_row T ps ≡ true → AnyOf limits X ps → AnyOf limits Y ps
  map_passed T X Y f [] e h = absurd h
  map_passed T X Y f (a ∷ rest) e (inl h) = inl (f a (every_true T a rest e).0 h)
  map_passed T X Y f (a ∷ rest) e (inr h) = inr (map_passed T X Y f rest (every_true T a rest e).1 h)

  -- of this symbol over this list
  abbrev pub Moves : Derivation limits → Derivation limits → Sym → PlacedTokens → Type 0
  Moves D E s w = (levels : ℕ) (c : Counts) (v : Value s) (behind : Counts) → D levels c s w v behind → E levels c s w v behind

  pub move_element : (D E : Derivation limits) (S : Sym → Bool) (w : PlacedTokens) → ((s : Sym) → S s ≡ true → Moves D E s w) → (i : Element) → on_element true S i ≡ true → (levels : ℕ) (c : Counts) (v : Node i) (behind : Counts) → DerivesElement limits D levels c i w v behind → DerivesElement limits E levels c i w v behind
  move_element D E S w f (tok t) e levels c v behind h = h
  move_element D E S w f (count k t) e levels c v behind h = h
  move_element D E S w f (ofs s) e levels c v behind h = f s e levels c v behind h
  move_element D E S w f (nest s) e levels c v behind h = (h.0, h.1, f s e h.0 c v behind h.2)
  move_element D E S w f (whole s) e levels c v behind h = (h.0, h.1, f s e levels _ v h.0 h.2)
  move_element D E S w f (own s) e levels c v behind h = (h.0, h.1, f s e levels _ v h.0 h.2)

  move_row : (D E : Derivation limits) → ((s : Sym) (w : PlacedTokens) → Moves D E s w) → (follows : Follows) (r : Row) (w : PlacedTokens) (levels : ℕ) (c : Counts) (vs : Nodes r) (behind : Counts) → DerivesRow limits D levels c follows r w vs behind → DerivesRow limits E levels c follows r w vs behind
  move_row D E f follows [] w levels c vs behind h = h
  move_row D E f follows (i ∷ r) w levels c vs behind h =
      (h.0, h.1, h.2, h.3, move_element D E (λ s. true) h.0 (λ s _. f s h.0) i (on_any i) levels c vs.0 h.3 h.4, move_row D E f follows r h.1 levels h.3 vs.1 behind h.5, h.6)

  pub raise : (n m : ℕ) → n ≤ m → (s : Sym) (w : PlacedTokens) → Moves (DerivesBelow limits n) (DerivesBelow limits m) s w
  raise zero m le s w levels c v behind h = absurd h
  raise (suc n) zero le s w levels c v behind h = absurd (omega arith)
  raise (suc n) (suc m) le s w levels c v behind h =
      map_any (Makes limits (DerivesBelow limits n) levels c w v behind) (Makes limits (DerivesBelow limits m) levels c w v behind)
      (λ a x. (x.0, x.1, move_row (DerivesBelow limits n) (DerivesBelow limits m) (raise n m (omega arith)) a.follows a.row w levels c x.0 behind x.2)) (productions s) h

  -- ---- as low as the list allows

  -- shorter lists, of any symbol
  later_row : (D E : Derivation limits) (most : ℕ) → ((s : Sym) (u : PlacedTokens) → suc (length u) ≤ most → Moves D E s u) → (follows : Follows) (r : Row) (w : PlacedTokens) → suc (length w) ≤ most → (levels : ℕ) (c : Counts) (vs : Nodes r) (behind : Counts) → DerivesRow limits D levels c follows r w vs behind → DerivesRow limits E levels c follows r w vs behind
  later_row D E most f follows [] w le levels c vs behind h = h
  later_row D E most f follows (i ∷ r) w le levels c vs behind h =
      let e = ap length h.2 ∙ length-append h.0 h.1 in
      (h.0, h.1, h.2, h.3, move_element D E (λ s. true) h.0 (λ s _. f s h.0 (omega (arith, e))) i (on_any i) levels c vs.0 h.3 h.4, later_row D E most f follows r h.1 (omega (arith, e)) levels h.3 vs.1 behind h.5, h.6)

  -- lists that are no longer, of the symbols that are reached without a token
  lower_row : (n : ℕ) (E : Derivation limits) (most : ℕ) (S : Sym → Bool) → ((s : Sym) → S s ≡ true → (u : PlacedTokens) → length u ≤ most → Moves (DerivesBelow limits n) E s u) → ((s : Sym) (u : PlacedTokens) → suc (length u) ≤ most → Moves (DerivesBelow limits n) E s u) → (follows : Follows) (r : Row) → first_row S r ≡ true → (w : PlacedTokens) → length w ≤ most → (levels : ℕ) (c : Counts) (vs : Nodes r) (behind : Counts) → DerivesRow limits (DerivesBelow limits n) levels c follows r w vs behind → DerivesRow limits E levels c follows r w vs behind
  lower_row n E most S f g follows [] e w le levels c vs behind h = h
  lower_row n E most S f g follows (i ∷ r) e w le levels c vs behind h = (h.0, h.1, h.2, h.3, first, go (λ z k. lower_row n E most S f g follows r z h.1 k levels h.3 vs.1 behind h.5) h.0 refl t.1, h.6)
    where
      same : length w ≡ length h.0 + length h.1
      same = ap length h.2 ∙ length-append h.0 h.1

      t : (on_element true S i ≡ true) × ((on_element false may_be_empty i ≡ false) ⊎ (first_row S r ≡ true))
      t = first_true S i r e

      first : DerivesElement limits E levels c i h.0 vs.0 h.3
      first = move_element (DerivesBelow limits n) E S h.0 (λ s k. f s k h.0 (omega (arith, same))) i t.0 levels c vs.0 h.3 h.4

      go : (first_row S r ≡ true → length h.1 ≤ most → DerivesRow limits E levels h.3 follows r h.1 vs.1 behind) → (u : PlacedTokens) → h.0 ≡ u → (on_element false may_be_empty i ≡ false) ⊎ (first_row S r ≡ true) → DerivesRow limits E levels h.3 follows r h.1 vs.1 behind
      go again [] k (inl z) = absurd (takes_token n i z levels c vs.0 h.3 (subst (λ u. DerivesElement limits (DerivesBelow limits n) levels c i u vs.0 h.3) k h.4))
      go again [] k (inr z) = again z (omega (arith, same))
      go again (x ∷ u) k z = later_row (DerivesBelow limits n) E most g follows r h.1 (let l : length h.0 ≡ suc (length u) = ap length k in omega (arith, same, l)) levels h.3 vs.1 behind h.5

  pub lower : (n m : ℕ) (s : Sym) → is_low m s ≡ true → (w : PlacedTokens) → Moves (DerivesBelow limits n) (DerivesBelow limits (m + chain * length w)) s w
  lower zero m s e w levels c v behind h = absurd h
  lower (suc n) zero s e w levels c v behind h = absurd (let k : false ≡ true = e in cc)
  lower (suc n) (suc m) s e w levels c v behind h = subst (λ k. DerivesBelow limits k levels c s w v behind) eq (below (lower n))
    where
      k : ℕ
      k = m + chain * length w

      eq : suc k ≡ suc m + chain * length w
      eq = omega arith

      below : ((m' : ℕ) (t : Sym) → is_low m' t ≡ true → (u : PlacedTokens) → Moves (DerivesBelow limits n) (DerivesBelow limits (m' + chain * length u)) t u) → DerivesBelow limits (suc k) levels c s w v behind
      below again =
          map_passed (first_row (is_low m)) (Makes limits (DerivesBelow limits n) levels c w v behind) (Makes limits (DerivesBelow limits k) levels c w v behind)
          (λ a t x. (
            x.0,
            x.1,
            lower_row n (DerivesBelow limits k) (length w) (is_low m)
                (λ z l u le ls d y b p. raise (m + chain * length u) k (omega arith) z u ls d y b (again m z l u ls d y b p))
                (λ z u le ls d y b p. raise (chain + chain * length u) k (omega arith) z u ls d y b (again chain z (all_low z) u ls d y b p))
                a.follows a.row t w (omega arith) levels c x.0 behind x.2,
          )) (productions s) e h
