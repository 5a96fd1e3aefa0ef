-- The readings of a symbol are exactly its derivations.
use Rattle.std.proofs.Common.{◌≡◌, ℕ, zero, suc, Bool, true, false, ◌&&◌, List, [], ◌∷◌, ◌++◌, refl, ◌⊎◌, inl, inr, ap, sym, ◌∙◌, subst, append_assoc}
use Rattle.ec_language.specs.Productions.{Placed, is, Sym, Value, Element, tok, count, sym as ofs, nest, whole, own, Row, Node, Nodes, Follows, Production, productions}
use Rattle.ec_language.specs.Grammar.{PlacedTokens, Limits, Counts, behind_counted, is_within, in_expression, behind_expression, in_declarator, behind_declarator, Derivation, DerivesElement, DerivesRow, AnyOf, Makes, DerivesBelow}
use Rattle.ec_language.specs.ReadSyntax.{Reading, each_of, all_of, IsAmong, read_token, read_deeper, leaving, joined, may_follow, joined_where, made, Reader, read_element, read_row, read_productions, read}
use Rattle.ec_language.proofs.Among.{alone_holds, append_holds, each_holds, all_holds, among_alone, among_left, among_right, among_each, among_all}

pub both_true : (a b : Bool) → (a && b) ≡ true → (a ≡ true) × (b ≡ true)
both_true true b e = (refl, e)
both_true false b e = absurd (let f : false ≡ true = e in cc)

pub true_both : (a b : Bool) → a ≡ true → b ≡ true → (a && b) ≡ true
true_both true b e f = f
true_both false b e f = e

pub may_follow_true : (b : Bool) (w : PlacedTokens) → may_follow b w ≡ true → (w ≡ []) ⊎ (b ≡ true)
may_follow_true b [] e = inl refl
may_follow_true b (v ∷ w) e = inr e

pub true_may_follow : (b : Bool) (w : PlacedTokens) → (w ≡ []) ⊎ (b ≡ true) → may_follow b w ≡ true
true_may_follow b w (inl e) = ap (may_follow b) e
true_may_follow b [] (inr e) = refl
true_may_follow b (v ∷ w) (inr e) = e

-- the reading of these parts
abbrev pub reading : {A : Type 0} → A → PlacedTokens → PlacedTokens → Counts → Reading A
reading v w left behind = record { tree = v; taken = w; left = left; behind = behind }

module _ (limits : Limits) where
  -- ---- each reading is a derivation

  -- of a front of the list
  abbrev pub Reads : {A : Type 0} → (PlacedTokens → A → Counts → Type 0) → PlacedTokens → Reading A → Type 0
  Reads X w x = X x.taken x.tree x.behind × (w ≡ x.taken ++ x.left)

  abbrev pub Sound : Reader → Derivation limits → Type 0
  Sound R D = (levels : ℕ) (c : Counts) (s : Sym) (w : PlacedTokens) (x : Reading (Value s)) → IsAmong x (R levels c s w) → Reads (D levels c s) w x

  sound_token : (f : Placed → Bool) (X : PlacedTokens → Placed → Counts → Type 0) (behind : Counts) → ((v : Placed) → f v ≡ true → X (v ∷ []) v behind) → (w : PlacedTokens) (x : Reading Placed) → IsAmong x (read_token f behind w) → Reads X w x
  sound_token f X behind g [] x h = absurd h
  sound_token f X behind g (v ∷ w) x h = alone_holds (Reads X (v ∷ w)) (f v) (reading v (v ∷ []) w behind) (λ e. (g v e, refl)) x h

  sound_deeper : {A : Type 0} (f : ℕ → List A) (P : A → Type 0) (levels : ℕ) → ((fewer : ℕ) → levels ≡ suc fewer → (x : A) → IsAmong x (f fewer) → P x) → (x : A) → IsAmong x (read_deeper f levels) → P x
  sound_deeper f P zero g x h = absurd h
  sound_deeper f P (suc fewer) g x h = g fewer refl x h

  pub sound_element : (R : Reader) (D : Derivation limits) → Sound R D → (levels : ℕ) (c : Counts) (i : Element) (w : PlacedTokens) (x : Reading (Node i)) → IsAmong x (read_element limits R levels c i w) → Reads (DerivesElement limits D levels c i) w x
  sound_element R D f levels c (tok t) w x h = sound_token (λ v. is t v.token.tok) (DerivesElement limits D levels c (tok t)) c (λ v e. (refl, e, refl)) w x h
  sound_element R D f levels c (count k t) w x h =
      sound_token (λ v. is t v.token.tok && is_within limits k (behind_counted k c)) (DerivesElement limits D levels c (count k t)) (behind_counted k c)
      (λ v e. let b = both_true (is t v.token.tok) (is_within limits k (behind_counted k c)) e in (refl, b.0, refl, b.1)) w x h
  sound_element R D f levels c (ofs s) w x h = f levels c s w x h
  sound_element R D f levels c (nest s) w x h =
      sound_deeper (λ fewer. R fewer c s w) (Reads (DerivesElement limits D levels c (nest s)) w) levels
      (λ fewer e y k. let d = f fewer c s w y k in ((fewer, e, d.0), d.1)) x h
  sound_element R D f levels c (whole s) w x h =
      each_holds (Reads (DerivesElement limits D levels c (whole s)) w) (leaving (behind_expression c)) (R levels (in_expression c) s w)
      (λ y k. let d = f levels (in_expression c) s w y k in ((y.behind, refl, d.0), d.1)) x h
  sound_element R D f levels c (own s) w x h =
      each_holds (Reads (DerivesElement limits D levels c (own s)) w) (leaving (behind_declarator c)) (R levels (in_declarator c) s w)
      (λ y k. let d = f levels (in_declarator c) s w y k in ((y.behind, refl, d.0), d.1)) x h

  sound_row : (R : Reader) (D : Derivation limits) → Sound R D → (levels : ℕ) (c : Counts) (follows : Follows) (r : Row) (w : PlacedTokens) (x : Reading (Nodes r)) → IsAmong x (read_row limits R levels c follows r w) → Reads (DerivesRow limits D levels c follows r) w x
  sound_row R D f levels c follows [] w x (inl e) = subst (Reads (DerivesRow limits D levels c follows []) w) e ((refl, refl), refl)
  sound_row R D f levels c follows [] w x (inr h) = absurd h
  sound_row R D f levels c follows (i ∷ r) w x h =
      all_holds (Reads (DerivesRow limits D levels c follows (i ∷ r)) w) (λ y. all_of (joined_where (follows i y.tree) y) (read_row limits R levels y.behind follows r y.left)) (read_element limits R levels c i w)
      (λ y hy. all_holds (Reads (DerivesRow limits D levels c follows (i ∷ r)) w) (joined_where (follows i y.tree) y) (read_row limits R levels y.behind follows r y.left)
      (λ z hz. alone_holds (Reads (DerivesRow limits D levels c follows (i ∷ r)) w) (may_follow (follows i y.tree) z.taken) (joined y z)
      (λ e.
      let a = sound_element R D f levels c i w y hy in
      let b = sound_row R D f levels y.behind follows r y.left z hz in
      ((y.taken, z.taken, refl, y.behind, a.0, b.0, may_follow_true (follows i y.tree) z.taken e), a.1 ∙ ap (λ q. y.taken ++ q) b.1 ∙ sym (append_assoc y.taken z.taken z.left)))))
      x h

  sound_productions : (R : Reader) (D : Derivation limits) → Sound R D → (levels : ℕ) (c : Counts) {A : Type 0} (ps : List (Production A)) (w : PlacedTokens) (x : Reading A) → IsAmong x (read_productions limits R levels c ps w) → Reads (λ u v behind. AnyOf limits (Makes limits D levels c u v behind) ps) w x
  sound_productions R D f levels c [] w x h = absurd h
  sound_productions R D f levels c (a ∷ rest) w x h =
      append_holds (Reads (λ u v behind. AnyOf limits (Makes limits D levels c u v behind) (a ∷ rest)) w) (each_of (made a) (read_row limits R levels c a.follows a.row w)) (read_productions limits R levels c rest w)
      (each_holds (Reads (λ u v behind. AnyOf limits (Makes limits D levels c u v behind) (a ∷ rest)) w) (made a) (read_row limits R levels c a.follows a.row w)
      (λ y hy. let d = sound_row R D f levels c a.follows a.row w y hy in (inl (y.tree, refl, d.0), d.1)))
      (λ y hy. let d = sound_productions R D f levels c rest w y hy in (inr d.0, d.1))
      x h

  pub sound : (n : ℕ) → Sound (read limits n) (DerivesBelow limits n)
  sound zero levels c s w x h = absurd h
  sound (suc n) levels c s w x h = sound_productions (read limits n) (DerivesBelow limits n) (sound n) levels c (productions s) w x h

  -- ---- each derivation is a reading

  abbrev pub Complete : Reader → Derivation limits → Type 0
  Complete R D = (levels : ℕ) (c : Counts) (s : Sym) (w left : PlacedTokens) (v : Value s) (behind : Counts) → D levels c s w v behind → IsAmong (reading v w left behind) (R levels c s (w ++ left))

  complete_token : (f : Placed → Bool) (c behind : Counts) (w left : PlacedTokens) (v : Placed) → w ≡ v ∷ [] → f v ≡ true → behind ≡ c → IsAmong (reading v w left behind) (read_token f c (w ++ left))
  complete_token f c behind w left v e t g = rw (e, g) (among_alone (f v) (reading v (v ∷ []) left c) t)

  pub complete_element : (R : Reader) (D : Derivation limits) → Complete R D → (levels : ℕ) (c : Counts) (i : Element) (w left : PlacedTokens) (v : Node i) (behind : Counts) → DerivesElement limits D levels c i w v behind → IsAmong (reading v w left behind) (read_element limits R levels c i (w ++ left))
  complete_element R D f levels c (tok t) w left v behind h = complete_token (λ v. is t v.token.tok) c behind w left v h.0 h.1 h.2
  complete_element R D f levels c (count k t) w left v behind h =
      complete_token (λ v. is t v.token.tok && is_within limits k (behind_counted k c)) (behind_counted k c) behind w left v h.0
      (true_both (is t v.token.tok) (is_within limits k (behind_counted k c)) h.1 (subst (λ b. is_within limits k b ≡ true) h.2 h.3)) h.2
  complete_element R D f levels c (ofs s) w left v behind h = f levels c s w left v behind h
  complete_element R D f levels c (nest s) w left v behind h = rw h.1 (f h.0 c s w left v behind h.2)
  complete_element R D f levels c (whole s) w left v behind h =
      rw h.1 (among_each (leaving (behind_expression c)) (reading v w left h.0) (R levels (in_expression c) s (w ++ left)) (f levels (in_expression c) s w left v h.0 h.2))
  complete_element R D f levels c (own s) w left v behind h =
      rw h.1 (among_each (leaving (behind_declarator c)) (reading v w left h.0) (R levels (in_declarator c) s (w ++ left)) (f levels (in_declarator c) s w left v h.0 h.2))

  complete_row : (R : Reader) (D : Derivation limits) → Complete R D → (levels : ℕ) (c : Counts) (follows : Follows) (r : Row) (w left : PlacedTokens) (vs : Nodes r) (behind : Counts) → DerivesRow limits D levels c follows r w vs behind → IsAmong (reading vs w left behind) (read_row limits R levels c follows r (w ++ left))
  complete_row R D f levels c follows [] w left vs behind h = rw (h.0, h.1) (inl refl)
  complete_row R D f levels c follows (i ∷ r) w left vs behind h =
      rw (h.2, append_assoc h.0 h.1 left)
      (among_all (λ y. all_of (joined_where (follows i y.tree) y) (read_row limits R levels y.behind follows r y.left)) (reading vs.0 h.0 (h.1 ++ left) h.3) (read_element limits R levels c i (h.0 ++ (h.1 ++ left))) (reading vs (h.0 ++ h.1) left behind)
      (complete_element R D f levels c i h.0 (h.1 ++ left) vs.0 h.3 h.4)
      (among_all (joined_where (follows i vs.0) (reading vs.0 h.0 (h.1 ++ left) h.3)) (reading vs.1 h.1 left behind) (read_row limits R levels h.3 follows r (h.1 ++ left)) (reading vs (h.0 ++ h.1) left behind)
      (complete_row R D f levels h.3 follows r h.1 left vs.1 behind h.5)
      (among_alone (may_follow (follows i vs.0) h.1) (reading vs (h.0 ++ h.1) left behind) (true_may_follow (follows i vs.0) h.1 h.6))))

  complete_productions : (R : Reader) (D : Derivation limits) → Complete R D → (levels : ℕ) (c : Counts) {A : Type 0} (ps : List (Production A)) (w left : PlacedTokens) (v : A) (behind : Counts) → AnyOf limits (Makes limits D levels c w v behind) ps → IsAmong (reading v w left behind) (read_productions limits R levels c ps (w ++ left))
  complete_productions R D f levels c [] w left v behind h = absurd h
  complete_productions R D f levels c (a ∷ rest) w left v behind (inl h) =
      among_left (reading v w left behind) (each_of (made a) (read_row limits R levels c a.follows a.row (w ++ left))) (read_productions limits R levels c rest (w ++ left))
      (rw h.1 (among_each (made a) (reading h.0 w left behind) (read_row limits R levels c a.follows a.row (w ++ left)) (complete_row R D f levels c a.follows a.row w left h.0 behind h.2)))
  complete_productions R D f levels c (a ∷ rest) w left v behind (inr h) =
      among_right (reading v w left behind) (each_of (made a) (read_row limits R levels c a.follows a.row (w ++ left))) (read_productions limits R levels c rest (w ++ left))
      (complete_productions R D f levels c rest w left v behind h)

  pub complete : (n : ℕ) → Complete (read limits n) (DerivesBelow limits n)
  complete zero levels c s w left v behind h = absurd h
  complete (suc n) levels c s w left v behind h = complete_productions (read limits n) (DerivesBelow limits n) (complete n) levels c (productions s) w left v behind h
