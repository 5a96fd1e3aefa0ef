-- A list begins as the reading says, and in one way at most.
use Rattle.std.proofs.Common.{◌≡◌, true, List, [], ◌∷◌, ◌++◌, length, refl, ap, sym, ◌∙◌, subst, Some, append-nil}
use Rattle.ec_embedded.specs.declared.shapes.failure.Failure.TheVariants as failure
use Rattle.ec_embedded.specs.shapes.Shapes.{Shape, Alphabet, IsSound, Tree, yield_of, tokens_of, counted, Judged, tree, dead, short, over, Judges}
use Rattle.ec_embedded.specs.shapes.ReadShapes.{Outcome, done, stopped, is_deterministic, read, dead_at, over_at, tree_at}
use Rattle.ec_embedded.specs.shapes.Beginnings.{Beginning, Ends, IsBegun, Begins, beginning}
use Rattle.ec_embedded.proofs.shapes_lemmas.Stopped.{Got, Explains, explain}
use Rattle.ec_embedded.proofs.shapes_lemmas.Exact.{last_is, front_whole, stuck_judges, tree_ends, one_tree}
use Rattle.ec_embedded.proofs.shapes_lemmas.Single.{single}
use Rattle.ec_embedded.proofs.shapes_lemmas.Ended.{cut_equal, none_before}

module _ {T K S : Type 0} (l : Alphabet T K S) (sound : IsSound l) (s : Shape T) (e : is_deterministic l s ≡ true) where
  ends_by : (n : S) (w : List K) (v : Tree K s) (m : S) (r : List K) → Got l s (read l s) n w v m r → Ends l s v r
  ends_by n w v m [] h = tt
  ends_by n w v m (x ∷ after) h = tree_ends l sound s e n w v m x after h

  by : (n : S) (w : List K) (o : Outcome (Tree K s) K S) → read l s n w ≡ o → Explains l s (read l s) n w o → Begins l s n w (beginning w o)
  by n w (done v m r) d h = record { whole = h.whole; fits = h.fits; within = h.within; ends = ends_by n w v m r h }
  by n w (stopped (failure.Dead k)) d h = subst (λ y. Begins l s n w (dead_at y)) (sym (last_is (tokens_of h.before) h.left w k h.whole h.size)) (go h.left refl)
    where
      go : (left : List K) → h.left ≡ left → Begins l s n w (dead_at left)
      go [] f = stuck_judges l sound s e n w k d h [] f
      go (x ∷ r) f = (stuck_judges l sound s e n w k d h (x ∷ r) f, (λ v fits whole. none_before l sound s e n w k d h v fits (whole ∙ ap (λ y. tokens_of (yield_of s v) ++ y) (sym f))))
  by n w (stopped (failure.OverLimit k)) d h = subst (λ y. Begins l s n w (over_at y)) (sym (last_is (tokens_of h.before) (h.token ∷ h.after) w k h.whole h.size))
      (record { before = h.before; terminal = h.terminal; whole = h.whole; front = h.front; count = h.count; within = h.within; over = h.over })
  by n w (stopped failure.OutOfMemory) d h = absurd h

  -- The list begins as the reading says.
  pub begins : (n : S) (w : List K) → Begins l s n w (beginning w (read l s n w))
  begins n w = by n w (read l s n w) refl (explain l s e n w)

  -- ---- one way at most

  abbrev erased : Judged (Beginning (Tree K s) K S) K → Judged (Tree K s) K
  erased (tree b) = tree_at b.tree b.rest
  erased (dead x after) = dead x after
  erased short = short
  erased (over x after) = over x after

  begun_judges : (n : S) (w : List K) (v : Tree K s) (m : S) (r : List K) → IsBegun l s n w (record { tree = v; count = m; rest = r }) → Judges l s n w (tree_at v r)
  begun_judges n w v m [] h = record { whole = h.whole ∙ append-nil (tokens_of (yield_of s v)); fits = h.fits; count = m; within = h.within }
  begun_judges n w v m (x ∷ r) h = record { before = yield_of s v; whole = h.whole; front = front_whole l sound s v h.fits; count = m; within = h.within; dead = h.ends }

  judges_by : (n : S) (w : List K) (j : Judged (Beginning (Tree K s) K S) K) → Begins l s n w j → Judges l s n w (erased j)
  judges_by n w (tree b) h = begun_judges n w b.tree b.count b.rest h
  judges_by n w (dead x after) h = h.0
  judges_by n w short h = h
  judges_by n w (over x after) h = h

  abbrev Verdict : Type 0
  Verdict = Judged (Tree K s) K

  same_rest : (v u : Tree K s) (r q : List K) → ◌≡◌ {A = Verdict} (tree_at v r) (tree_at u q) → r ≡ q
  same_rest v u [] [] f = refl
  same_rest v u [] (y ∷ q) f = absurd (cc)
  same_rest v u (x ∷ r) [] f = absurd (cc)
  same_rest v u (x ∷ r) (y ∷ q) f =
      let g : ◌≡◌ {A = Verdict} (dead x r) (dead y q) = f in
      let first : x ≡ y = cc in
      let others : r ≡ q = cc in
      λ i. first i ∷ others i

  same_some : (m i : S) → Some m ≡ Some i → m ≡ i
  same_some m i f = cc

  one_begun : (n : S) (w : List K) (v u : Tree K s) (m i : S) (r q : List K) → IsBegun l s n w (record { tree = v; count = m; rest = r }) → IsBegun l s n w (record { tree = u; count = i; rest = q }) → r ≡ q
      → ◌≡◌ {A = Beginning (Tree K s) K S} (record { tree = v; count = m; rest = r }) (record { tree = u; count = i; rest = q })
  one_begun n w v u m i r q h k f =
      let c = cut_equal (tokens_of (yield_of s v)) r (tokens_of (yield_of s u)) q (sym h.whole ∙ k.whole) (ap length (sym f)) in
      let same : v ≡ u = one_tree l sound s e n (tokens_of (yield_of s v)) v u (record { whole = refl; fits = h.fits; count = m; within = h.within }) (record { whole = c.0; fits = k.fits; count = i; within = k.within }) in
      let counts : m ≡ i = same_some m i (sym h.within ∙ ap (λ x. counted l n (yield_of s x)) same ∙ k.within) in
      λ j. record { tree = same j; count = counts j; rest = f j }

  tree_no_dead : (n : S) (w : List K) (v : Tree K s) (m : S) (r : List K) (y : K) (q : List K) → IsBegun l s n w (record { tree = v; count = m; rest = r }) → Begins l s n w (dead y q) → ◌≡◌ {A = Verdict} (tree_at v r) (dead y q) → ⊥
  tree_no_dead n w v m [] y q h k f = cc
  tree_no_dead n w v m (x ∷ r) y q h k f =
      let g : ◌≡◌ {A = Verdict} (dead x r) (dead y q) = f in
      let first : x ≡ y = cc in
      let others : r ≡ q = cc in
      k.1 v h.fits (h.whole ∙ (λ i. tokens_of (yield_of s v) ++ (first i ∷ others i)))

  tree_no_short : (v : Tree K s) (r : List K) → ◌≡◌ {A = Verdict} (tree_at v r) short → ⊥
  tree_no_short v [] f = cc
  tree_no_short v (x ∷ r) f = cc

  tree_no_over : (v : Tree K s) (r : List K) (y : K) (q : List K) → ◌≡◌ {A = Verdict} (tree_at v r) (over y q) → ⊥
  tree_no_over v [] y q f = cc
  tree_no_over v (x ∷ r) y q f = cc

  abbrev Way : Type 0
  Way = Judged (Beginning (Tree K s) K S) K

  same_dead : (x y : K) (r q : List K) → ◌≡◌ {A = Verdict} (dead x r) (dead y q) → ◌≡◌ {A = Way} (dead x r) (dead y q)
  same_dead x y r q f = let first : x ≡ y = cc in let others : r ≡ q = cc in λ i. dead (first i) (others i)

  same_over : (x y : K) (r q : List K) → ◌≡◌ {A = Verdict} (over x r) (over y q) → ◌≡◌ {A = Way} (over x r) (over y q)
  same_over x y r q f = let first : x ≡ y = cc in let others : r ≡ q = cc in λ i. over (first i) (others i)

  same_way : (n : S) (w : List K) (a b : Way) → Begins l s n w a → Begins l s n w b → erased a ≡ erased b → a ≡ b
  same_way n w (tree b) (tree c) h k f = ap (λ x. tree x) (one_begun n w b.tree c.tree b.count c.count b.rest c.rest h k (same_rest b.tree c.tree b.rest c.rest f))
  same_way n w (tree b) (dead y q) h k f = absurd (tree_no_dead n w b.tree b.count b.rest y q h k f)
  same_way n w (tree b) short h k f = absurd (tree_no_short b.tree b.rest f)
  same_way n w (tree b) (over y q) h k f = absurd (tree_no_over b.tree b.rest y q f)
  same_way n w (dead x r) (tree c) h k f = absurd (tree_no_dead n w c.tree c.count c.rest x r k h (sym f))
  same_way n w (dead x r) (dead y q) h k f = same_dead x y r q f
  same_way n w (dead x r) short h k f = absurd (cc)
  same_way n w (dead x r) (over y q) h k f = absurd (cc)
  same_way n w short (tree c) h k f = absurd (tree_no_short c.tree c.rest (sym f))
  same_way n w short (dead y q) h k f = absurd (cc)
  same_way n w short short h k f = refl
  same_way n w short (over y q) h k f = absurd (cc)
  same_way n w (over x r) (tree c) h k f = absurd (tree_no_over c.tree c.rest x r (sym f))
  same_way n w (over x r) (dead y q) h k f = absurd (cc)
  same_way n w (over x r) short h k f = absurd (cc)
  same_way n w (over x r) (over y q) h k f = same_over x y r q f

  -- A list begins in one way at most.
  pub once : (n : S) (w : List K) (a b : Way) → Begins l s n w a → Begins l s n w b → a ≡ b
  once n w a b h k = same_way n w a b h k (single l sound s e n w (erased a) (erased b) (judges_by n w a h) (judges_by n w b k))
