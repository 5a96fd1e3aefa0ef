-- What the plain reading answers is what the grammar has, and nothing else is.
use Rattle.std.proofs.Common.{◌≡◌, ◌≢◌, ℕ, zero, suc, ◌≤◌, Bool, true, false, List, [], ◌∷◌, ◌++◌, length, take, drop, Some, Result, Ok, Err, refl, ◌⊎◌, inl, inr, ap, sym, ◌∙◌, subst, arith, append_assoc, length-append}
use Rattle.std.specs.Prelude.{if◌then◌else◌}
use Rattle.std.proofs.lemmas.List.{append-nil, take-append-drop}
use Rattle.std.proofs.lemmas.Bool.{false≢true, eq-eqb, ne_eqb}
use Rattle.ec_base.specs.declared.fault.FaultKind.TheVariants.{F7}
use Rattle.ec_base.specs.declared.fault.LimitKind.TheVariants.{L3}
use Rattle.ec_base.specs.declared.stop.Stop.{Stop}
use Rattle.ec_base.specs.declared.stop.Stop.TheVariants.{Refused, Limit}
use Rattle.ec_ctypes.specs.trees.Tokens.{TokData, end_token, TokenData}
use Rattle.ec_ctypes.specs.trees.Units.{UnitData}
use Rattle.ec_language.specs.Productions.{Placed, is, end_of_text, placed, placed_from, section_behind, unit, sym as ofs}
use Rattle.ec_language.specs.Grammar.{PlacedTokens, Limits, no_counts, DerivesBelow, DerivesWithin, Derives, FrontBelow, FrontWithin}
use Rattle.ec_language.specs.Syntax.{AllFit, EndsOnce, TreeOrStop, dead, limits, too_deep, tree}
use Rattle.ec_language.proofs.TokenEnds.{whole_front}
use Rattle.ec_language.proofs.SyntaxAnswers.{stop_exact, tree_or_else}
use Rattle.ec_grammar.specs.declared.failure.Failure.TheVariants.{OutOfMemory, Dead, TooDeep}
use Rattle.ec_grammar.specs.Input.{State, state, Outcome}
use Rattle.ec_grammar.specs.ReadDeclarations.{nested}
use Rattle.ec_grammar.specs.ReadStatements.{nested_statements}
use Rattle.ec_grammar.specs.ReadUnit.{reading, line_at, answered, answer}
use Rattle.ec_grammar.proofs.exact_lemmas.Exact.{Parses, Stops, ElementOut}
use Rattle.ec_grammar.proofs.exact_lemmas.Levels.{inner_reads, deeper_reads}
use Rattle.ec_grammar.proofs.exact_lemmas.Units.{unit_reads}
use Rattle.ec_grammar.proofs.exact_lemmas.Fronts.{shorter_front}

reading_out : (w : PlacedTokens) → ElementOut limits limits.nesting no_counts (ofs unit) (λ v. v) w (reading w)
unfolding reading
reading_out w = (unit_reads limits limits.nesting (nested limits limits.nesting) (nested_statements limits limits.nesting) (inner_reads limits limits.nesting) (deeper_reads limits limits.nesting) (state w no_counts)).out

-- ---- the end

-- The last token is the end, and no other is.
abbrev Ends : PlacedTokens → Type 0
Ends [] = ⊥
Ends (t ∷ []) = t.token.tok ≡ end_token
Ends (t ∷ z ∷ w) = (t.token.tok ≢ end_token) × Ends (z ∷ w)

placed_ends : (section : Bool) (ts : List TokenData) → EndsOnce ts → Ends (placed_from section ts)
placed_ends section [] e = e
placed_ends section (t ∷ []) e = e
placed_ends section (t ∷ z ∷ ts) e = (e.0, placed_ends (section_behind section t.tok) (z ∷ ts) e.1)

ends_here : (part : PlacedTokens) (t : Placed) (rest : PlacedTokens) → Ends (part ++ t ∷ rest) → t.token.tok ≡ end_token → rest ≡ []
ends_here [] t [] e h = refl
ends_here [] t (z ∷ rest) e h = absurd (e.0 h)
ends_here (y ∷ []) t rest e h = ends_here [] t rest e.1 h
ends_here (y ∷ z ∷ part) t rest e h = ends_here (z ∷ part) t rest e.1 h

is_end : (tok : TokData) → is end_of_text tok ≡ true → tok ≡ end_token
is_end end_token e = refl
is_end _ e = absurd (false≢true e)

-- A list of a program is one of items, and the end.
unit_list : (n levels : ℕ) (w : PlacedTokens) (v : UnitData) (b : _) → DerivesBelow limits n levels no_counts unit w v b → (part : PlacedTokens) × (t : Placed) × (w ≡ part ++ t ∷ []) × (t.token.tok ≡ end_token)
unit_list zero levels w v b d = absurd d
unit_list (suc n) levels w v b (inl m) =
    let h = m.2 in
    let l = h.5 in
    (h.0, m.0.1.0, (h.2 ∙ ap (λ q. h.0 ++ q) (l.2 ∙ ap (λ q. q ++ l.1) l.4.0 ∙ ap (λ q. m.0.1.0 ∷ q) l.5.0)), is_end m.0.1.0.token.tok l.4.1)
unit_list (suc n) levels w v b (inr m) = absurd m

-- ---- the tree

no_more : (w : PlacedTokens) (v : UnitData) (left : State) → Ends w → Parses limits limits.nesting no_counts (ofs unit) w v left → left.tokens ≡ []
no_more w v left e a =
    let l = unit_list a.derives.0 limits.nesting a.part v left.counts a.derives.1 in
    let s : w ≡ l.0 ++ l.1 ∷ left.tokens = a.split ∙ ap (λ q. q ++ left.tokens) l.2 ∙ append_assoc l.0 (l.1 ∷ []) left.tokens in
    ends_here l.0 l.1 left.tokens (subst Ends s e) l.3

whole_tree : (w : PlacedTokens) (v : UnitData) (left : State) → Ends w → Parses limits limits.nesting no_counts (ofs unit) w v left → DerivesWithin limits unit w v
whole_tree w v left e a =
    let s : w ≡ a.part = a.split ∙ ap (λ q. a.part ++ q) (no_more w v left e a) ∙ append-nil a.part in
    (a.derives.0, left.counts, subst (λ q. DerivesBelow limits a.derives.0 limits.nesting no_counts unit q v left.counts) (sym s) a.derives.1)

one_tree : (w : PlacedTokens) (v z : UnitData) (left : State) → Parses limits limits.nesting no_counts (ofs unit) w v left → DerivesWithin limits unit w z → z ≡ v
one_tree w v z left a d = go (a.only limits d.0 limits.nesting w [] z d.1 (sym (append-nil w)) d.2)
  where
    go : (([] ≡ left.tokens) × (z ≡ v) × (d.1 ≡ left.counts)) ⊎ (false ≡ true) → z ≡ v
    go (inl h) = h.1
    go (inr h) = absurd (false≢true h)

-- ---- the stops

abbrev Begun : ℕ → PlacedTokens → Type 0
Begun n u = FrontBelow limits n limits.nesting no_counts unit u

all_fit : (part : PlacedTokens) → FrontWithin limits unit part → AllFit part
all_fit part h n le = shorter_front limits h.0 limits.nesting no_counts unit (take n part) (drop n part) (subst (Begun h.0) (sym (take-append-drop n part)) h.1)

line_found : (part : PlacedTokens) (t : Placed) (rest : PlacedTokens) → line_at (part ++ t ∷ rest) (length (t ∷ rest)) ≡ t.token.line
line_found [] t rest = ap (λ b. if b then t.token.line else line_at rest (length (t ∷ rest))) (eq-eqb (length (t ∷ rest)) (length (t ∷ rest)) refl)
line_found (z ∷ part) t rest =
    ap (λ b. if b then z.token.line else line_at (part ++ t ∷ rest) (length (t ∷ rest))) (ne_eqb (length (z ∷ (part ++ t ∷ rest))) (length (t ∷ rest)) (λ e. omega (arith, e, length-append part (t ∷ rest))))
    ∙ line_found part t rest

nothing_dies : (ts : List TokenData) (n : ℕ) → EndsOnce ts → Stops true limits limits.nesting no_counts (ofs unit) (placed ts) n → FrontWithin limits unit (placed ts) → ⊥
nothing_dies ts n e a h =
    let d = whole_front limits ts e h in
    let x : false ≡ true = a.only limits d.1.0 limits.nesting tt (placed ts) [] d.0 d.1.1 (sym (append-nil (placed ts))) d.1.2 in
    false≢true x

reach : (t : Placed) (part rest : PlacedTokens) (w : PlacedTokens) → w ≡ part ++ t ∷ rest → w ≡ (part ++ t ∷ []) ++ rest
reach t part rest w e = e ∙ sym (append_assoc part (t ∷ []) rest)

dead_stop : (ts : List TokenData) (n : ℕ) → EndsOnce ts → Stops true limits limits.nesting no_counts (ofs unit) (placed ts) n → TreeOrStop ts (Err (Refused F7 (line_at (placed ts) n)))
dead_stop ts n e a = go a.rest a.split a.left
  where
    w : PlacedTokens
    w = placed ts

    go : (rest : PlacedTokens) → w ≡ a.part ++ rest → length rest ≡ n → TreeOrStop ts (Err (Refused F7 (line_at w n)))
    go [] s l = absurd (nothing_dies ts n e a (a.front.0, subst (Begun a.front.0) (sym (s ∙ append-nil a.part)) a.front.1))
    go (t ∷ rest) s l =
        subst (λ y. TreeOrStop ts (Err (Refused F7 y))) (sym (ap (λ m. line_at w m) (sym l) ∙ ap (λ q. line_at q (length (t ∷ rest))) s ∙ line_found a.part t rest))
        (dead t (record {
          before = a.part;
          after = rest;
          whole = s;
          fit = all_fit a.part a.front;
          dead = λ h. let b : n ≤ length rest = a.bound h.0 h.1.0 h.0.nesting tt (a.part ++ t ∷ []) rest (reach t a.part rest w s) h.1.1 in omega (arith, b, l);
        }))

deep_stop : (ts : List TokenData) (n : ℕ) → Stops false limits limits.nesting no_counts (ofs unit) (placed ts) n → TreeOrStop ts (Err (Limit L3))
deep_stop ts n a =
    let w = placed ts in
    let t : Placed = a.goes.0 in
    let rest : PlacedTokens = a.goes.1 in
    let s : w ≡ a.part ++ t ∷ rest = a.split ∙ ap (λ q. a.part ++ q) a.goes.2 in
    let u : PlacedTokens = a.part ++ t ∷ [] in
    let m : ℕ = a.goes.3.0 in
    let to : Limits = record { nesting = m; operations = length u; derivations = length u } in
    let o = a.goes.3.1 to m (omega arith) (omega arith, omega arith) in
    too_deep t (record {
      before = a.part;
      after = rest;
      whole = s;
      fit = all_fit a.part a.front;
      goes_on = (to, (o.0, o.1));
      passed = λ h. let b : n ≤ length rest = a.bound limits h.0 limits.nesting (refl, refl) u rest (reach t a.part rest w s) h.1 in omega (arith, b, a.left, ap length a.goes.2);
    })

-- ---- the answer

pub exact_answer : (ts : List TokenData) → EndsOnce ts → TreeOrStop ts (answer ts)
exact_answer ts e = go (reading (placed ts)) (reading_out (placed ts))
  where
    go : (o : Outcome UnitData) → ElementOut limits limits.nesting no_counts (ofs unit) (λ v. v) (placed ts) o → TreeOrStop ts (answered (placed ts) o)
    go (Ok p) x = subst (λ v. TreeOrStop ts (Ok v)) (sym x.1) (tree x.0 (whole_tree (placed ts) x.0 p.1 (placed_ends false ts e) x.2))
    go (Err (Dead n)) x = dead_stop ts n e x
    go (Err (TooDeep n)) x = deep_stop ts n x
    go (Err OutOfMemory) x = absurd x

-- a list has one stop at most
one_stop : (ts : List TokenData) (a b : Stop) → TreeOrStop ts (Err a) → TreeOrStop ts (Err b) → a ≡ b
one_stop ts a b x y = let e : Some a ≡ Some b = sym ((stop_exact ts a).0 x) ∙ (stop_exact ts b).0 y in cc

pub only_answer : (ts : List TokenData) (a : Result UnitData Stop) → EndsOnce ts → TreeOrStop ts a → a ≡ answer ts
only_answer ts a e x = go a x (reading (placed ts)) (reading_out (placed ts)) (exact_answer ts e)
  where
    go : (a : Result UnitData Stop) → TreeOrStop ts a → (o : Outcome UnitData) → ElementOut limits limits.nesting no_counts (ofs unit) (λ v. v) (placed ts) o → TreeOrStop ts (answered (placed ts) o) → a ≡ answered (placed ts) o
    go (Ok u) x (Ok p) y z = ap (λ v. Ok v) (derived u x ∙ sym y.1)
      where
        derived : (u : UnitData) → TreeOrStop ts (Ok u) → u ≡ y.0
        derived u (tree v d) = one_tree (placed ts) y.0 v p.1 y.2 d
    go (Ok u) x (Err f) y z = absurd (tree_or_else ts u _ x z)
    go (Err s) x (Ok p) y z = absurd (tree_or_else ts p.0 s z x)
    go (Err s) x (Err f) y z = ap (λ v. Err v) (one_stop ts s _ x z)

-- What is derived within any limits is the answer, or a limit is passed: no token of it is dead, and it has no other tree.
pub derived_answer : (ts : List TokenData) (u : UnitData) → Derives unit (placed ts) u → (answer ts ≡ Ok u) ⊎ (answer ts ≡ Err (Limit L3))
derived_answer ts u d = go (reading (placed ts)) (reading_out (placed ts))
  where
    w : PlacedTokens
    w = placed ts

    here : w ≡ w ++ []
    here = sym (append-nil w)

    go : (o : Outcome UnitData) → ElementOut limits limits.nesting no_counts (ofs unit) (λ v. v) w o → (answered w o ≡ Ok u) ⊎ (answered w o ≡ Err (Limit L3))
    go (Ok p) x = inl (ap (λ v. Ok v) (x.1 ∙ sym (only (x.2.only d.0 d.1.0 d.0.nesting w [] u d.1.1 here d.1.2))))
      where
        only : (([] ≡ p.1.tokens) × (u ≡ x.0) × (d.1.1 ≡ p.1.counts)) ⊎ (false ≡ true) → u ≡ x.0
        only (inl h) = h.1
        only (inr h) = absurd (false≢true h)
    go (Err (Dead n)) x = absurd (let h : false ≡ true = x.only d.0 d.1.0 d.0.nesting tt w [] u d.1.1 here d.1.2 in false≢true h)
    go (Err (TooDeep n)) x = inr refl
    go (Err OutOfMemory) x = absurd x
