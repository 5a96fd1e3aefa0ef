-- How many stars there are: no more than are counted, so that their number is small.
use Rattle.std.proofs.Common.{◌≡◌, ℕ, zero, suc, ◌≤◌, Bool, true, false, nat_le, [], ◌∷◌, length, Ok, Err, refl, subst, ap, arith, if◌then◌else◌}
use Rattle.std.proofs.lemmas.Bool.Decides.{nat_tests}
use Rattle.ec_language.specs.Productions.{Placed, derivations}
use Rattle.ec_language.specs.Grammar.{PlacedTokens, Counts, behind_counted}
use Rattle.ec_language.specs.Syntax.{limits}
use Rattle.ec_grammar.specs.declared.failure.Failure.TheVariants.{Dead, TooDeep}
use Rattle.ec_grammar.specs.declared.kind.Kind.{Kind}
use Rattle.ec_grammar.specs.declared.kind.Kind.TheVariants as k
use Rattle.ec_grammar.specs.Input.{State, state, Outcome, and_then, ◌>>◌, pure, expect, expect_counted}
use Rattle.ec_grammar.specs.Kinds.{kind_of, same_kind}
use Rattle.ec_grammar.specs.Starts.{is_const}
use Rattle.ec_grammar.specs.ReadDeclarations.{constants_from, constants}

-- ---- `const` is not counted

abbrev Keeps : {A : Type 0} → Counts → Outcome A → Type 0
Keeps c (Ok p) = p.1.counts ≡ c
Keeps c (Err e) = Unit {0}

by_token : (d : Bool) (m : ℕ) (t : Placed) (w : PlacedTokens) (c : Counts) → Keeps c (constants_from m (state w c))
    → Keeps c (and_then (if d then Ok (t, state w c) else Err (Dead (length (t ∷ w)))) (λ _. constants_from m))
by_token true m t w c rest = rest
by_token false m t w c rest = tt

by_const : (b : Bool) (m : ℕ) (t : Placed) (w : PlacedTokens) (c : Counts) → Keeps c (constants_from m (state w c))
    → Keeps c ((if b then (expect k.Const >> constants_from m) else pure tt) (state (t ∷ w) c))
unfolding expect
by_const true m t w c rest = by_token (same_kind (kind_of t.token.tok) k.Const) m t w c rest
by_const false m t w c rest = refl

keeps_from : (m : ℕ) (w : PlacedTokens) (c : Counts) → Keeps c (constants_from m (state w c))
unfolding constants_from
keeps_from zero w c = refl
keeps_from (suc m) [] c = refl
keeps_from (suc m) (t ∷ w) c = by_const (is_const (kind_of t.token.tok)) m t w c (keeps_from m w c)

keeps : (i : State) → Keeps i.counts (constants i)
unfolding constants
keeps i = keeps_from (length i.tokens) i.tokens i.counts

pub same_counts : (i j : State) (u : Unit {0}) → constants i ≡ Ok (u, j) → j.counts ≡ i.counts
same_counts i j u e = let P : Outcome (Unit {0}) → Type 0 = λ o. Keeps i.counts o in subst P e (keeps i)

-- ---- a star is counted, and there are no more than 64

abbrev OneMore : {A : Type 0} → ℕ → Outcome A → Type 0
OneMore n (Ok p) = (p.1.counts.derivations ≡ suc n) × (p.1.counts.derivations ≤ 64)
OneMore n (Err e) = Unit {0}

by_limit : (n : ℕ) (c : Counts) (b : Bool) → nat_le (suc c.derivations) 64 ≡ b → c.derivations ≡ n → (t : Placed) (v w : PlacedTokens)
    → OneMore n (if b then Ok (t, state w (behind_counted derivations c)) else Err (TooDeep (length v)))
by_limit n c true le is t v w = (ap suc is, grind (arith, nat_tests))
by_limit n c false le is t v w = tt

expect_keeps : (d : Bool) (t : Placed) (w : PlacedTokens) (c : Counts) → Keeps c (if d then Ok (t, state w c) else Err (Dead (length (t ∷ w))))
expect_keeps true t w c = refl
expect_keeps false t w c = tt

token_keeps : (k : Kind) (w : PlacedTokens) (c : Counts) → Keeps c (expect k (state w c))
unfolding expect
token_keeps k [] c = tt
token_keeps k (t ∷ w) c = expect_keeps (same_kind (kind_of t.token.tok) k) t w c

one_more_at : (k : Kind) (i : State) (o : Outcome Placed) → expect k i ≡ o → Keeps i.counts o → OneMore i.counts.derivations (expect_counted limits derivations k i)
unfolding expect_counted
one_more_at k i (Ok p) read same = rw read (by_limit i.counts.derivations p.1.counts _ refl (ap (λ c. c.derivations) same) p.0 i.tokens p.1.tokens)
one_more_at k i (Err e) read same = rw read tt

one_more_star : (k : Kind) (i : State) → OneMore i.counts.derivations (expect_counted limits derivations k i)
one_more_star k i = one_more_at k i _ refl (token_keeps k i.tokens i.counts)

pub record CountsStar (i j : State) : Type 0 where
  pub more : j.counts.derivations ≡ suc i.counts.derivations
  pub few : j.counts.derivations ≤ 64

pub star_counted : (k : Kind) (i j : State) (t : Placed) → expect_counted limits derivations k i ≡ Ok (t, j) → CountsStar i j
star_counted k i j t e =
    let P : Outcome Placed → Type 0 = λ o. OneMore i.counts.derivations o in
    let h = subst P e (one_more_star k i) in
    record { more = h.0; few = h.1 }
