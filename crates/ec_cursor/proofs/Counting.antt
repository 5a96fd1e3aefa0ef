-- A token that is counted.
use Rattle.std.proofs.Common.{◌≡◌, Bool, true, false, Option, Some, None, Ok, Err, length, if◌then◌else◌}
use Rattle.ec_language.specs.Productions.{Placed, Counted}
use Rattle.ec_language.specs.Grammar.{PlacedTokens, Counts, behind_counted, is_within}
use Rattle.ec_language.specs.Syntax.{limits}
use Rattle.ec_grammar.specs.declared.failure.Failure.TheVariants.{TooDeep}
use Rattle.ec_grammar.specs.declared.kind.Kind.{Kind}
use Rattle.ec_grammar.specs.Input.{State, state, Outcome, expect, expect_counted}
use Rattle.ec_cursor.specs.States.{counted_within}

-- what is left of the tokens and of the counts by a test of the limit
abbrev within : Bool → Placed → State → PlacedTokens → Outcome Placed
within b t i w = if b then Ok (t, i) else Err (TooDeep (length w))

abbrev more_if : Bool → Counts → Option Counts
more_if b c = if b then Some c else None

told : (b : Bool) (t : Placed) (v w : PlacedTokens) (now behind : Counts) → Some behind ≡ more_if b now → within b t (state w now) v ≡ Ok (t, state w behind)
told true t v w now behind e = cc
told false t v w now behind e = cc

passed : (b : Bool) (t : Placed) (v w : PlacedTokens) (now : Counts) → None ≡ more_if b now → within b t (state w now) v ≡ Err (TooDeep (length v))
passed true t v w now e = cc
passed false t v w now e = cc

pub counted_token : (n : Counted) (k : Kind) (i : State) (t : Placed) (w : PlacedTokens) (before behind : Counts)
    → expect k i ≡ Ok (t, state w before) → Some behind ≡ counted_within n before → expect_counted limits n k i ≡ Ok (t, state w behind)
unfolding expect_counted
counted_token n k i t w before behind read one = rw read (told (is_within limits n (behind_counted n before)) t i.tokens w (behind_counted n before) behind one)

pub passed_token : (n : Counted) (k : Kind) (i : State) (t : Placed) (w : PlacedTokens) (before : Counts)
    → expect k i ≡ Ok (t, state w before) → None ≡ counted_within n before → expect_counted limits n k i ≡ Err (TooDeep (length i.tokens))
unfolding expect_counted
passed_token n k i t w before read none = rw read (passed (is_within limits n (behind_counted n before)) t i.tokens w (behind_counted n before) none)
