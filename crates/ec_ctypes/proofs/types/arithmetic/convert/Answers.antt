-- What `convert` returns is what the definition says, and so follows the rule.
use Rattle.std.proofs.Common.{rules, arith, ap, ◌≡◌, ◌<ℤ◌, ◌^◌, ◌*◌, ◌%◌, ℕ, pos, to_z}
use Rattle.std.specs.Int.{w128}
use Rattle.std.proofs.lemmas.Int.{ints, to_z-of_z}
use Rattle.ec_ctypes.specs.Arithmetic.{width, wrapped_unsigned}
use Rattle.ec_ctypes.proofs.Conversions.{as_rule, lowered, modulus_small}
use Rattle.ec_ctypes.proofs.types.arithmetic.convert.Goals as goal

pub returns-then-eq-clause-rule : goal.returns-then-eq-clause-rule
returns-then-eq-clause-rule c = as_rule _ _ _ (search rules)

pub returns-then-remainder-greatest-clause-value :
    goal.returns-then-remainder-greatest-clause-value
returns-then-remainder-greatest-clause-value c =
    let power = ap (λ (w : ℕ). 2 ^ w) c.width.ensures in
    let small = modulus_small c.args.to in
    let modulus : to_z w128 (1 * 2 ^ c.width.result % 2 ^ 128) ≡ pos (2 ^ width c.args.to) = omega (arith, ints) in
    let rest : c.rem_euclid-remainder.result ≡ wrapped_unsigned (width c.args.to) c.args.value = rw (← modulus, ← to_z-of_z w128 c.args.value c.ranges.value) c.rem_euclid-remainder.ensures.value in
    let found : c.greatest.result <ℤ c.rem_euclid-remainder.result = omega (arith, ints) in
    let above = rw (c.greatest.ensures, rest) at found in
    let low = lowered c.args.to c.args.value (search rules) above in
    omega (arith, ints)

pub returns-then-remainder-greatest-clause-rule : goal.returns-then-remainder-greatest-clause-rule
returns-then-remainder-greatest-clause-rule c = as_rule _ _ _ (returns-then-remainder-greatest-clause-value c)

pub returns-else-remainder-greatest-clause-rule : goal.returns-else-remainder-greatest-clause-rule
returns-else-remainder-greatest-clause-rule c = as_rule _ _ _ (search rules)
