-- The number from before, and the sum.
use Rattle.std.proofs.Common.{◌≡◌, ◌∙◌, ◌+ℤ◌, ◌≤ℤ◌, ◌^◌, ◌-◌, ℤ, pos, negsuc, rules, subst, sym, arith}
use Rattle.std.specs.Prelude.{if◌then◌else◌}
use Rattle.std.specs.Int.{w32, w64}
use mir.Val.{SFits, of_z, to_z}
use Rattle.std.proofs.lemmas.Int.{ints, to_z-of_z}
use Rattle.ec_memory.specs.Sums.{Adds}
use Rattle.ec_plain.specs.Numbers.{Changes}
use Rattle.ec_plain.proofs.Sums.{sum_changes}
use Rattle.ec_plain.proofs.effect.added.Goals as goal

-- what int has long has
fits : (z : ℤ) → negsuc (2 ^ 31 - 1) ≤ℤ z → z ≤ℤ pos (2 ^ 31 - 1) → SFits w64 z
fits z low high = omega (arith, ints)

pub returns-in-Some-clause-some : goal.returns-in-Some-clause-some
returns-in-Some-clause-some c =
    let g = c.ranges.by in
    let f : SFits w32 c.in-Some.before = search rules in
    let back : to_z w64 (of_z w64 c.args.by) ≡ c.args.by = search rules in
    let S : ℤ → Type 0 = λ y. Adds c.args.store.now c.args.to.0 c.in-Some.before y c.add_int_near.new.self in
    let a : Adds c.args.store.now c.args.to.0 c.in-Some.before c.args.by c.add_int_near.new.self = subst S back c.in-Some.ensures.sum in
    let u = c.adds_ints.ensures c.if-adds_ints.true in
    let h : SFits w64 c.given.result = search rules in
    let given : to_z w64 (of_z w64 c.given.result) ≡ c.given.result = search rules in
    let first : to_z w64 (of_z w64 (to_z w32 (of_z w32 c.in-Some.before))) ≡ c.in-Some.before = search rules in
    let sum : SFits w64 (c.in-Some.before +ℤ c.args.by) = fits (c.in-Some.before +ℤ c.args.by) a.fits.0 a.fits.1 in
    let second : to_z w64 (of_z w64 (c.in-Some.before +ℤ c.args.by)) ≡ c.in-Some.before +ℤ c.args.by = to_z-of_z w64 (c.in-Some.before +ℤ c.args.by) sum in
    let is : c.given.result ≡ (if c.args.update.now.gives_old then c.in-Some.before else c.in-Some.before +ℤ c.args.by) = simp (first, back, second) at c.given.ensures in
    let P : ℤ → Type 0 = λ z. Changes c.args.update.now c.args.to.0 c.args.by c.args.store.now c.add_int_near.new.self z in
    subst P (sym (given ∙ is)) (sum_changes c.args.update.now c.args.to.0 c.in-Some.before c.args.by c.args.store.now c.add_int_near.new.self u.of_int u.as_int u.adds (omega (arith, ints, f)) (omega (arith, ints, f)) a.fits.0 a.fits.1 a.found a.stored)
