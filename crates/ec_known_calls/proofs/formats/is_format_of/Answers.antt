use Rattle.std.proofs.Common.{◌≡◌, ◌∙◌, suc, ◌-◌, ap, arith}
use Rattle.ec_known_calls.specs.Taking.{is_met}
use Rattle.ec_known_calls.proofs.formats.is_format_of.Goals as goal

pub loop-left-preserved : goal.loop-left-preserved
loop-left-preserved c =
    let more : c.loop-left.left ≡ suc (c.loop-left.left - 1) = omega arith in
    c.loop-left.invariant ∙ ap (λ n. is_met n c.loop-left.reading) more ∙ c.in-Next.ensures (c.loop-left.left - 1)
