use Rattle.std.proofs.Common.{◌≡◌, ◌∙◌, suc, ◌-◌, map, option_map, ap, sym, arith}
use Rattle.ec_meaning_defs.specs.functions.Formats as of
use Rattle.ec_printf.specs.formats.Known.{part_view}
use Rattle.ec_printf.specs.Gathering.{gathered}
use Rattle.ec_printf.proofs.Joining.{ok_as}
use Rattle.ec_printf.proofs.parts.format_parts.Goals as goal

pub returns-in-Ends : goal.returns-in-Ends
returns-in-Ends c =
    let more : c.loop-left.left ≡ suc (c.loop-left.left - 1) = omega arith in
    ok_as c.finished.result (option_map (map part_view)) (sym (c.loop-left.invariant ∙ ap (λ n. option_map (gathered c.loop-left.all) (of.parts_within n c.loop-left.rest.now)) more
    ∙ (rw c.in-Ends.is at c.in_ok-pass.ensures) (c.loop-left.left - 1))) c.finished.ensures

pub returns-in-Fails : goal.returns-in-Fails
returns-in-Fails c =
    let more : c.loop-left.left ≡ suc (c.loop-left.left - 1) = omega arith in
    sym (c.loop-left.invariant ∙ ap (λ n. option_map (gathered c.loop-left.all) (of.parts_within n c.loop-left.rest.now)) more
    ∙ (rw c.in-Fails.is at c.in_ok-pass.ensures) (c.loop-left.left - 1))

pub loop-left-preserved : goal.loop-left-preserved
loop-left-preserved c =
    let more : c.loop-left.left ≡ suc (c.loop-left.left - 1) = omega arith in
    c.loop-left.invariant ∙ ap (λ n. option_map (gathered c.loop-left.all) (of.parts_within n c.loop-left.rest.now)) more
    ∙ (rw c.in-Next.is at c.in_ok-pass.ensures) (c.loop-left.left - 1)
