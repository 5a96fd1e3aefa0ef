use Rattle.std.proofs.Common.{◌∙◌, sym, drop, arith}
use Rattle.ec_language.proofs.ReadSteps.{include_on}
use Rattle.ec_clex.proofs.lines.include_end.Goals as goal

pub loop-at-preserved : goal.loop-at-preserved
loop-at-preserved c =
    let t = c.args.text.now in
    let within = c.in-Passed.ensures.within in record {
      same = sym (include_on (drop c.loop-at.at t) (drop c.in-Passed.end t) (sym c.ends_include.ensures ∙ c.loop-at-test.true) (sym c.in-Passed.ensures.is)) ∙ c.loop-at.invariant.same;
      order = omega (arith, within);
      inside = within.1;
    }
