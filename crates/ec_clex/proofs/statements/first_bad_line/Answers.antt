use Rattle.std.proofs.Common.{◌-◌, ◌∙◌, sym, drop, arith}
use Rattle.std.proofs.lemmas.List.{length-take}
use Rattle.ec_clex.proofs.Units.{UnitAt, bad_here, bad_on}
use Rattle.ec_clex.proofs.statements.first_bad_line.Goals as goal

pub returns-then-is_bad_unit : goal.returns-then-is_bad_unit
returns-then-is_bad_unit c =
    let h = c.in-Passed.ensures in
    let u : UnitAt c.args.text.now c.loop-at.at c.in-Passed.end = record { more = sym c.byte_at.ensures ∙ c.if-not-byte_at.true; behind = h.is; order = omega (arith, h.within); within = h.within.1 } in
    record { is = bad_here c.args.text.now c.loop-at.at c.in-Passed.end c.loop-at.now u (sym c.is_bad_unit.ensures ∙ c.if-is_bad_unit.true) ∙ c.loop-at.invariant.same }

pub loop-at-preserved : goal.loop-at-preserved
loop-at-preserved c =
    let h = c.in-Passed.ensures in
    let u : UnitAt c.args.text.now c.loop-at.at c.in-Passed.end = record { more = sym c.byte_at.ensures ∙ c.if-not-byte_at.true; behind = h.is; order = omega (arith, h.within); within = h.within.1 } in record {
      same = bad_on c.args.text.now c.loop-at.at c.in-Passed.end c.loop-at.now c.newlines.result u (sym c.is_bad_unit.ensures ∙ c.if-is_bad_unit.false) c.newlines.ensures.is ∙ c.loop-at.invariant.same;
      inside = h.within.1;
      fits = omega (arith, h.within, c.newlines.ensures.most, length-take (c.in-Passed.end - c.loop-at.at) (drop c.loop-at.at c.args.text.now));
    }
