use Rattle.std.proofs.Common.{◌∙◌, sym, arith}
use Rattle.ec_clex.proofs.Units.{UnitAt, executable_on, executable_here}
use Rattle.ec_clex.proofs.statements.is_executable.Goals as goal

pub returns-then-not-begins_gap : goal.returns-then-not-begins_gap
returns-then-not-begins_gap c =
    let h = c.in-Passed.ensures in
    let u : UnitAt c.args.text.now c.loop-at.at c.in-Passed.end = record { more = sym c.byte_at.ensures ∙ c.if-not-byte_at.true; behind = h.is; order = omega (arith, h.within); within = h.within.1 } in
    executable_here c.args.text.now c.loop-at.at c.in-Passed.end c.is_directive.result u (sym c.begins_gap.ensures ∙ c.if-not-begins_gap.true) c.is_directive.ensures ∙ c.loop-at.invariant.same

pub loop-at-preserved : goal.loop-at-preserved
loop-at-preserved c =
    let h = c.in-Passed.ensures in
    let u : UnitAt c.args.text.now c.loop-at.at c.in-Passed.end = record { more = sym c.byte_at.ensures ∙ c.if-not-byte_at.true; behind = h.is; order = omega (arith, h.within); within = h.within.1 } in record {
      same = executable_on c.args.text.now c.loop-at.at c.in-Passed.end u (sym c.begins_gap.ensures ∙ c.if-not-begins_gap.false) ∙ c.loop-at.invariant.same;
      inside = h.within.1;
    }
