use Rattle.ec_resolve.proofs.Whole.{called_by, walked_by}
use Rattle.ec_resolve.proofs.programs.walked.Goals as goal

pub returns-clause-program : goal.returns-clause-program
returns-clause-program c =
    walked_by c.into_resolved.result c.args.written c.args.unit.now c.in_ok-resolver.resolver c.tops_rule.new.resolver c.as_slice.result.now c.as_slice.ensures c.requires
    c.in_ok-resolver.ensures.storage c.in_ok-resolver.ensures.world c.in_ok-tops_rule.ensures c.into_resolved.ensures.program

pub returns-clause-calls : goal.returns-clause-calls
returns-clause-calls c =
    called_by c.into_resolved.result c.args.written c.args.unit.now c.in_ok-resolver.resolver c.tops_rule.new.resolver c.as_slice.result.now c.as_slice.ensures c.requires
    c.in_ok-resolver.ensures.storage c.in_ok-resolver.ensures.world c.in_ok-tops_rule.ensures c.into_resolved.ensures.calls
