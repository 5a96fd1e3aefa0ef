use Rattle.ec_resolve_parts.proofs.Loops.{kinds_step}
use Rattle.ec_resolve_parts.proofs.types.parameter_kinds.Goals as goal

pub loop-ty-preserved : goal.loop-ty-preserved
loop-ty-preserved c =
    kinds_step c.loop-ty.kinds c.push.new.self c.parameter_kind.result c.args.types.now c.loop-ty.ty-index c.ty-item.result c.loop-ty-test.true c.ty-item.is c.in_ok-push.ensures.ok c.parameter_kind.ensures c.loop-ty.invariant
