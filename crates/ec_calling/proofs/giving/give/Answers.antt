use Rattle.std.proofs.lemmas.List.{drop_all}
use Rattle.ec_calling.proofs.Evaluating.{drop_item, goes_on, halts, all_kept, next_still, none_kept, none_still, still}
use Rattle.ec_calling.proofs.giving.give.Goals as goal

pub returns-in-Err : goal.returns-in-Err
returns-in-Err c =
    halts c.args.scope.now (still c.args.values.now c.args.arguments.now) c.args.store.now c.loop-argument.store c.one.new.store c.loop-argument.given c.loop-argument.kept _ _ _ c.in-Err.stop
    (next_still _ _ _ _ _ _ (drop_item c.args.arguments.now c.loop-argument.argument-index c.argument-item.result c.loop-argument-test.true c.argument-item.is) c.value_of-value.ensures) c.in-Err.ensures c.loop-argument.invariant

pub loop-argument-preserved : goal.loop-argument-preserved
loop-argument-preserved c =
    goes_on c.args.scope.now (still c.args.values.now c.args.arguments.now) c.args.store.now c.loop-argument.store c.one.new.store c.loop-argument.given c.keep-kept.new.given c.loop-argument.kept c.keep-kept.result _ _ _ c.in-Ok.found
    (next_still _ _ _ _ _ _ (drop_item c.args.arguments.now c.loop-argument.argument-index c.argument-item.result c.loop-argument-test.true c.argument-item.is) c.value_of-value.ensures) c.in-Ok.ensures c.keep-kept.ensures.before c.keep-kept.ensures.behind c.loop-argument.invariant

pub returns-then-kept : goal.returns-then-kept
returns-then-kept c =
    all_kept c.args.scope.now (still c.args.values.now c.args.arguments.now) c.args.store.now c.loop-argument.store c.loop-argument.given c.loop-argument.kept _
    (none_still _ _ (drop_all c.loop-argument.argument-index c.args.arguments.now c.loop-argument-test.false)) c.if-kept.true c.loop-argument.invariant

pub returns : goal.returns
returns c =
    none_kept c.args.scope.now (still c.args.values.now c.args.arguments.now) c.args.store.now c.loop-argument.store c.loop-argument.given c.loop-argument.kept _
    (none_still _ _ (drop_all c.loop-argument.argument-index c.args.arguments.now c.loop-argument-test.false)) c.loop-argument.invariant
