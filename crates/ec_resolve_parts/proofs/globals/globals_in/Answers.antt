use Rattle.std.proofs.Common.{◌∙◌, ◌+◌, ap, drop, map}
use Rattle.ec_ctypes.specs.views.Units.{top_view}
use Rattle.ec_resolving_defs.specs.Programs.{globals_in}
use Rattle.ec_resolve_parts.proofs.GlobalCounts.{one_counted}
use Rattle.ec_resolve_parts.proofs.globals.globals_in.Goals as goal

pub loop-top-preserved : goal.loop-top-preserved
loop-top-preserved c =
    let tops = c.args.tops.now in
    let i = c.loop-top.top-index in
    ap (λ n. n + globals_in (map top_view (drop (i + 1) tops))) c.in_ok-both.ensures
    ∙ one_counted tops i c.top-item.result c.loop-top.count c.globals_of-more.result (globals_in (map top_view tops)) c.loop-top-test.true c.top-item.is c.globals_of-more.ensures c.loop-top.invariant
