use Rattle.std.proofs.Common.{◌+◌, drop}
use Rattle.ec_meaning_defs.specs.resolved.Programs.{global_bytes}
use Rattle.ec_interp.proofs.opening_lemmas.Making.{left_less, left_stops}
use Rattle.ec_interp.proofs.opening_lemmas.Putting.{item}
use Rattle.ec_interp.proofs.opening.opening.open_globals.Goals as goal

pub returns-in-Err-clause-opens : goal.returns-in-Err-clause-opens
returns-in-Err-clause-opens c =
    let all = c.args.globals.now in
    let i = c.loop-global.global-index in
    left_stops global_bytes all (drop i all) (drop (i + 1) all) c.global-item.result c.in-Err.why c.args.store.now c.loop-global.store c.open_global.new.store c.loop-global.invariant
    (item all i c.global-item.result c.loop-global-test.true c.global-item.is) c.in-Err.ensures.opens

pub loop-global-preserved : goal.loop-global-preserved
loop-global-preserved c =
    let all = c.args.globals.now in
    let i = c.loop-global.global-index in
    left_less global_bytes all (drop i all) (drop (i + 1) all) c.global-item.result c.args.store.now c.loop-global.store c.open_global.new.store c.loop-global.invariant
    (item all i c.global-item.result c.loop-global-test.true c.global-item.is) c.in-Ok.ensures.opens c.in-Ok.ensures.objects
