use Rattle.std.proofs.Common.{◌+◌, drop}
use Rattle.ec_meaning_defs.specs.resolved.Programs.{literal_bytes}
use Rattle.ec_interp.proofs.opening_lemmas.Making.{left_less, left_stops}
use Rattle.ec_interp.proofs.opening_lemmas.Putting.{item}
use Rattle.ec_interp.proofs.opening.opening.open_literals.Goals as goal

pub returns-in-Err-clause-opens : goal.returns-in-Err-clause-opens
returns-in-Err-clause-opens c =
    let all = c.args.literals.now in
    let i = c.loop-literal.literal-index in
    left_stops literal_bytes all (drop i all) (drop (i + 1) all) c.literal-item.result c.in-Err.why c.args.store.now c.loop-literal.store c.open_literal.new.store c.loop-literal.invariant
    (item all i c.literal-item.result c.loop-literal-test.true c.literal-item.is) c.in-Err.ensures.opens

pub loop-literal-preserved : goal.loop-literal-preserved
loop-literal-preserved c =
    let all = c.args.literals.now in
    let i = c.loop-literal.literal-index in
    left_less literal_bytes all (drop i all) (drop (i + 1) all) c.literal-item.result c.args.store.now c.loop-literal.store c.open_literal.new.store c.loop-literal.invariant
    (item all i c.literal-item.result c.loop-literal-test.true c.literal-item.is) c.in-Ok.ensures.opens c.in-Ok.ensures.objects
