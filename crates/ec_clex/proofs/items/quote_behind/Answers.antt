use Rattle.std.proofs.Common.{◌+◌, get_or, arith}
use Rattle.ec_clex.proofs.ItemSteps.{quote_longer}
use Rattle.ec_clex.proofs.items.quote_behind.Goals as goal

pub returns-in-Passed-clause-within : goal.returns-in-Passed-clause-within
returns-in-Passed-clause-within c =
    let h = c.in-Passed.ensures in
    let more = quote_longer (get_or c.args.text.now c.args.at 0) c.args.text.now (c.args.at + 1) c.in-Passed.end (omega arith) h.within.1 h.is in
    (omega (arith, more), h.within.1)
