use Rattle.std.proofs.Common.{arith}
use Rattle.ec_clex.proofs.ItemSteps.{directive_told}
use Rattle.ec_clex.proofs.items.directive.Goals as goal

pub returns-else-found-text-clause-is : goal.returns-else-found-text-clause-is
returns-else-found-text-clause-is c =
    let h = c.in-Some.ensures in
    directive_told c.args.here.line c.args.text.now c.args.at c.in-Some.found.end c.in-Some.found.number (omega (arith, h.within)) (omega (arith, h.within)) h.is.0 h.is.1 h.is.2
