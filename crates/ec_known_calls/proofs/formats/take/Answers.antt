use Rattle.std.proofs.Common.{rules}
use Rattle.ec_known_calls.proofs.Taken.{taken-append}
use Rattle.ec_known_calls.proofs.formats.take.Goals as goal

pub returns-in-None-take_star : goal.returns-in-None-take_star
returns-in-None-take_star c = search (rules, taken-append)

pub returns-in-Some-take_star : goal.returns-in-Some-take_star
returns-in-Some-take_star c = search (rules, taken-append)
