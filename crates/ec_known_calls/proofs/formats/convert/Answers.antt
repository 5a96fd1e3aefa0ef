use Rattle.ec_known_calls.proofs.Taken.{converted}
use Rattle.ec_known_calls.specs.Conversions.{conversion_view}
use Rattle.ec_known_calls.specs.Taking.{types_view}
use Rattle.ec_known_calls.proofs.formats.convert.Goals as goal

pub returns-in-None-take : goal.returns-in-None-take
returns-in-None-take c n =
    converted n c.args.format.now (types_view c.args.types.now) (conversion_view c.in-Some.found) _ c.in-Some.ensures c.in-None-take.ensures

pub returns-in-Some-take : goal.returns-in-Some-take
returns-in-Some-take c n =
    converted n c.args.format.now (types_view c.args.types.now) (conversion_view c.in-Some.found) _ c.in-Some.ensures c.in-Some-take.ensures
