use Rattle.ec_check.proofs.typed_lemmas.Worlds.{numbered_world}
use Rattle.ec_check.proofs.typed.renumbering.make_numbered.Goals as goal

pub returns : goal.returns
returns c w h =
    numbered_world c.args.structs.now c.args.closed.now c.args.types.now w c.in_ok-order.order.numbers c.in_ok-structs.structs c.in_ok-names.names h c.in_ok-order.ensures.numbers c.in_ok-structs.ensures c.in_ok-names.ensures
