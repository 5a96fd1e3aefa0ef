use Rattle.std.proofs.Common.{refl}
use Rattle.ec_link.specs.Rack.{slots_of}
use Rattle.ec_link.proofs.Free.{DropsSlot-replaced}
use Rattle.ec_link.proofs.Ready.{taken-found}
use Rattle.ec_link.proofs.rack.Rack.drop_link.Goals as goal

pub unreachable-requires : goal.unreachable-requires
unreachable-requires g c =
    c.in_default.not-Taken c.requires.0 (taken-found c.args.self.now.slots c.args.conn.slot c.replace.result c.requires c.replace.ensures.taken)

pub returns-clause-slots : goal.returns-clause-slots
returns-clause-slots g c =
    DropsSlot-replaced (slots_of c.args.self.now) c.replace.new.self c.set.new.self c.args.conn.slot c.args.conn.slot c.replace.result _ c.in-Taken.name refl c.replace.ensures.taken c.in-Taken.is c.replace.ensures.rest c.set.ensures
