use Rattle.std.proofs.Common.{refl}
use Rattle.ec_link.specs.Rack.{slots_of}
use Rattle.ec_link.proofs.Ready.{taken-found, GivesBack-replaced}
use Rattle.ec_link.proofs.Runs.{KeepsTalks-GivesBack, SparesDropped-GivesBack}
use Rattle.ec_link.proofs.rack.Rack.give_back.Goals as goal

pub unreachable-requires : goal.unreachable-requires
unreachable-requires g c =
    c.in_default.not-Taken c.requires.0 (taken-found c.args.self.now.slots c.args.conn.slot c.replace.result c.requires c.replace.ensures.taken)

pub returns-clause-given : goal.returns-clause-given
returns-clause-given g c =
    GivesBack-replaced (slots_of c.args.self.now) c.replace.new.self c.set.new.self c.args.conn.slot c.replace.result _ c.in-Taken.name c.args.conn.link c.args.conn refl refl
    c.replace.ensures.taken c.in-Taken.is c.replace.ensures.rest c.set.ensures

pub returns-clause-talks : goal.returns-clause-talks
returns-clause-talks g c =
    KeepsTalks-GivesBack (λ z. (goal.Link-dyn g (z.vtable, z.value)).talk z.value) (λ z. (goal.Link-dyn g (z.vtable, z.value)).faults z.value) (slots_of c.args.self.now) _ c.args.conn (returns-clause-given g c)

pub returns-clause-dropped : goal.returns-clause-dropped
returns-clause-dropped g c =
    SparesDropped-GivesBack (λ z. (goal.Link-dyn g (z.vtable, z.value)).talk z.value) (λ z. (goal.Link-dyn g (z.vtable, z.value)).faults z.value) (slots_of c.args.self.now) _ c.args.conn (returns-clause-given g c)
