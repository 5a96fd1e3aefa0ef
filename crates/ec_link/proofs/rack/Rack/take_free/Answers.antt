use Rattle.std.proofs.Common.{None, Some, refl}
use Rattle.ec_link.specs.Rack.{slots_of}
use Rattle.ec_link.proofs.Free.{free_slot-read, free-found, TakesFree-replaced, TakenAt-TakesFree}
use Rattle.ec_link.proofs.rack.Rack.take_free.Goals as goal

pub returns-in_err-at-clause-taken : goal.returns-in_err-at-clause-taken
returns-in_err-at-clause-taken g c =
    rw c.from_residual.ensures ((free_slot-read c.args.target.now c.as_slice.result.now c.args.self.now.slots None c.as_slice.ensures c.in_err-at.ensures.first), refl)

pub unreachable-requires : goal.unreachable-requires
unreachable-requires g c =
    let found = free-found c.args.target.now c.args.self.now.slots c.in_ok-at.at c.replace.result (free_slot-read c.args.target.now c.as_slice.result.now c.args.self.now.slots (Some c.in_ok-at.at) c.as_slice.ensures c.in_ok-at.ensures.first) c.replace.ensures.taken in
    c.in_default.not-Free _ found.0 found.1

pub returns-clause-taken : goal.returns-clause-taken
returns-clause-taken g c =
    TakesFree-replaced c.args.target.now (slots_of c.args.self.now) c.replace.new.self c.set.new.self c.in_ok-at.at c.replace.result _ c.in-Free.name c.in-Free.link _ refl refl
    (free_slot-read c.args.target.now c.as_slice.result.now c.args.self.now.slots (Some c.in_ok-at.at) c.as_slice.ensures c.in_ok-at.ensures.first) c.replace.ensures.taken c.in-Free.is c.replace.ensures.rest c.set.ensures

pub returns-clause-now_taken : goal.returns-clause-now_taken
returns-clause-now_taken g c = TakenAt-TakesFree c.args.target.now (slots_of c.args.self.now) c.set.new.self _ (returns-clause-taken g c)
