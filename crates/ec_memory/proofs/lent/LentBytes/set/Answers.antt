-- The bytes stay where they are, and these are written.
use Rattle.std.proofs.Common.{◌+◌, Ok}
use Rattle.std.proofs.Math.Logic.{∥∥₁_map}
use Rattle.ec_memory_defs.specs.Memory.{put}
use Rattle.ec_memory.proofs.Lending.{part_at, told_once}
use Rattle.ec_memory.proofs.lent.LentBytes.set.Goals as goal

pub invariant_of-self : goal.invariant_of-self
invariant_of-self g c = record { lies = ∥∥₁_map c.args.self.now.lies (c.set_at.ensures.kept c.args.self.now.ptr.0 c.args.self.now.count c.args.self.now.at) }

pub returns-clause-memory : goal.returns-clause-memory
returns-clause-memory g c =
    told_once (put c.args.self.now.store.now (c.args.self.now.ptr.0 + c.args.behind) (g.T.Scalar.encode c.args.value)) (Ok c.set_at.new.self) c.args.self.now.lies (λ lies. c.set_at.ensures.memory (c.args.self.now.ptr.0 + c.args.behind) (part_at c.args.self.now.store.now c.args.self.now.ptr.0 c.args.self.now.count c.args.self.now.at c.args.behind g.T.Scalar.SIZE c.place-at.result lies c.requires c.place-at.ensures))
