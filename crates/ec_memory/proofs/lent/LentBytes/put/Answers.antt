-- The bytes stay where they are, and these are written.
use Rattle.std.proofs.Common.{◌+◌, length, Ok}
use Rattle.std.proofs.Math.Logic.{∥∥₁_map}
use Rattle.ec_memory_defs.specs.Memory.{put}
use Rattle.ec_memory.proofs.Lending.{part_at, told_once}
use Rattle.ec_memory.proofs.lent.LentBytes.put.Goals as goal

pub invariant_of-self : goal.invariant_of-self
invariant_of-self c = record { lies = ∥∥₁_map c.args.self.now.lies (c.write_at.ensures.kept c.args.self.now.ptr.0 c.args.self.now.count c.args.self.now.at) }

pub returns-clause-memory : goal.returns-clause-memory
returns-clause-memory c =
    told_once (put c.args.self.now.store.now (c.args.self.now.ptr.0 + c.args.behind) c.args.piece.now) (Ok c.write_at.new.self) c.args.self.now.lies (λ lies. c.write_at.ensures.memory (c.args.self.now.ptr.0 + c.args.behind) (part_at c.args.self.now.store.now c.args.self.now.ptr.0 c.args.self.now.count c.args.self.now.at c.args.behind (length c.args.piece.now) c.place-at.result lies c.requires c.place-at.ensures))
