-- The bytes stay where they are, and these are written.
use Rattle.std.proofs.Common.{◌+◌, Ok}
use Rattle.std.proofs.Math.Logic.{∥∥₁_map}
use Rattle.ec_memory_defs.specs.Memory.{fill}
use Rattle.ec_memory.proofs.Lending.{part_at, told_once}
use Rattle.ec_memory.proofs.lent.LentBytes.fill.Goals as goal

pub invariant_of-self : goal.invariant_of-self
invariant_of-self c = record { lies = ∥∥₁_map c.args.self.now.lies (c.fill_at.ensures.kept c.args.self.now.ptr.0 c.args.self.now.count c.args.self.now.at) }

pub returns-clause-memory : goal.returns-clause-memory
returns-clause-memory c =
    told_once (fill c.args.self.now.store.now (c.args.self.now.ptr.0 + c.args.behind) c.args.count c.args.byte) (Ok c.fill_at.new.self) c.args.self.now.lies (λ lies. c.fill_at.ensures.memory (c.args.self.now.ptr.0 + c.args.behind) (part_at c.args.self.now.store.now c.args.self.now.ptr.0 c.args.self.now.count c.args.self.now.at c.args.behind c.args.count c.place-at.result lies c.requires c.place-at.ensures))
