-- The cells after the call.
use Rattle.std.proofs.Common.{◌≡◌, ◌∙◌, ◌≤◌, ◌+◌, ap, sym, length, take, drop, replicate, refl, arith}
use Rattle.std.proofs.lemmas.List.{length-replicate, length-take-le}
use Rattle.std.proofs.lemmas.List.{length-drop}
use Rattle.ec_memory_defs.specs.Cells.{written}
use Rattle.ec_bytes.specs.Bits.{marks_of}
use Rattle.ec_bytes.proofs.Cells.{filled_as_set}
use Rattle.ec_bytes.proofs.Kept.{cleared, copied, kept, lies, marked, put_set}
use Rattle.ec_bytes.proofs.Places.{length_written}
use Rattle.ec_bytes.proofs.region.Region.unset.Goals as goal

pub mark-requires : goal.mark-requires
mark-requires c = marked c.args.self.now c.self.inside.len c.self.inside.room c.self.inside.block c.self.view_is c.self.invariant c.args.at c.args.n c.requires c.bytes_mut.result.now (ap length c.bytes_mut.ensures.value)

pub returns-clause-cells : goal.returns-clause-cells
returns-clause-cells c =
    cleared c.args.self.now c.self.inside.len c.self.inside.room c.self.inside.block c.self.view_is c.self.invariant c.mark.new.memory (c.mark.ensures.length ∙ ap length c.bytes_mut.ensures.value) c.args.at c.args.n c.requires
    (c.mark.ensures.bytes ∙ ap (take c.self.inside.room) c.bytes_mut.ensures.value)
    (c.mark.ensures.marks ∙ ap (λ l. written (marks_of c.self.inside.room l) c.args.at (replicate c.args.n 0)) c.bytes_mut.ensures.value)

pub returns-clause-length : goal.returns-clause-length
returns-clause-length c =
    kept c.args.self.now c.self.inside.len c.self.inside.room c.self.inside.block c.self.view_is c.self.invariant c.mark.new.memory (c.mark.ensures.length ∙ ap length c.bytes_mut.ensures.value)
