-- The cells after the call.
use Rattle.std.proofs.Common.{◌≡◌, ◌∙◌, ◌≤◌, ◌+◌, ap, sym, length, take, drop, replicate, refl, arith}
use Rattle.std.proofs.lemmas.List.{length-replicate, length-take-le}
use Rattle.std.proofs.lemmas.List.{length-drop}
use Rattle.ec_memory_defs.specs.Cells.{written}
use Rattle.ec_bytes.specs.Bits.{marks_of}
use Rattle.ec_bytes.proofs.Cells.{filled_as_set}
use Rattle.ec_bytes.proofs.Kept.{cleared, copied, kept, lies, marked, put_set}
use Rattle.ec_bytes.proofs.Places.{length_written}
use Rattle.ec_bytes.proofs.region.Region.fill.Goals as goal

pub spread-requires : goal.spread-requires
spread-requires c =
    rw c.bytes_mut-memory.ensures.value (lies c.args.self.now c.self.inside.len c.self.inside.room c.self.inside.block c.self.view_is c.self.invariant c.args.at c.args.n c.requires)

pub mark-requires : goal.mark-requires
mark-requires c =
    let in_cells : c.args.at + (c.args.n) ≤ length c.args.self.now = c.requires in
    let whole : length (replicate c.args.n c.args.byte) ≡ c.args.n = length-replicate c.args.n c.args.byte in
    let first = c.spread.ensures ∙ ap (λ l. written l c.args.at (replicate c.args.n c.args.byte)) c.bytes_mut-memory.ensures.value in
    marked c.args.self.now c.self.inside.len c.self.inside.room c.self.inside.block c.self.view_is c.self.invariant c.args.at (c.args.n) in_cells c.spread.new.bytes
    (ap length first ∙ length_written c.self.inside.block c.args.at (replicate c.args.n c.args.byte) (omega (arith, whole, lies c.args.self.now c.self.inside.len c.self.inside.room c.self.inside.block c.self.view_is c.self.invariant c.args.at (c.args.n) in_cells)))

pub returns-clause-cells : goal.returns-clause-cells
returns-clause-cells c =
    let in_cells : c.args.at + (c.args.n) ≤ length c.args.self.now = c.requires in
    let whole : length (replicate c.args.n c.args.byte) ≡ c.args.n = length-replicate c.args.n c.args.byte in
    let first = c.spread.ensures ∙ ap (λ l. written l c.args.at (replicate c.args.n c.args.byte)) c.bytes_mut-memory.ensures.value in
    let same = c.mark.ensures.length ∙ ap length first ∙ length_written c.self.inside.block c.args.at (replicate c.args.n c.args.byte) (omega (arith, whole, lies c.args.self.now c.self.inside.len c.self.inside.room c.self.inside.block c.self.view_is c.self.invariant c.args.at (c.args.n) in_cells)) in
    put_set c.args.self.now c.self.inside.len c.self.inside.room c.self.inside.block c.self.view_is c.self.invariant c.mark.new.memory same c.args.at (replicate c.args.n c.args.byte) (c.args.n) c.spread.new.bytes in_cells whole first c.mark.ensures.bytes c.mark.ensures.marks ∙ ap (written c.args.self.now c.args.at) (filled_as_set c.args.n c.args.byte)

pub returns-clause-length : goal.returns-clause-length
returns-clause-length c =
    let in_cells : c.args.at + (c.args.n) ≤ length c.args.self.now = c.requires in
    let whole : length (replicate c.args.n c.args.byte) ≡ c.args.n = length-replicate c.args.n c.args.byte in
    let first = c.spread.ensures ∙ ap (λ l. written l c.args.at (replicate c.args.n c.args.byte)) c.bytes_mut-memory.ensures.value in
    let same = c.mark.ensures.length ∙ ap length first ∙ length_written c.self.inside.block c.args.at (replicate c.args.n c.args.byte) (omega (arith, whole, lies c.args.self.now c.self.inside.len c.self.inside.room c.self.inside.block c.self.view_is c.self.invariant c.args.at (c.args.n) in_cells)) in
    kept c.args.self.now c.self.inside.len c.self.inside.room c.self.inside.block c.self.view_is c.self.invariant c.mark.new.memory same
