-- The cells after the call.
use Rattle.std.proofs.Common.{◌≡◌, ◌∙◌, ◌≤◌, ◌+◌, ap, sym, length, take, drop, replicate, refl, arith}
use Rattle.std.proofs.lemmas.List.{length-replicate, length-take-le}
use Rattle.std.proofs.lemmas.List.{length-drop}
use Rattle.ec_memory_defs.specs.Cells.{written}
use Rattle.ec_bytes.specs.Bits.{marks_of}
use Rattle.ec_bytes.proofs.Cells.{filled_as_set}
use Rattle.ec_bytes.proofs.Kept.{cleared, copied, kept, lies, marked, put_set}
use Rattle.ec_bytes.proofs.Places.{length_written}
use Rattle.ec_bytes.proofs.region.Region.write.Goals as goal

pub put-requires : goal.put-requires
put-requires c =
    rw c.bytes_mut-memory.ensures.value (lies c.args.self.now c.self.inside.len c.self.inside.room c.self.inside.block c.self.view_is c.self.invariant c.args.at (length c.args.piece.now) c.requires)

pub mark-requires : goal.mark-requires
mark-requires c =
    let in_cells : c.args.at + (length c.args.piece.now) ≤ length c.args.self.now = c.requires in
    let whole : length (c.args.piece.now) ≡ length c.args.piece.now = refl in
    let first = c.put.ensures ∙ ap (λ l. written l c.args.at (c.args.piece.now)) c.bytes_mut-memory.ensures.value in
    marked c.args.self.now c.self.inside.len c.self.inside.room c.self.inside.block c.self.view_is c.self.invariant c.args.at (length c.args.piece.now) in_cells c.put.new.bytes
    (ap length first ∙ length_written c.self.inside.block c.args.at (c.args.piece.now) (omega (arith, whole, lies c.args.self.now c.self.inside.len c.self.inside.room c.self.inside.block c.self.view_is c.self.invariant c.args.at (length c.args.piece.now) in_cells)))

pub returns-clause-cells : goal.returns-clause-cells
returns-clause-cells c =
    let in_cells : c.args.at + (length c.args.piece.now) ≤ length c.args.self.now = c.requires in
    let whole : length (c.args.piece.now) ≡ length c.args.piece.now = refl in
    let first = c.put.ensures ∙ ap (λ l. written l c.args.at (c.args.piece.now)) c.bytes_mut-memory.ensures.value in
    let same = c.mark.ensures.length ∙ ap length first ∙ length_written c.self.inside.block c.args.at (c.args.piece.now) (omega (arith, whole, lies c.args.self.now c.self.inside.len c.self.inside.room c.self.inside.block c.self.view_is c.self.invariant c.args.at (length c.args.piece.now) in_cells)) in
    put_set c.args.self.now c.self.inside.len c.self.inside.room c.self.inside.block c.self.view_is c.self.invariant c.mark.new.memory same c.args.at (c.args.piece.now) (length c.args.piece.now) c.put.new.bytes in_cells whole first c.mark.ensures.bytes c.mark.ensures.marks

pub returns-clause-length : goal.returns-clause-length
returns-clause-length c =
    let in_cells : c.args.at + (length c.args.piece.now) ≤ length c.args.self.now = c.requires in
    let whole : length (c.args.piece.now) ≡ length c.args.piece.now = refl in
    let first = c.put.ensures ∙ ap (λ l. written l c.args.at (c.args.piece.now)) c.bytes_mut-memory.ensures.value in
    let same = c.mark.ensures.length ∙ ap length first ∙ length_written c.self.inside.block c.args.at (c.args.piece.now) (omega (arith, whole, lies c.args.self.now c.self.inside.len c.self.inside.room c.self.inside.block c.self.view_is c.self.invariant c.args.at (length c.args.piece.now) in_cells)) in
    kept c.args.self.now c.self.inside.len c.self.inside.room c.self.inside.block c.self.view_is c.self.invariant c.mark.new.memory same
