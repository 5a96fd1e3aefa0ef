-- The cells after the call.
use Rattle.std.proofs.Common.{◌≡◌, ◌∙◌, ◌≤◌, ◌+◌, ap, sym, length, take, drop, replicate, refl, arith}
use Rattle.std.proofs.lemmas.List.{length-replicate, length-take-le}
use Rattle.std.proofs.lemmas.List.{length-drop}
use Rattle.ec_memory_defs.specs.Cells.{written}
use Rattle.ec_bytes.specs.Bits.{marks_of}
use Rattle.ec_bytes.proofs.Cells.{filled_as_set}
use Rattle.ec_bytes.proofs.Kept.{cleared, copied, kept, lies, marked, put_set}
use Rattle.ec_bytes.proofs.Places.{length_written}
use Rattle.ec_bytes.proofs.region.Region.store.Goals as goal

pub encode-requires : goal.encode-requires
encode-requires g c =
    rw c.bytes_mut-memory.ensures.value (lies c.args.self.now c.self.inside.len c.self.inside.room c.self.inside.block c.self.view_is c.self.invariant c.args.at g.T.Scalar.SIZE c.requires)

pub mark-requires : goal.mark-requires
mark-requires g c =
    let in_cells : c.args.at + (c.SIZE.result) ≤ length c.args.self.now = omega (arith, c.SIZE.ensures, c.requires) in
    let whole : length (g.T.Scalar.encode c.args.value) ≡ c.SIZE.result = g.met.T.Scalar.encode_length c.args.value ∙ sym c.SIZE.ensures in
    let first = c.encode.ensures ∙ ap (λ l. written l c.args.at (g.T.Scalar.encode c.args.value)) c.bytes_mut-memory.ensures.value in
    marked c.args.self.now c.self.inside.len c.self.inside.room c.self.inside.block c.self.view_is c.self.invariant c.args.at (c.SIZE.result) in_cells c.encode.new.bytes
    (ap length first ∙ length_written c.self.inside.block c.args.at (g.T.Scalar.encode c.args.value) (omega (arith, whole, lies c.args.self.now c.self.inside.len c.self.inside.room c.self.inside.block c.self.view_is c.self.invariant c.args.at (c.SIZE.result) in_cells)))

pub returns-clause-cells : goal.returns-clause-cells
returns-clause-cells g c =
    let in_cells : c.args.at + (c.SIZE.result) ≤ length c.args.self.now = omega (arith, c.SIZE.ensures, c.requires) in
    let whole : length (g.T.Scalar.encode c.args.value) ≡ c.SIZE.result = g.met.T.Scalar.encode_length c.args.value ∙ sym c.SIZE.ensures in
    let first = c.encode.ensures ∙ ap (λ l. written l c.args.at (g.T.Scalar.encode c.args.value)) c.bytes_mut-memory.ensures.value in
    let same = c.mark.ensures.length ∙ ap length first ∙ length_written c.self.inside.block c.args.at (g.T.Scalar.encode c.args.value) (omega (arith, whole, lies c.args.self.now c.self.inside.len c.self.inside.room c.self.inside.block c.self.view_is c.self.invariant c.args.at (c.SIZE.result) in_cells)) in
    put_set c.args.self.now c.self.inside.len c.self.inside.room c.self.inside.block c.self.view_is c.self.invariant c.mark.new.memory same c.args.at (g.T.Scalar.encode c.args.value) (c.SIZE.result) c.encode.new.bytes in_cells whole first c.mark.ensures.bytes c.mark.ensures.marks

pub returns-clause-length : goal.returns-clause-length
returns-clause-length g c =
    let in_cells : c.args.at + (c.SIZE.result) ≤ length c.args.self.now = omega (arith, c.SIZE.ensures, c.requires) in
    let whole : length (g.T.Scalar.encode c.args.value) ≡ c.SIZE.result = g.met.T.Scalar.encode_length c.args.value ∙ sym c.SIZE.ensures in
    let first = c.encode.ensures ∙ ap (λ l. written l c.args.at (g.T.Scalar.encode c.args.value)) c.bytes_mut-memory.ensures.value in
    let same = c.mark.ensures.length ∙ ap length first ∙ length_written c.self.inside.block c.args.at (g.T.Scalar.encode c.args.value) (omega (arith, whole, lies c.args.self.now c.self.inside.len c.self.inside.room c.self.inside.block c.self.view_is c.self.invariant c.args.at (c.SIZE.result) in_cells)) in
    kept c.args.self.now c.self.inside.len c.self.inside.room c.self.inside.block c.self.view_is c.self.invariant c.mark.new.memory same
