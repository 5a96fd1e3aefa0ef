-- The marks up to a whole byte, of whole bytes, and the rest.
use Rattle.std.proofs.Common.{◌≡◌, ◌∙◌, ◌+◌, ◌-◌, ◌*◌, ◌/◌, ◌%◌, ◌≤◌, ap, sym, length, replicate, arith}
use Rattle.ec_memory_defs.specs.Cells.{written}
use Rattle.ec_bytes.specs.Bits.{byte_of, mark_of, marks_of}
use Rattle.ec_bytes.proofs.MarkLaws.{length_marks, more_written, whole_marks}
use Rattle.ec_bytes.proofs.bits.mark_many.Goals as goal

pub returns-clause-marks : goal.returns-clause-marks
returns-clause-marks c =
    let room = c.args.room in let at = c.args.at in let n = c.args.n in let old = c.args.memory.now in
    let M = marks_of room old in let m = mark_of c.args.set in
    let head = (8 - at % 8) % 8 in let whole = (n - head) / 8 in
    let first = c.mark_up_to.new.memory in
    let q = (at + head) / 8 in
    let long = length_marks room old in
    let place : 8 * q ≡ at + head = omega arith in
    let fits : room + q + whole ≤ length first = omega (arith, c.mark_up_to.ensures.length, c.requires.inside.0, c.requires.inside.1) in
    let second : marks_of room c.spread.new.bytes ≡ written M at (replicate (head + 8 * whole) m) =
    ap (marks_of room) (c.spread.ensures ∙ ap (λ b. written first (room + q) (replicate whole b)) c.whole_byte-byte.ensures)
    ∙ whole_marks room first q whole c.args.set fits
    ∙ ap (λ l. written l (8 * q) (replicate (8 * whole) m)) c.mark_up_to.ensures.marks
    ∙ more_written M at head (8 * whole) m (8 * q) place (omega (arith, long, c.requires.inside.0, c.requires.inside.1)) in
    let rest = n - (head + 8 * whole) in
    let all : head + 8 * whole + rest ≡ n = omega (arith, c.requires.many) in
    c.mark_up_to-2.ensures.marks ∙ ap (λ l. written l (at + (head + 8 * whole)) (replicate rest m)) second
    ∙ more_written M at (head + 8 * whole) rest m (at + (head + 8 * whole)) (omega arith) (omega (arith, all, long, c.requires.inside.0, c.requires.inside.1))
    ∙ ap (λ k. written M at (replicate k m)) all
