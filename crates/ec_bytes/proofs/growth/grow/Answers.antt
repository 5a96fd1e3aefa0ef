-- The marks that there were lie behind the larger room.
use Rattle.std.proofs.Common.{◌≡◌, ◌∙◌, ◌+◌, ◌-◌, ◌/◌, ◌≤◌, ap, sym, take, drop, length, refl, arith}
use Rattle.std.proofs.lemmas.List.{length-replicate}
use Rattle.ec_memory_defs.specs.Cells.{written}
use Rattle.ec_bytes.specs.Bits.{marks_of}
use Rattle.ec_bytes.proofs.Kept.{marks_behind, refilled}
use Rattle.ec_bytes.proofs.Places.{length_written}
use Rattle.ec_bytes.proofs.growth.grow.Goals as goal

pub returns-clause-marks : goal.returns-clause-marks
returns-clause-marks c =
    let old = c.args.room.now in let more = c.in-Some.more in let k = (old + 7) / 8 in
    let size = more + more / 8 + 9 in
    let larger : old ≤ more = c.in-Some.ensures.0 in
    let l0 : length c.bytes_mut-target.result.now ≡ size = ap length (c.bytes_mut-target.ensures.value ∙ c.in_ok-grown.ensures) ∙ length-replicate size 0 in
    let l1 : length c.put.new.bytes ≡ size = ap length c.put.ensures ∙ length_written c.bytes_mut-target.result.now 0 c.part.result.now (omega (arith, l0, c.part.ensures.length, larger)) ∙ l0 in
    let enough : k ≤ length c.args.block.now - old = omega (arith, c.requires.1) in
    let fits : more + k ≤ length c.put.new.bytes = omega (arith, l1, larger) in
    let l2 : length c.put-2.new.bytes ≡ length c.put.new.bytes = ap length c.put-2.ensures ∙ length_written c.put.new.bytes more c.part-2.result.now (omega (arith, fits, c.part-2.ensures.length)) in
    let l3 : length c.in_ok-grown.grown ≡ size = ap length c.in_ok-grown.ensures ∙ length-replicate size 0 in
    ap (λ b. take old (marks_of more b)) (refilled c.in_ok-grown.grown c.put-2.new.bytes (l2 ∙ l1 ∙ sym l3)
    ∙ c.put-2.ensures ∙ ap (written c.put.new.bytes more) (c.part-2.ensures.items ∙ ap (λ l. take k (drop old l)) c.bytes-memory.ensures))
    ∙ marks_behind old more c.args.block.now c.put.new.bytes k refl enough fits
