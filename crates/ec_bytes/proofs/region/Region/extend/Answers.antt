-- The cells after more were put at the end.
use Rattle.std.proofs.Common.{◌≡◌, ◌∙◌, ◌+◌, ◌≤◌, ap, length, take, replicate, arith, rules}
use Rattle.std.specs.List.{refill}
use Rattle.ec_memory_defs.specs.Cells.{written}
use Rattle.ec_bytes.specs.Bits.{marks_of}
use Rattle.ec_bytes.specs.Region.{held}
use Rattle.ec_bytes.proofs.Kept.{grown, on_err, region_length, roomier}
use Rattle.ec_bytes.proofs.region.Region.extend.Goals as goal

pub returns-in_err-make_room-clause-err : goal.returns-in_err-make_room-clause-err
returns-in_err-make_room-clause-err c =
    let same : held c.self.inside.len c.make_room.new.block (marks_of c.make_room.new.room c.make_room.new.block) ≡ c.args.self.now =
    roomier c.args.self.now c.self.inside.len c.self.inside.room c.self.inside.block c.self.view_is c.self.invariant c.make_room.new.room c.make_room.new.block c.make_room.ensures.bytes c.make_room.ensures.marks in
    on_err c.from_residual.result same

pub returns-clause-start : goal.returns-clause-start
returns-clause-start c = region_length c.args.self.now c.self.inside.len c.self.inside.room c.self.inside.block c.self.view_is c.self.invariant

pub returns-clause-ok : goal.returns-clause-ok
returns-clause-ok c =
    let sum : c.in-Some.len ≡ c.self.inside.len + c.args.n = search rules in
    let made = c.in_ok-make_room.ensures in let more = c.make_room.new.room in let wide = c.make_room.new.block in
    ap (λ len. held len (refill (length wide) wide c.mark.new.memory) (marks_of more (refill (length wide) wide c.mark.new.memory))) sum
    ∙ grown c.args.self.now c.self.inside.len c.self.inside.room c.self.inside.block c.self.view_is c.self.invariant c.args.n more wide c.mark.new.memory
    (omega (arith, sum, made.room)) made.roomy made.bytes made.marks
    (c.mark.ensures.bytes ∙ ap (take more) c.bytes_mut.ensures.value)
    (c.mark.ensures.marks ∙ ap (λ l. written (marks_of more l) c.self.inside.len (replicate c.args.n 0)) c.bytes_mut.ensures.value)
    (c.mark.ensures.length ∙ ap length c.bytes_mut.ensures.value) made.more
