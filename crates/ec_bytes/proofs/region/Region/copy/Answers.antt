-- The cells after the call.
use Rattle.std.proofs.Common.{◌≡◌, ◌∙◌, ◌≤◌, ◌+◌, ℕ, List, ap, sym, length, take, drop, replicate, refl, arith}
use Rattle.std.proofs.lemmas.List.{length-replicate, length-take-le}
use Rattle.std.proofs.lemmas.List.{length-drop}
use Rattle.ec_memory_defs.specs.Cells.{written}
use Rattle.ec_bytes.specs.Bits.{marks_of}
use Rattle.ec_bytes.proofs.Cells.{filled_as_set}
use Rattle.ec_bytes.proofs.Kept.{cleared, copied, kept, lies, marked, put_set}
use Rattle.ec_bytes.proofs.Places.{length_written}
use Rattle.ec_bytes.proofs.region.Region.copy.Goals as goal

pub shift-requires-clause-source : goal.shift-requires-clause-source
shift-requires-clause-source c = rw c.bytes_mut-memory.ensures.value (lies c.args.self.now c.self.inside.len c.self.inside.room c.self.inside.block c.self.view_is c.self.invariant c.args.from c.args.n c.requires.source)

pub shift-requires-clause-target : goal.shift-requires-clause-target
shift-requires-clause-target c = rw c.bytes_mut-memory.ensures.value (lies c.args.self.now c.self.inside.len c.self.inside.room c.self.inside.block c.self.view_is c.self.invariant c.args.to c.args.n c.requires.target)

same_length : (xs : List ℕ) (from to n : ℕ) (after : List ℕ) → from + n ≤ length xs → to + n ≤ length xs → after ≡ written xs to (take n (drop from xs)) → length after ≡ length xs
same_length xs from to n after source target is =
    let long : length (take n (drop from xs)) ≡ n = length-take-le n (drop from xs) (omega (arith, length-drop from xs)) in
    ap length is ∙ length_written xs to (take n (drop from xs)) (omega (arith, long))

pub move_marks-requires-clause-source : goal.move_marks-requires-clause-source
move_marks-requires-clause-source c =
    let first = c.shift.ensures ∙ ap (λ l. written l c.args.to (take c.args.n (drop c.args.from l))) c.bytes_mut-memory.ensures.value in
    let same = same_length c.self.inside.block c.args.from c.args.to c.args.n c.shift.new.items (lies c.args.self.now c.self.inside.len c.self.inside.room c.self.inside.block c.self.view_is c.self.invariant c.args.from c.args.n c.requires.source) (lies c.args.self.now c.self.inside.len c.self.inside.room c.self.inside.block c.self.view_is c.self.invariant c.args.to c.args.n c.requires.target) first in
    marked c.args.self.now c.self.inside.len c.self.inside.room c.self.inside.block c.self.view_is c.self.invariant c.args.from c.args.n c.requires.source c.shift.new.items same

pub move_marks-requires-clause-target : goal.move_marks-requires-clause-target
move_marks-requires-clause-target c =
    let first = c.shift.ensures ∙ ap (λ l. written l c.args.to (take c.args.n (drop c.args.from l))) c.bytes_mut-memory.ensures.value in
    let same = same_length c.self.inside.block c.args.from c.args.to c.args.n c.shift.new.items (lies c.args.self.now c.self.inside.len c.self.inside.room c.self.inside.block c.self.view_is c.self.invariant c.args.from c.args.n c.requires.source) (lies c.args.self.now c.self.inside.len c.self.inside.room c.self.inside.block c.self.view_is c.self.invariant c.args.to c.args.n c.requires.target) first in
    marked c.args.self.now c.self.inside.len c.self.inside.room c.self.inside.block c.self.view_is c.self.invariant c.args.to c.args.n c.requires.target c.shift.new.items same

pub returns-clause-cells : goal.returns-clause-cells
returns-clause-cells c =
    let first = c.shift.ensures ∙ ap (λ l. written l c.args.to (take c.args.n (drop c.args.from l))) c.bytes_mut-memory.ensures.value in
    let same = same_length c.self.inside.block c.args.from c.args.to c.args.n c.shift.new.items (lies c.args.self.now c.self.inside.len c.self.inside.room c.self.inside.block c.self.view_is c.self.invariant c.args.from c.args.n c.requires.source) (lies c.args.self.now c.self.inside.len c.self.inside.room c.self.inside.block c.self.view_is c.self.invariant c.args.to c.args.n c.requires.target) first in
    copied c.args.self.now c.self.inside.len c.self.inside.room c.self.inside.block c.self.view_is c.self.invariant c.move_marks.new.memory (c.move_marks.ensures.length ∙ same) c.args.from c.args.to c.args.n c.shift.new.items c.requires.source c.requires.target first c.move_marks.ensures.bytes c.move_marks.ensures.marks

pub returns-clause-length : goal.returns-clause-length
returns-clause-length c =
    let first = c.shift.ensures ∙ ap (λ l. written l c.args.to (take c.args.n (drop c.args.from l))) c.bytes_mut-memory.ensures.value in
    let same = same_length c.self.inside.block c.args.from c.args.to c.args.n c.shift.new.items (lies c.args.self.now c.self.inside.len c.self.inside.room c.self.inside.block c.self.view_is c.self.invariant c.args.from c.args.n c.requires.source) (lies c.args.self.now c.self.inside.len c.self.inside.room c.self.inside.block c.self.view_is c.self.invariant c.args.to c.args.n c.requires.target) first in
    kept c.args.self.now c.self.inside.len c.self.inside.room c.self.inside.block c.self.view_is c.self.invariant c.move_marks.new.memory (c.move_marks.ensures.length ∙ same)
