-- What is read, and what is written for it.
use Rattle.std.proofs.Common.{◌≡◌, ◌∙◌, ◌+ℤ◌, ℕ, List, Ok, ap, sym, subst, arith, rules}
use Rattle.std.specs.Int.{w32}
use Rattle.std.proofs.lemmas.Int.{ints, to_z-of_z}
use mir.Val.{SFits, of_z, to_z}
use Rattle.ec_bytes.specs.Scalars.{HoldBytes, signed_bytes, signed_of}
use Rattle.ec_bytes.specs.declared.scalar.signed.I32.{I32}
use Rattle.ec_memory_defs.specs.Cells.{Cell, part_of, set_cells, value_of, written}
use Rattle.ec_memory_defs.specs.Kinds.{kind_type}
use Rattle.ec_memory_defs.specs.declared.kind.Kind.TheVariants as kind
use Rattle.ec_memory_defs.specs.Memory.{encoded, number}
use Rattle.ec_memory.proofs.Sums.{int_read, passing_sum}
use Rattle.ec_memory.proofs.scalars.add_at.Goals as goal

abbrev decode : List ℕ → I32
decode bytes = record { 0 = signed_of w32 bytes }

pub returns-in-Some-sum_of-clause-sum : goal.returns-in-Some-sum_of-clause-sum
returns-in-Some-sum_of-clause-sum c =
    let P : List Cell → Type 0 = λ cells. HoldBytes (part_of cells c.view.result.at 4) in
    let Q : ℕ → Type 0 = λ at. HoldBytes (part_of c.args.cells.now at 4) in
    let g = c.ranges.by in
    let before = c.number_in-before.result in
    let h : SFits w32 before = search rules in
    let back : to_z w32 (of_z w32 before) ≡ before = search rules in
    let fits : SFits w32 c.in-Some-sum_of.sum = search rules in
    let is : c.in-Some-sum_of.sum ≡ before +ℤ c.args.by = simp to_z-of_z at c.in-Some-sum_of.ensures in
    let same : to_z w32 (of_z w32 c.in-Some-sum_of.sum) ≡ c.in-Some-sum_of.sum = search rules in
    let new : List ℕ = signed_bytes w32 c.scalar_of-new.result.0 in
    let sum : to_z w32 (of_z w32 c.in-Some-sum_of.sum) ≡ to_z w32 (of_z w32 before) +ℤ c.args.by = same ∙ is ∙ ap (λ z. z +ℤ c.args.by) (sym back) in
    record {
      found = int_read decode c.args.cells.now c.args.at c.in-Some.scalar before c.requires
          (c.in-Some.ensures.value
          ∙ ap (λ cells. value_of decode (part_of cells c.view.result.at 4)) c.view.ensures.cells
          ∙ ap (λ at. value_of decode (part_of c.args.cells.now at 4)) c.view.ensures.place)
          (subst Q c.view.ensures.place (subst P c.view.ensures.cells c.in-Some.ensures.bytes))
          c.number_in-before.ensures
          ∙ ap (λ z. Ok (number z)) (sym back);
      fits = (omega (arith, ints, is, fits, back), omega (arith, ints, is, fits, back));
      stored = ◌∙◌ {b = c.set.new.self.region.now} (search rules) c.set.ensures.cells
          ∙ ap (λ cells. written cells c.view_mut.result.at (set_cells new)) c.view_mut.ensures.cells
          ∙ ap (λ at. written c.args.cells.now at (set_cells new)) c.view_mut.ensures.place
          ∙ ap (λ bytes. written c.args.cells.now c.args.at (set_cells bytes)) (c.scalar_of-new.ensures ∙ ap (λ z. encoded (kind_type kind.Int) (number z)) sum);
    }

pub returns-in-None-sum_of-clause-sum : goal.returns-in-None-sum_of-clause-sum
returns-in-None-sum_of-clause-sum c =
    let P : List Cell → Type 0 = λ cells. HoldBytes (part_of cells c.view.result.at 4) in
    let Q : ℕ → Type 0 = λ at. HoldBytes (part_of c.args.cells.now at 4) in
    let g = c.ranges.by in
    let before = c.number_in-before.result in
    let h : SFits w32 before = search rules in
    let back : to_z w32 (of_z w32 before) ≡ before = search rules in
    passing_sum c.args.cells.now c.args.at before c.args.by
    (int_read decode c.args.cells.now c.args.at c.in-Some.scalar before c.requires
    (c.in-Some.ensures.value
    ∙ ap (λ cells. value_of decode (part_of cells c.view.result.at 4)) c.view.ensures.cells
    ∙ ap (λ at. value_of decode (part_of c.args.cells.now at 4)) c.view.ensures.place)
    (subst Q c.view.ensures.place (subst P c.view.ensures.cells c.in-Some.ensures.bytes))
    c.number_in-before.ensures)
    (simp to_z-of_z at c.in-None-sum_of.ensures)
