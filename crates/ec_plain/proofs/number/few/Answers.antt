-- Both steps, one after the other.
use Rattle.std.proofs.Common.{rules}
use Rattle.std.specs.Int.{w64}
use mir.Val.{SFits}
use Rattle.std.proofs.lemmas.Int.{to_z-of_z}
use Rattle.ec_plain.proofs.Numbers.{follow_two, two_are}
use Rattle.ec_plain.proofs.number.few.Goals as goal

pub returns-in_ok-made-in-len2 : goal.returns-in_ok-made-in-len2
returns-in_ok-made-in-len2 c =
    let f : SFits w64 c.in_ok-made-in-len2.made = search rules in let g = c.ranges.begun in
    follow_two c.args.steps.now c.first-item.result c.last-item.result c.args.begun c.in_ok-made-in-len2.made c.args.store.now c.as_other.result
    (two_are c.args.steps.now c.first-item.result c.last-item.result c.in-len2.len_at_least c.in-len2.len_below c.first-item.is c.last-item.is)
    (simp to_z-of_z at c.in_ok-made-in-len2.ensures) (simp to_z-of_z at c.as_other.ensures)
