-- A comparison with the value of an int.
use Rattle.std.proofs.Common.{◌≡◌, rules}
use Rattle.std.specs.Int.{w64}
use mir.Val.{SFits}
use Rattle.std.proofs.lemmas.Int.{to_z-of_z}
use Rattle.ec_code.specs.Trees.{leaf_view, two}
use Rattle.ec_code.specs.Views.{plain_step_view}
use Rattle.ec_code.specs.declared.expression.PlainStep.{the_lemmas as step_lemmas}
use Rattle.ec_code.specs.declared.step.Binary.TheVariants as binary
use Rattle.ec_code.specs.declared.step.Leaf.TheVariants as leaf
use Rattle.ec_plain.proofs.Numbers.{at_memory, operated, operates}
use Rattle.ec_plain.proofs.shortcuts.compared_at.Goals as goal

pub returns-in_ok-right-in-WithInt : goal.returns-in_ok-right-in-WithInt
returns-in_ok-right-in-WithInt c =
    let f : SFits w64 c.in_ok-right-in-WithInt.right = search rules in let g = c.ranges.value in
    let a = leaf_view (leaf.IntValue c.in-WithInt.slot) in
    let e : plain_step_view c.args.step.now ≡ two (binary.Operate c.in-WithInt.operation) a = search (rules, step_lemmas) in
    operated c.args.scope.now (plain_step_view c.args.step.now) c.in-WithInt.operation c.args.value c.in_ok-right-in-WithInt.right c.args.store.now c.compared_by-in-WithInt.result
    (operates c.args.scope.now (plain_step_view c.args.step.now) c.in-WithInt.operation a c.in_ok-right-in-WithInt.right c.args.store.now e c.in_ok-right-in-WithInt.ensures)
    (at_memory c.in-WithInt.operation c.args.value c.in_ok-right-in-WithInt.right c.args.store.now c.compared_by-in-WithInt.result (simp to_z-of_z at c.compared_by-in-WithInt.ensures))
