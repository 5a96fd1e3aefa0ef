-- The step is this operation.
use Rattle.std.proofs.Common.{◌≡◌, rules}
use Rattle.ec_code.specs.Trees.{leaf_view, two}
use Rattle.ec_code.specs.Views.{plain_step_view}
use Rattle.ec_code.specs.declared.expression.PlainStep.{the_lemmas as step_lemmas}
use Rattle.ec_code.specs.declared.step.Binary.TheVariants as binary
use Rattle.ec_code.specs.declared.step.Leaf.TheVariants as leaf
use Rattle.ec_memory_defs.specs.Memory.{number}
use Rattle.std.proofs.lemmas.Int.{to_z-of_z}
use Rattle.ec_plain.proofs.Numbers.{step_as}
use Rattle.ec_plain.proofs.number.without_right.Goals as goal

pub returns-in-WithLong : goal.returns-in-WithLong
returns-in-WithLong c =
    let g = c.ranges.value in
    let e : plain_step_view c.args.step.now ≡ two (binary.Operate c.in-WithLong.operation) (leaf_view (leaf.LongValue c.in-WithLong.slot)) = search (rules, step_lemmas) in
    step_as c.args.scope.now number (plain_step_view c.args.step.now) (two (binary.Operate c.in-WithLong.operation) (leaf_view (leaf.LongValue c.in-WithLong.slot))) (number c.args.value) c.args.store.now c.args.store.now c.with_long.result e (simp to_z-of_z at c.with_long.ensures)
