-- The operation, with the value of an int at its right.
use Rattle.std.proofs.Common.{◌≡◌, rules, subst, sym}
use Rattle.std.specs.Int.{w64}
use mir.Val.{SFits, of_z, to_z}
use Rattle.ec_code.specs.Trees.{leaf_view, two}
use Rattle.ec_code.specs.Views.{plain_step_view}
use Rattle.ec_code.specs.declared.expression.PlainStep.{the_lemmas as step_lemmas}
use Rattle.ec_code.specs.declared.step.Binary.TheVariants as binary
use Rattle.ec_code.specs.declared.step.Leaf.TheVariants as leaf
use Rattle.ec_plain.specs.Numbers.{Operates}
use Rattle.ec_plain.proofs.Numbers.{operates}
use Rattle.ec_plain.proofs.number.right_of.Goals as goal

pub returns-in_ok-number-in-WithInt : goal.returns-in_ok-number-in-WithInt
returns-in_ok-number-in-WithInt c =
    let f : SFits w64 c.in_ok-number-in-WithInt.number = search rules in
    let back : to_z w64 (of_z w64 c.in_ok-number-in-WithInt.number) ≡ c.in_ok-number-in-WithInt.number = search rules in
    let a = leaf_view (leaf.IntValue c.in-WithInt.slot) in
    let e : plain_step_view c.args.step.now ≡ two (binary.Operate c.in-WithInt.operation) a = search (rules, step_lemmas) in
    subst (Operates c.args.scope.now (plain_step_view c.args.step.now) c.args.store.now c.in-WithInt.operation) (sym back)
    (operates c.args.scope.now (plain_step_view c.args.step.now) c.in-WithInt.operation a c.in_ok-number-in-WithInt.number c.args.store.now e c.in_ok-number-in-WithInt.ensures)
