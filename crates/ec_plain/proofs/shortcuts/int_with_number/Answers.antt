-- The int alone, or with the number behind it.
use Rattle.std.proofs.Common.{◌≡◌, ◌∙◌, ap, refl, rules, sym, Some, [], ◌∷◌}
use Rattle.std.specs.Int.{w64}
use Rattle.std.specs.Prelude.{map}
use mir.Val.{SFits}
use Rattle.std.proofs.lemmas.Int.{to_z-of_z}
use Rattle.ec_code.specs.Trees.{two}
use Rattle.ec_code.specs.Views.{plain_step_view}
use Rattle.ec_code.specs.declared.expression.Plain.{out-Plain}
use Rattle.ec_code.specs.declared.expression.PlainStep.{the_lemmas as step_lemmas}
use Rattle.ec_code.specs.declared.step.Binary.TheVariants as binary
use Rattle.ec_code.specs.declared.step.Leaf.TheVariants as leaf
use Rattle.ec_memory_defs.specs.Memory.{number}
use Rattle.ec_meaning_defs.specs.resolved.Resolved as of
use Rattle.ec_plain.proofs.Numbers.{at_memory, leaf_as, leaf_leads, none_is, one_is, operate_leads, step_leads}
use Rattle.ec_plain.proofs.shortcuts.int_with_number.Goals as goal

pub returns-in-empty : goal.returns-in-empty
returns-in-empty c =
    leaf_leads c.args.scope.now c.args.expression.now c.args.store.now c.int.result
    (sym c.as_slice.ensures ∙ none_is c.as_slice.result.now c.in-empty.len_below)
    (leaf_as c.args.scope.now (out-Plain c.args.expression.now).leaf (leaf.IntValue c.in-IntValue.slot) c.args.store.now c.int.result c.in-IntValue.is c.int.ensures)

pub returns-in_ok-left-in-WithNumber : goal.returns-in_ok-left-in-WithNumber
returns-in_ok-left-in-WithNumber c =
    let f : SFits w64 c.in_ok-left-in-WithNumber.left = search rules in
    let g : SFits w64 c.in-WithNumber.right = search rules in
    let a = of.constant (number c.in-WithNumber.right) in
    let e : plain_step_view c.step-item.result ≡ two (binary.Operate c.in-WithNumber.operation) a = search (rules, step_lemmas) in
    step_leads c.args.scope.now c.args.expression.now (two (binary.Operate c.in-WithNumber.operation) a) c.args.store.now c.args.store.now (number c.in_ok-left-in-WithNumber.left) c.summed_by.result
    (ap (map plain_step_view) (sym c.as_slice.ensures ∙ one_is c.as_slice.result.now c.step-item.result c.in-len1.len_at_least c.in-len1.len_below c.step-item.is) ∙ ap (λ s. s ∷ []) e)
    (leaf_as c.args.scope.now (out-Plain c.args.expression.now).leaf (leaf.IntValue c.in-IntValue.slot) c.args.store.now (Some c.in_ok-left-in-WithNumber.left) c.in-IntValue.is c.in_ok-left-in-WithNumber.ensures)
    (operate_leads c.args.scope.now c.in-WithNumber.operation a c.in_ok-left-in-WithNumber.left c.in-WithNumber.right c.args.store.now c.summed_by.result (λ knowing w line first s. refl)
    (at_memory c.in-WithNumber.operation c.in_ok-left-in-WithNumber.left c.in-WithNumber.right c.args.store.now c.summed_by.result (simp to_z-of_z at c.summed_by.ensures)))
