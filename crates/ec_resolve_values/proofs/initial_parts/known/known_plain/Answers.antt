use Rattle.std.proofs.Common.{◌≡◌, ◌∙◌, ap, map, sym, rules, option_map}
use Rattle.ec_code.specs.declared.expression.Plain.{out-Plain, the_lemmas}
use Rattle.ec_code.specs.Trees.{leaf_view, walked}
use Rattle.ec_code.specs.Views.{plain_step_view, plain_view}
use Rattle.ec_resolving_defs.specs.Initializers.{known_value}
use Rattle.ec_values.specs.Words.{word_view}
use Rattle.ec_resolve_values.specs.initial_parts.Known.{known_walked}
use Rattle.ec_resolve_values.proofs.initial_parts_lemmas.Knowing.{walked_known, step_known}
use Rattle.ec_resolve_values.proofs.initial_parts.known.known_plain.Goals as goal

pub loop-step-init : goal.loop-step-init
loop-step-init c =
    let plain = out-Plain c.args.plain.now in
    let seen : plain_view c.args.plain.now ≡ walked (leaf_view plain.leaf) (map plain_step_view plain.steps) = search (rules, the_lemmas) in
    ap known_value seen
    ∙ walked_known (leaf_view plain.leaf) (map plain_step_view plain.steps)
    ∙ ap (λ l. known_walked (known_value (leaf_view plain.leaf)) (map plain_step_view l)) (sym c.as_slice-steps.ensures)
    ∙ ap (λ v. known_walked v (map plain_step_view c.as_slice-steps.result.now)) (sym c.known_leaf-value.ensures)

pub loop-step-preserved : goal.loop-step-preserved
loop-step-preserved c =
    step_known plain_step_view c.as_slice-steps.result.now c.loop-step.step-index c.step-item.result (option_map word_view c.loop-step.value)
    c.loop-step-test.true c.step-item.is c.loop-step.invariant c.behind_plain-value.ensures
