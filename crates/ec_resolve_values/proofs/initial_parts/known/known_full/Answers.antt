use Rattle.std.proofs.Common.{◌≡◌, ◌∙◌, ap, map, sym, rules, option_map}
use Rattle.ec_code.specs.declared.expression.Full.{out-Full, the_lemmas}
use Rattle.ec_code.specs.Trees.{walked}
use Rattle.ec_code.specs.Views.{full_step_view, full_view, head_view}
use Rattle.ec_resolving_defs.specs.Initializers.{known_value}
use Rattle.ec_values.specs.Words.{word_view}
use Rattle.ec_resolve_values.specs.initial_parts.Known.{known_walked}
use Rattle.ec_resolve_values.proofs.initial_parts_lemmas.Knowing.{walked_known, step_known}
use Rattle.ec_resolve_values.proofs.initial_parts.known.known_full.Goals as goal

pub loop-step-init : goal.loop-step-init
loop-step-init c =
    let full = out-Full c.args.full.now in
    let seen : full_view c.args.full.now ≡ walked (head_view full.head) (map full_step_view full.steps) = search (rules, the_lemmas) in
    ap known_value seen
    ∙ walked_known (head_view full.head) (map full_step_view full.steps)
    ∙ ap (λ l. known_walked (known_value (head_view full.head)) (map full_step_view l)) (sym c.as_slice-steps.ensures)
    ∙ ap (λ v. known_walked v (map full_step_view c.as_slice-steps.result.now)) (sym c.known_head-value.ensures)

pub loop-step-preserved : goal.loop-step-preserved
loop-step-preserved c =
    step_known full_step_view c.as_slice-steps.result.now c.loop-step.step-index c.step-item.result (option_map word_view c.loop-step.value)
    c.loop-step-test.true c.step-item.is c.loop-step.invariant c.behind_full-value.ensures
