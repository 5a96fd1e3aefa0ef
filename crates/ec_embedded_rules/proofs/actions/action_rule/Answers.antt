use Rattle.std.proofs.Common.{◌≡◌, ◌∙◌, Some, sym, ap, subst}
use Rattle.ec_base.specs.declared.fault.FaultKind.TheVariants.{F30}
use Rattle.ec_ctypes.specs.views.Embedded.{action_view}
use Rattle.ec_ctypes.specs.views.Exprs.{exprs_view}
use Rattle.ec_scopes.specs.Entries.{place_view}
use Rattle.ec_scopes.specs.Seen.{world_of, Does}
use Rattle.ec_typing_defs.specs.Embedded.{action_rule}
use Rattle.ec_typing_defs.specs.Worlds.{Rule, instead}
use Rattle.ec_embedded_rules.specs.Calls.{called}
use Rattle.ec_embedded_rules.proofs.actions.action_rule.Goals as goal

pub returns-in-Call : goal.returns-in-Call
returns-in-Call c =
    let at = place_view c.args.at in
    let is : instead at F30 (called at c.as_slice-in-Call.result.now (exprs_view c.as_slice-in-Call-2.result.now)) ≡ action_rule c.args.a.in_loop c.args.a.labels.now at (Some (action_view c.args.action.now)) =
    (λ i. instead at F30 (called at (c.as_slice-in-Call.ensures i) (exprs_view (c.as_slice-in-Call-2.ensures i))))
    ∙ sym (ap (λ x. action_rule c.args.a.in_loop c.args.a.labels.now at (Some (action_view x))) c.in-Call.is) in
    subst (λ (r : Rule (Unit {0})). Does (λ u. u) (r (world_of c.args.checker.now)) c.args.checker.now c.call_rule.result c.call_rule.new.checker) is c.call_rule.ensures
