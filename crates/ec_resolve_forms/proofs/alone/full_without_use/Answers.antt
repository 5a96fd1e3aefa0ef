use Rattle.std.proofs.Common.{◌≡◌, ◌≢◌, ◌∙◌, [], map, rules, sym, ap}
use Rattle.std.proofs.lemmas.Bool.{false≢true}
use Rattle.ec_code.specs.declared.expression.Expression.{the_lemmas}
use Rattle.ec_code.specs.declared.expression.Expression.TheViews as E
use Rattle.ec_code.specs.declared.expression.Full.{the_lemmas as full_lemmas}
use Rattle.ec_code.specs.Trees.{walked}
use Rattle.ec_code.specs.Views.{full_view, full_step_view, head_view}
use Rattle.ec_resolving_defs.specs.Operands.{without_use}
use Rattle.ec_resolve_forms.proofs.Uses.{behind_steps}
use Rattle.ec_resolve_forms.proofs.alone.full_without_use.Goals as goal

pub returns-else-is_empty : goal.returns-else-is_empty
returns-else-is_empty c =
    let full = c.args.full in
    let n : full.steps ≢ [] = λ h. search (rules, false≢true, h, c.is_empty.ensures, c.if-is_empty.false) in
    let d : full_view (E.roll-Full record { head = full.head; steps = full.steps }) ≡ walked (head_view full.head) (map full_step_view full.steps) = search (rules, the_lemmas, full_lemmas) in
    let o : full_view full ≡ walked (head_view full.head) (map full_step_view full.steps) = search (rules, the_lemmas, full_lemmas) in
    d ∙ behind_steps full_step_view (head_view full.head) full.steps n ∙ ap without_use (sym o)
