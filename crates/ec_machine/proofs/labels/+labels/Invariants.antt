use Rattle.std.proofs.Common.{◌≡◌, drop}
use Rattle.ec_code.specs.Marks.{mark_view}
use Rattle.ec_code.specs.Views.{statements_view}
use Rattle.ec_meaning_defs.specs.resolved.Labels.{holds_any}
use Rattle.ec_machine.proofs.labels.+labels.Given as goal

abbrev pub invariant-holds_any-loop-statement : goal.invariant-holds_any-loop-statement
invariant-holds_any-loop-statement l =
    holds_any (mark_view l.label) (statements_view l.statements) ≡ holds_any (mark_view l.label) (statements_view (drop l.statement-index l.statements))
