-- ECPGtrans: transaction control, as its text stands. No transaction is begun before it.
use Rattle.std.specs.Prelude.{ℕ}
use Rattle.ec_arguments.specs.Arguments.{TextArg}
use Rattle.ec_meaning_defs.specs.evaluation.State.{State}
use Rattle.ec_call_defs.specs.Outcomes.{Text, Outcome, next, begun_area}
use Rattle.ec_call_defs.specs.Connections.{connection_for, control_sent}
use Rattle.ec_call_defs.specs.Inputs.{text_read}

abbrev pub control_call : ℕ → TextArg ℕ → Text → State → Outcome (Unit {0})
control_call line connection text s =
    next (text_read connection s) (λ name s.
    next (begun_area s) (λ _ s.
    next (connection_for line name s) (λ c s. control_sent line c text s)))
