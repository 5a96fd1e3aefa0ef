-- ECPGsetcommit: whether each statement is a transaction by itself.
use Rattle.std.specs.Prelude.{ℕ, Bool, true, false, codes}
use Rattle.ec_arguments.specs.Arguments.{TextArg}
use Rattle.ec_meaning_defs.specs.evaluation.State.{Connection, State}
use Rattle.ec_call_defs.specs.Outcomes.{Outcome, gives, next, begun_area}
use Rattle.ec_call_defs.specs.Connections.{connection_for, changed_at, control_sent, is_idle}
use Rattle.ec_call_defs.specs.Inputs.{text_read}

abbrev pub with_autocommit : Bool → Connection → Connection
with_autocommit on c = record c { autocommit = on }

abbrev pub switched : Bool → Connection → State → Outcome (Unit {0})
switched on c s =
    gives tt (record s { connections = changed_at c.slot (with_autocommit on) s.connections })

-- whether a transaction is to be committed first: autocommit goes on, was off, and the server is in a transaction
abbrev pub commits_first : Bool → Connection → Bool
commits_first true c =
    elim c.autocommit [
      | true ↦ false
      | false ↦ elim (is_idle c.told) [ true ↦ false | false ↦ true ]
    ]
commits_first false c = false

abbrev pub autocommit_set : ℕ → Bool → Connection → State → Outcome (Unit {0})
autocommit_set line on c s = elim (commits_first on c) [
  | true ↦ next (control_sent line c (codes "commit") s) (λ _ t. switched on c t)
  | false ↦ switched on c s
]

abbrev pub autocommit_call : ℕ → Bool → TextArg ℕ → State → Outcome (Unit {0})
autocommit_call line on connection s =
    next (text_read connection s) (λ name s.
    next (begun_area s) (λ _ s.
    next (connection_for line name s) (λ c s. autocommit_set line on c s)))
