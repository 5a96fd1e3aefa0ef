-- ECPGdisconnect.
use Rattle.std.specs.Prelude.{ℕ, true, false, List, [], ◌∷◌, reverse, codes, Option, Some, None}
use Rattle.ec_arguments.specs.Arguments.{TextArg}
use Rattle.ec_link.specs.declared.request.Request.TheVariants as request
use Rattle.ec_meaning_defs.specs.evaluation.State.{Connection, State}
use Rattle.ec_call_defs.specs.Outcomes.{Text, Outcome, gives, next, begun_area}
use Rattle.ec_call_defs.specs.Connections.{same_name, connection_for, asked}
use Rattle.ec_call_defs.specs.Inputs.{given_read}

abbrev pub without_connection : Text → List Connection → List Connection
without_connection name [] = []
without_connection name (c ∷ cs) =
    elim (same_name c.name name) [ true ↦ cs | false ↦ c ∷ without_connection name cs ]

-- the name of the connection that was opened last
abbrev pub last_name : List Connection → Option Text
last_name [] = None
last_name (c ∷ []) = Some c.name
last_name (c ∷ d ∷ cs) = last_name (d ∷ cs)

-- the current connection, where that of a name is gone: the one opened last of those that are left, if it was the current one
abbrev pub current_without : Text → Option Text → List Connection → Option Text
current_without name None left = None
current_without name (Some current) left =
    elim (same_name current name) [ true ↦ last_name left | false ↦ Some current ]

abbrev pub removed : Text → State → State
removed name s = record s {
  connections = without_connection name s.connections;
  current = current_without name s.current (without_connection name s.connections);
}

-- a connection is closed, whatever the answer
abbrev pub closed : Connection → State → Outcome (Unit {0})
closed c s = next (asked c.slot request.Close s) (λ reply t. gives tt (removed c.name t))

-- one after the other
abbrev pub all_closed : List Connection → State → Outcome (Unit {0})
all_closed [] s = gives tt s
all_closed (c ∷ cs) s = next (closed c s) (λ _ t. all_closed cs t)

abbrev pub one_closed : ℕ → Option Text → State → Outcome (Unit {0})
one_closed line name s = next (connection_for line name s) (λ c t. closed c t)

-- the current connection, all connections, that which was opened last first, or the connection of a name
abbrev pub disconnected : ℕ → Text → State → Outcome (Unit {0})
disconnected line name s = elim (same_name name (codes "CURRENT")) [
  | true ↦ one_closed line None s
  | false ↦ elim (same_name name (codes "ALL")) [
    | true ↦ all_closed (reverse s.connections) s
    | false ↦ one_closed line (Some name) s
  ]
]

abbrev pub disconnect_call : ℕ → TextArg ℕ → State → Outcome (Unit {0})
disconnect_call line name s =
    next (given_read name s) (λ called s. next (begun_area s) (λ _ s. disconnected line called s))
