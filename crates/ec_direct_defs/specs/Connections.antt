-- Connections: how the one of a statement is found, and how they are opened, chosen, switched and closed (PostgreSQL manual, "Managing Database Connections").
use Rattle.std.specs.Prelude.{ℕ, cond, Bool, true, false, List, [], ◌∷◌, ◌++◌, find, fold, reverse, bytes_eq, codes, Option, Some, None, option_and_then}
use Rattle.ec_arguments.specs.Arguments.{TextArg}
use Rattle.ec_link.specs.declared.reply.Reply.TheVariants.{Connected}
use Rattle.ec_link.specs.declared.reply.Tx.TheVariants.{Idle}
use Rattle.ec_link.specs.declared.request.Request.{Request}
use Rattle.ec_link.specs.declared.request.Request.TheVariants as request
use Rattle.ec_transfer_defs.specs.declared.finding.Finding.TheVariants as found
use Rattle.ec_meaning_defs.specs.evaluation.State.{Answer, Connection, State}
use Rattle.ec_call_defs.specs.Outcomes.{Text, Outcome, gives, over, next, waiting, begun_area, raised}
use Rattle.ec_direct_defs.specs.Names.{needed, first_changed, first_removed}
use Rattle.ec_direct_defs.specs.Texts.{text_got, text_wanted}
use Rattle.ec_direct_defs.specs.Requests.{is_over, exchanged, answer_to, control_over, committed_first}

-- ---- the connection of a statement

abbrev pub is_called : Text → Connection → Bool
is_called name c = bytes_eq c.name name

-- the name behind AT, or else that of the current connection
abbrev pub name_meant : Option Text → State → Option Text
name_meant name s = elim name [ Some n ↦ Some n | None ↦ s.current ]

abbrev pub connection_meant : Option Text → State → Option Connection
connection_meant name s =
    option_and_then (λ n. find (is_called n) s.connections) (name_meant name s)

abbrev pub connection_over : ℕ → Option Text → State → Outcome Connection
connection_over line name s = needed line found.NoConnection (connection_meant name s) s

-- ---- CONNECT

-- The connection that was opened last is the current one. It is in no transaction, and autocommit is off
abbrev pub opened_now : Text → ℕ → State → State
opened_now name slot s = record s {
  connections = s.connections
      ++ record { name = name; slot = slot; autocommit = false; told = Idle; prepared = [] } ∷ [];
  current = Some name;
}

-- it is open where the answer names a slot and says so; any other answer is one code
abbrev pub opened_for : ℕ → Text → Answer → State → Outcome (Unit {0})
opened_for line name (Some slot, Connected) s = gives tt (opened_now name slot s)
opened_for line name (Some slot, reply) s = raised line found.NotConnected s
opened_for line name (None, reply) s = raised line found.NotConnected s

abbrev pub asked_to_connect : ℕ → Text → Request → State → Outcome (Unit {0})
asked_to_connect line name request s = elim s.answers [
  | [] ↦ over (waiting None request) s
  | answer ∷ left ↦ opened_for line name answer (exchanged answer.0 request answer.1 left s)
]

-- a name that is in use is a code, and nothing is sent
abbrev pub opened_as : ℕ → Text → Request → State → Outcome (Unit {0})
opened_as line name request s = elim (find (is_called name) s.connections) [
  | Some c ↦ raised line found.NotConnected s
  | None ↦ asked_to_connect line name request s
]

-- without AS the text of the target is the name
abbrev pub name_for : Text → Option Text → Text
name_for target name = elim name [ Some n ↦ n | None ↦ target ]

abbrev pub connection_opened : ℕ → TextArg ℕ → TextArg ℕ → TextArg ℕ → TextArg ℕ → State
    → Outcome (Unit {0})
connection_opened line target user password name s =
    next (text_wanted target s) (λ target s.
    next (text_got user s) (λ user s.
    next (text_got password s) (λ password s.
    next (text_got name s) (λ name s.
    next (begun_area s) (λ _ s.
    opened_as line (name_for target name) (request.Connect target user password) s)))))

-- ---- SET CONNECTION

abbrev pub connection_chosen : ℕ → TextArg ℕ → State → Outcome (Unit {0})
connection_chosen line name s =
    next (text_wanted name s) (λ called s.
    next (begun_area s) (λ _ s.
    next (connection_over line (Some called) s) (λ c s.
    gives tt (record s { current = Some called }))))

-- ---- SET AUTOCOMMIT

abbrev pub autocommit_switched : ℕ → Bool → TextArg ℕ → State → Outcome (Unit {0})
autocommit_switched line on at s =
    next (text_got at s) (λ name s.
    next (begun_area s) (λ _ s.
    next (connection_over line name s) (λ c s.
    next (committed_first line on c s) (λ _ s.
    gives tt (record s {
      connections = first_changed (is_over c.slot) (λ c. record c { autocommit = on }) s.connections;
    })))))

-- ---- transaction control

abbrev pub transaction_controlled : ℕ → TextArg ℕ → Text → State → Outcome (Unit {0})
transaction_controlled line at text s =
    next (text_got at s) (λ name s.
    next (begun_area s) (λ _ s.
    next (connection_over line name s) (λ c s. control_over line c text s)))

-- ---- DISCONNECT

-- the name of the one that was opened last
abbrev pub opened_last : List Connection → Option Text
opened_last cs = fold (λ last c. Some c.name) None cs

-- where the current one is closed, the one that was opened last of those that are left is current
abbrev pub current_behind : Text → Option Text → List Connection → Option Text
current_behind closed current left = option_and_then (λ name.
    cond (bytes_eq name closed) (opened_last left) (Some name)) current

abbrev pub closed_now : Text → State → State
closed_now name s =
    let left = first_removed (is_called name) s.connections in
    record s { connections = left; current = current_behind name s.current left }

-- the answer to a close isn't looked at
abbrev pub connection_closed : Connection → State → Outcome (Unit {0})
connection_closed c s =
    next (answer_to c.slot request.Close s) (λ reply t. gives tt (closed_now c.name t))

abbrev pub each_closed : List Connection → State → Outcome (Unit {0})
each_closed [] s = gives tt s
each_closed (c ∷ cs) s = next (connection_closed c s) (λ _ t. each_closed cs t)

abbrev pub closed_over : ℕ → Option Text → State → Outcome (Unit {0})
closed_over line name s = next (connection_over line name s) (λ c t. connection_closed c t)

-- two texts are special, however they came: CURRENT, and ALL, which closes the one that was opened last first
abbrev pub disconnected_as : ℕ → Text → State → Outcome (Unit {0})
disconnected_as line name s =
    cond (bytes_eq name (codes "CURRENT")) (closed_over line None s)
    (cond (bytes_eq name (codes "ALL")) (each_closed (reverse s.connections) s)
    (closed_over line (Some name) s))

abbrev pub connections_closed : ℕ → TextArg ℕ → State → Outcome (Unit {0})
connections_closed line name s =
    next (text_wanted name s) (λ called s. next (begun_area s) (λ _ s. disconnected_as line called s))
