-- ECPGconnect and ECPGsetconn.
use Rattle.std.specs.Prelude.{ℕ, false, List, [], ◌∷◌, ◌++◌, Option, Some, None}
use Rattle.ec_arguments.specs.Arguments.{TextArg}
use Rattle.ec_link.specs.declared.reply.Reply.TheVariants.{Connected}
use Rattle.ec_link.specs.declared.reply.Tx.TheVariants.{Idle}
use Rattle.ec_link.specs.declared.request.Request.{Request}
use Rattle.ec_link.specs.declared.request.Request.TheVariants as request
use Rattle.ec_transfer_defs.specs.declared.finding.Finding.TheVariants as found
use Rattle.ec_meaning_defs.specs.evaluation.State.{Answer, Connection, State}
use Rattle.ec_call_defs.specs.Outcomes.{Text, waiting, Outcome, gives, over, next, begun_area, raised}
use Rattle.ec_call_defs.specs.Connections.{connection_named, connection_for, exchange}
use Rattle.ec_call_defs.specs.Inputs.{text_read, given_read}

-- a new connection is the current one: autocommit is off, and the server is in no transaction
abbrev pub opened : Text → ℕ → State → State
opened name slot s = record s {
  connections = s.connections
      ++ record { name = name; slot = slot; autocommit = false; told = Idle; prepared = [] } ∷ [];
  current = Some name;
}

-- it is open where its answer has a slot and says so
abbrev pub opened_by : ℕ → Text → Answer → State → Outcome (Unit {0})
opened_by line name (Some slot, Connected) s = gives tt (opened name slot s)
opened_by line name (Some slot, reply) s = raised line found.NotConnected s
opened_by line name (None, reply) s = raised line found.NotConnected s

-- a request to connect gets the next answer, which has the slot, or waits for it
abbrev pub connecting : ℕ → Text → Request → List Answer → State → Outcome (Unit {0})
connecting line name request [] s = over (waiting None request) s
connecting line name request (answer ∷ more) s =
    opened_by line name answer
    (record s {
      conversation = s.conversation ++ exchange answer.0 request answer.1 ∷ [];
      answers = more;
    })

-- a name that is in use gives a code without a request
abbrev pub unless_named : ℕ → Text → Request → Option Connection → State → Outcome (Unit {0})
unless_named line name request (Some c) s = raised line found.NotConnected s
unless_named line name request None s = connecting line name request s.answers s

-- without a name of its own a connection has the text of its target
abbrev pub own_name : Text → Option Text → Text
own_name target None = target
own_name target (Some name) = name

abbrev pub connect_call : ℕ → TextArg ℕ → TextArg ℕ →
    TextArg ℕ → TextArg ℕ → State → Outcome (Unit {0})
connect_call line target user password name s =
    next (given_read target s) (λ server s.
    next (text_read user s) (λ by s.
    next (text_read password s) (λ word s.
    next (text_read name s) (λ called s.
    next (begun_area s) (λ _ s.
    unless_named line (own_name server called) (request.Connect server by word)
    (connection_named (own_name server called) s.connections) s)))))

-- the connection of this name is the current one
abbrev pub set_connection_call : ℕ → TextArg ℕ → State → Outcome (Unit {0})
set_connection_call line name s =
    next (given_read name s) (λ called s.
    next (begun_area s) (λ _ s.
    next (connection_for line (Some called) s) (λ c s.
    gives tt (record s { current = Some called }))))
