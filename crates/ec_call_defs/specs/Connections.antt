-- The open connections, and requests over them.
use Rattle.std.specs.Prelude.{ℕ, nat_eq, Bool, true, false, List, [], ◌∷◌, ◌++◌, codes, Option, Some, None}
use Rattle.std.specs.Cmp.Lexicographic.{pointwise}
use Rattle.ec_link.specs.declared.logged.Logged.{Logged}
use Rattle.ec_link.specs.declared.reply.Reply.{Reply}
use Rattle.ec_link.specs.declared.reply.Reply.TheVariants.{Connected, NoTarget, Rows, Done, Refused, Broken}
use Rattle.ec_link.specs.declared.reply.Tx.{Tx}
use Rattle.ec_link.specs.declared.reply.Tx.TheVariants.{Idle, Active, Failed}
use Rattle.ec_link.specs.declared.request.Request.{Request}
use Rattle.ec_link.specs.declared.request.Request.TheVariants as request
use Rattle.ec_transfer_defs.specs.declared.finding.Finding.TheVariants as found
use Rattle.ec_meaning_defs.specs.evaluation.State.{Answer, Connection, State}
use Rattle.ec_call_defs.specs.Outcomes.{Text, waiting, Outcome, gives, over, next, heard, raised}

-- names compare byte for byte
abbrev pub same_name : Text → Text → Bool
same_name a b = pointwise nat_eq a b

-- the connection of a name
abbrev pub connection_named : Text → List Connection → Option Connection
connection_named name [] = None
connection_named name (c ∷ cs) =
    elim (same_name c.name name) [ true ↦ Some c | false ↦ connection_named name cs ]

-- the name that is asked for, or that of the current connection
abbrev pub wanted_name : Option Text → State → Option Text
wanted_name None s = s.current
wanted_name (Some name) s = Some name

abbrev pub found_connection : ℕ → Option Connection → State → Outcome Connection
found_connection line None s = raised line found.NoConnection s
found_connection line (Some c) s = gives c s

abbrev pub connection_of : ℕ → Option Text → State → Outcome Connection
connection_of line None s = raised line found.NoConnection s
connection_of line (Some name) s = found_connection line (connection_named name s.connections) s

-- the connection of this name, or the current one
abbrev pub connection_for : ℕ → Option Text → State → Outcome Connection
connection_for line name s = connection_of line (wanted_name name s) s

-- ---- what a reply tells of its transaction

abbrev pub told_by : Reply → Option Tx
told_by (Rows table tx notice) = Some tx
told_by (Done count tx notice) = Some tx
told_by (Refused state message tx) = Some tx
told_by Connected = None
told_by NoTarget = None
told_by Broken = None

-- a connection behind a reply: one that tells nothing leaves what was told last
abbrev pub with_told : Option Tx → Connection → Connection
with_told None c = c
with_told (Some tx) c = record c { told = tx }

-- the connection of a slot, changed
abbrev pub changed_at : ℕ → (Connection → Connection) → List Connection → List Connection
changed_at slot change [] = []
changed_at slot change (c ∷ cs) =
    elim (nat_eq c.slot slot) [ true ↦ change c ∷ cs | false ↦ c ∷ changed_at slot change cs ]

-- ---- requests

abbrev pub exchange : Option ℕ → Request → Reply → Logged
exchange slot request reply = record { slot = slot; request = request; reply = reply }

-- the next answer to a request over a slot
abbrev pub answered : ℕ → Request → List Answer → State → Outcome Reply
answered slot request [] s = over (waiting (Some slot) request) s
answered slot request (answer ∷ more) s = gives answer.1 (record s {
  connections = changed_at slot (with_told (told_by answer.1)) s.connections;
  conversation = s.conversation ++ exchange (Some slot) request answer.1 ∷ [];
  answers = more;
})

-- a request over the connection of a slot gets the next answer, or waits for it
abbrev pub asked : ℕ → Request → State → Outcome Reply
asked slot request s = answered slot request s.answers s

-- ---- transactions

-- a reply to transaction control: it was carried out, with a notice or without, or the call ends
abbrev pub controlled : ℕ → Reply → State → Outcome (Unit {0})
controlled line (Rows table tx notice) s = gives tt (heard notice s)
controlled line (Done count tx notice) s = gives tt (heard notice s)
controlled line (Refused state message tx) s = raised line found.ControlRefused s
controlled line Connected s = raised line found.ControlRefused s
controlled line NoTarget s = raised line found.ControlRefused s
controlled line Broken s = raised line found.ControlRefused s

-- transaction control over a connection
abbrev pub control_sent : ℕ → Connection → Text → State → Outcome (Unit {0})
control_sent line c text s =
    next (asked c.slot (request.Text text []) s) (λ reply t. controlled line reply t)

abbrev pub is_idle : Tx → Bool
is_idle Idle = true
is_idle Active = false
is_idle Failed = false

-- whether a transaction is to be begun before a statement: autocommit is off, and the server told last that it is in none
abbrev pub begins : Connection → Bool
begins c = elim c.autocommit [ true ↦ false | false ↦ is_idle c.told ]

abbrev pub begin_text : Text
begin_text = codes "begin transaction"

-- `begin transaction` is sent where it is due
abbrev pub begun : ℕ → Connection → State → Outcome (Unit {0})
begun line c s = elim (begins c) [ true ↦ control_sent line c begin_text s | false ↦ gives tt s ]
