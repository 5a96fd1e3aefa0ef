-- Requests over a connection: the answer that comes next, what the server tells with it, and the codes that it stands for.
use Rattle.std.specs.Prelude.{ℕ, ◌==◌, ◌&&◌, not, cond, Bool, true, false, ℤ, neg_ℤ, pos, List, [], ◌∷◌, ◌++◌, bytes_eq, codes, Option, Some, None}
use Rattle.ec_link.specs.declared.logged.Logged.{Logged}
use Rattle.ec_link.specs.declared.reply.Reply.{Reply}
use Rattle.ec_link.specs.declared.reply.Reply.TheVariants.{Connected, NoTarget, Rows, Done, Refused, Broken}
use Rattle.ec_link.specs.declared.reply.Tx.{Tx}
use Rattle.ec_link.specs.declared.reply.Tx.TheVariants.{Idle, Active, Failed}
use Rattle.ec_link.specs.declared.request.Request.{Request}
use Rattle.ec_link.specs.declared.request.Request.TheVariants as request
use Rattle.ec_transfer_defs.specs.declared.finding.Finding.{Finding}
use Rattle.ec_transfer_defs.specs.declared.finding.Finding.TheVariants as found
use Rattle.ec_meaning_defs.specs.evaluation.State.{Answer, Connection, State}
use Rattle.ec_call_defs.specs.Outcomes.{Text, Outcome, gives, over, next, waiting, with_memory, noticed_area, refused, raised}
use Rattle.ec_direct_defs.specs.Names.{first_changed}

-- ---- the next answer

-- the transaction state that the server tells with its answer stays with the connection
abbrev pub told_with : Reply → Connection → Connection
told_with (Rows table tx notice) c = record c { told = tx }
told_with (Done count tx notice) c = record c { told = tx }
told_with (Refused state message tx) c = record c { told = tx }
told_with Connected c = c
told_with NoTarget c = c
told_with Broken c = c

abbrev pub is_over : ℕ → Connection → Bool
is_over slot c = c.slot == slot

-- the conversation goes on with an exchange, and these answers are left
abbrev pub exchanged : Option ℕ → Request → Reply → List Answer → State → State
exchanged slot request reply left s = record s {
  conversation = s.conversation ++ record { slot = slot; request = request; reply = reply } ∷ [];
  answers = left;
}

abbrev pub heard_over : ℕ → Reply → State → State
heard_over slot reply s = record s {
  connections = first_changed (is_over slot) (told_with reply) s.connections;
}

-- a request over the connection of a slot gets the next answer, whatever slot that names. Where none is left the run waits
abbrev pub answer_to : ℕ → Request → State → Outcome Reply
answer_to slot request s = elim s.answers [
  | [] ↦ over (waiting (Some slot) request) s
  | answer ∷ left ↦
      gives answer.1 (exchanged (Some slot) request answer.1 left (heard_over slot answer.1 s))
]

-- ---- what an answer says of a request

-- it was carried out, with a notice of the server or without one; or a code ends the statement: of the server, with its state and its message, or of the library
pub data Verdict : Type 0 where
  carried : Bool → Verdict
  server_code : ℤ → Text → Text → Verdict
  own_code : Finding → Verdict

-- the code of a refusal, by its state: a key that is there already, more than one row of a subquery, or anything else
abbrev pub refusal_code : Text → ℤ
refusal_code state =
    cond (bytes_eq state (codes "23505")) (neg_ℤ (pos 403))
    (cond (bytes_eq state (codes "21000")) (neg_ℤ (pos 404)) (neg_ℤ (pos 400)))

-- of a statement of its own
abbrev pub verdict : Reply → Verdict
verdict (Rows table tx notice) = carried notice
verdict (Done count tx notice) = carried notice
verdict (Refused state message tx) = server_code (refusal_code state.0) state.0 message
verdict Connected = own_code found.ReplyOutOfPlace
verdict NoTarget = own_code found.ReplyOutOfPlace
verdict Broken = own_code found.ConnectionBroken

-- of transaction control: one code for whatever isn't carried out
abbrev pub control_verdict : Reply → Verdict
control_verdict (Rows table tx notice) = carried notice
control_verdict (Done count tx notice) = carried notice
control_verdict (Refused state message tx) = own_code found.ControlRefused
control_verdict Connected = own_code found.ControlRefused
control_verdict NoTarget = own_code found.ControlRefused
control_verdict Broken = own_code found.ControlRefused

-- a notice that the server gave with its answer is told in the communication area
abbrev pub with_notice : Bool → State → State
with_notice true s = with_memory (noticed_area s.memory) s
with_notice false s = s

-- what a verdict makes of a statement that has no rows and no count
abbrev pub concluded : ℕ → Verdict → State → Outcome (Unit {0})
concluded line (carried notice) s = gives tt (with_notice notice s)
concluded line (server_code code state message) s = refused line code state message s
concluded line (own_code finding) s = raised line finding s

-- ---- transactions

abbrev pub control_over : ℕ → Connection → Text → State → Outcome (Unit {0})
control_over line c text s =
    next (answer_to c.slot (request.Text text []) s) (λ reply t.
    concluded line (control_verdict reply) t)

abbrev pub is_in_none : Connection → Bool
is_in_none c = elim c.told [ Idle ↦ true | Active ↦ false | Failed ↦ false ]

-- a transaction is begun where autocommit is off and the server told last that it is in none
abbrev pub transaction_begun : ℕ → Connection → State → Outcome (Unit {0})
transaction_begun line c s = cond (not c.autocommit && is_in_none c)
    (control_over line c (codes "begin transaction") s) (gives tt s)

-- where autocommit goes on, what is in a transaction is committed first
abbrev pub committed_first : ℕ → Bool → Connection → State → Outcome (Unit {0})
committed_first line on c s = cond (on && (not c.autocommit && not (is_in_none c)))
    (control_over line c (codes "commit") s) (gives tt s)
