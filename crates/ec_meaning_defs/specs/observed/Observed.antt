-- What the answers of a server are, in a run.
use Rattle.std.specs.Prelude.{ℕ, List, Option, map}
use Rattle.ec_link.specs.declared.reply.Reply.{Reply}
use Rattle.ec_link.specs.declared.logged.Logged.{Logged}

-- an answer of the server: the slot that it came from, if any, and the reply
abbrev pub Answer : Type 0
Answer = Option ℕ × Reply

-- the answers in a log
abbrev pub answers_in : List Logged → List Answer
answers_in log = map (λ e. (e.slot, e.reply)) log
