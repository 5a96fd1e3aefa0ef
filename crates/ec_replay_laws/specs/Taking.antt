-- Meanings that take the answers that come one by one, each exactly where the request stands that it answers.
use Rattle.std.specs.Prelude.{◌≡◌, ℕ, List, ◌∷◌, ◌++◌, map, Option, Some, None}
use Rattle.ec_link.specs.declared.logged.Logged.{Logged}
use Rattle.ec_link.specs.declared.reply.Reply.{Reply}
use Rattle.ec_link.specs.declared.request.Request.{Request}
use Rattle.ec_link.specs.Logged.{IsConnect, replies_of}
use Rattle.ec_meaning_defs.specs.evaluation.Agree.{IsWaiting}
use Rattle.ec_meaning_defs.specs.evaluation.State.{Answer, waits}
use Rattle.ec_meaning_defs.specs.evaluation.Whole.{Observed}
use Rattle.ec_meaning_defs.specs.observed.Run.{IsFront}
use Rattle.ec_replay_laws.specs.Runs.{Meaning}

-- the slot of an exchange: that of the connection that it is made over, or, where there is none yet, that of the answer
abbrev pub slot_with : Option ℕ → Answer → Option ℕ
slot_with None answer = answer.0
slot_with (Some i) answer = Some i

-- the exchange that an answer makes of a request that waits over this slot, or over none
abbrev pub exchange_with : Option ℕ → Request → Answer → Logged
exchange_with slot request answer =
    record { slot = slot_with slot answer; request = request; reply = answer.1 }

-- a request over no slot asks for a connection
abbrev pub MayWait : Option ℕ → Request → Type 0
MayWait None request = IsConnect request
MayWait (Some i) request = Unit {0}

-- the replies of answers, in order
abbrev pub replies_in : List Answer → List Reply
replies_in answers = map (λ a. a.1) answers

-- A run goes on behind what was seen of it: this exchange is the next, and what was printed stays.
pub record GoesOnWith (exchange : Logged) (before after : Observed) : Type 0 where
  pub rest : List Logged
  pub said : after.conversation ≡ before.conversation ++ exchange ∷ rest
  pub printed : IsFront before.output after.output
  pub complained : IsFront before.errors after.errors

-- A run waits with this request. Every answer that there is was taken, one by each exchange, and whatever answer comes
-- next, and whatever comes behind it, the run goes on with the exchange that the answer makes of this request.
pub record GoesOnExactly (run : List Answer → Observed) (answers : List Answer)
    (slot : Option ℕ) (request : Request) : Type 0 where
  pub asks : MayWait slot request
  pub taken : replies_of (run answers).conversation ≡ replies_in answers
  pub next : (answer : Answer) (more : List Answer)
      → GoesOnWith (exchange_with slot request answer) (run answers) (run (answers ++ answer ∷ more))

-- A run that waits for no answer is the same whatever answers come behind; one that waits goes on exactly.
pub record RunsExactly (run : List Answer → Observed) : Type 0 where
  pub settled : (answers more : List Answer) → (IsWaiting (run answers).ending → ⊥)
      → run (answers ++ more) ≡ run answers
  pub waiting : (answers : List Answer) (slot : Option ℕ) (request : Request)
      → (run answers).ending ≡ waits slot request → GoesOnExactly run answers slot request

-- so it is, whatever is connected when it begins
abbrev pub TakesExactly : Meaning → Type 0
TakesExactly meaning = (ready : Option (ℕ × List ℕ)) → RunsExactly (meaning ready)
