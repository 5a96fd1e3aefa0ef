-- Runs over racks, and what it means that a run over links that replay another one says the same.
use Rattle.std.specs.Prelude.{◌≡◌, ◌≢◌, ℕ, Option, Some, None, List, ◌∷◌, ◌++◌, slice_set}
use Rattle.ec_link.specs.declared.logged.Logged.{Logged}
use Rattle.ec_link.specs.declared.request.Request.{Request}
use Rattle.ec_link.specs.SlotState.{SlotState, Slots, ready_slot, taken}
use Rattle.ec_meaning_defs.specs.evaluation.State.{Answer, waits}
use Rattle.ec_meaning_defs.specs.evaluation.Whole.{Observed}
use Rattle.ec_meaning_defs.specs.observed.Observed.{answers_in}
use Rattle.ec_meaning_defs.specs.observed.Run.{IsFront}
use Rattle.ec_replay_laws.specs.Parts.{RepliesAsRecorded}

-- what is seen of a program for a number of turns: by the slot and the name that are connected when it begins, if there
-- are such, and by the answers that come
abbrev pub Meaning : Type 0
Meaning = Option (ℕ × List ℕ) → List Answer → Observed

-- the slots, of which that one is taken
abbrev pub taken_first : Option (ℕ × List ℕ) → List SlotState → List SlotState
taken_first None slots = slots
taken_first (Some found) slots = slice_set slots found.0 (taken found.1)

-- A run of the program over a rack whose slots stand so. The first ready slot is taken, if there is one; the run came to
-- an end of its own, this was said, as the slots allow it, and this was seen of it.
pub record Ran (meaning : Meaning) (slots : List SlotState) (log : List Logged)
    (seen : Observed) : Type 0 where
  pub means : meaning (ready_slot slots) (answers_in log) ≡ seen
  pub said : seen.conversation ≡ log
  pub ended : (slot : Option ℕ) (request : Request) → seen.ending ≢ waits slot request
  pub after : List SlotState
  pub exchanged : Slots (taken_first (ready_slot slots) slots) log after

-- A run that broke off, at a write fault or for want of memory: this was said and this was printed of what the program
-- means over the answers that came.
pub record RanPart (meaning : Meaning) (slots : List SlotState) (log : List Logged)
    (printed complained : List ℕ) : Type 0 where
  pub said : IsFront log (meaning (ready_slot slots) (answers_in log)).conversation
  pub output : IsFront printed (meaning (ready_slot slots) (answers_in log)).output
  pub errors : IsFront complained (meaning (ready_slot slots) (answers_in log)).errors
  pub after : List SlotState
  pub exchanged : Slots (taken_first (ready_slot slots) slots) log after

-- the same was said, and the same is seen: what was printed, every object, and the ending
pub record IsSameRun (recorded log : List Logged) (seen seen' : Observed) : Type 0 where
  pub same_log : log ≡ recorded
  pub same_seen : seen' ≡ seen

-- what was said and printed are fronts of it
pub record IsFrontOfRun (recorded log : List Logged) (seen : Observed)
    (printed complained : List ℕ) : Type 0 where
  pub said : IsFront log recorded
  pub output : IsFront printed seen.output
  pub errors : IsFront complained seen.errors

-- Two runs over slots that stand alike say the same, where the links of the second gave what the first recorded.
abbrev pub SaysTheSame : Meaning → Type 0
SaysTheSame meaning =
    (slots : List SlotState) (recorded log : List Logged) (seen seen' : Observed)
    → Ran meaning slots recorded seen → Ran meaning slots log seen'
    → RepliesAsRecorded recorded log → IsSameRun recorded log seen seen'

-- Where the second broke off, it said and printed fronts.
abbrev pub SaysAFront : Meaning → Type 0
SaysAFront meaning =
    (slots : List SlotState) (recorded log : List Logged) (seen : Observed)
    (printed complained : List ℕ) → Ran meaning slots recorded seen
    → RanPart meaning slots log printed complained
    → RepliesAsRecorded recorded log → IsFrontOfRun recorded log seen printed complained

-- Two logs of whatever programs, over slots that stand alike and over links of which those of the second replay the first:
-- behind a front that both have, exchanges of one request over one slot have one reply. So where the logs first differ,
-- the programs ask for different things or over different slots, or one of them ends.
abbrev pub AnswersAlike : Type 0
AnswersAlike =
    (slots after after' : List SlotState) (recorded log : List Logged)
    → Slots slots recorded after → Slots slots log after' → RepliesAsRecorded recorded log
    → (front rest rest' : List Logged) (x y : Logged)
    → recorded ≡ front ++ x ∷ rest → log ≡ front ++ y ∷ rest'
    → y.slot ≡ x.slot → y.request ≡ x.request → y ≡ x
