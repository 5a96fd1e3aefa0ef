-- What a part of a library call leads to, and how a call goes on from there.
use Rattle.std.specs.Prelude.{ℕ, ℤ, Bool, true, false, List, Option, Some, None, Result, Ok, Err}
use Rattle.ec_base.specs.declared.stop.Trap.{Trap}
use Rattle.ec_link.specs.declared.request.Request.{Request}
use Rattle.ec_memory_defs.specs.Memory.{Memory}
use Rattle.ec_transfer_defs.specs.declared.finding.Finding.{Finding}
use Rattle.ec_transfer_defs.specs.Area.{area_reset, area_raised, area_warned, area_noticed, area_counted}
use Rattle.ec_transfer_defs.specs.Codes.{code_of, state_of, text_of_finding}
use Rattle.ec_meaning_defs.specs.evaluation.State.{State}

-- a text, and a field of an answer or a parameter: a text, or none for NULL
abbrev pub Text : Type 0
Text = List ℕ

abbrev pub Field : Type 0
Field = Option Text

-- why a run is over: a trap; a request over a slot that has no answer yet; or what no call does whose list cuts
pub data Halt : Type 0 where
  trapped : Trap → Halt
  waiting : Option ℕ → Request → Halt
  stuck : Halt

-- a part of a call gives a value, or a code ends the call, or the run is over
pub data Outcome (A : Type 0) : Type 0 where
  gives : A → State → Outcome A
  finished : State → Outcome A
  over : Halt → State → Outcome A

abbrev pub next : {A B : Type 0} → Outcome A → (A → State → Outcome B) → Outcome B
next (gives a s) go = go a s
next (finished s) go = finished s
next (over halt s) go = over halt s

-- what memory gives
abbrev pub trying : {A : Type 0} → Result A Trap → State → Outcome A
trying (Ok a) s = gives a s
trying (Err trap) s = over (trapped trap) s

abbrev pub present : {A : Type 0} → Option A → State → Outcome A
present (Some a) s = gives a s
present None s = over stuck s

abbrev pub with_memory : Memory → State → State
with_memory m s = record s { memory = m }

-- ---- the communication area

-- as it is when a statement begins
unfoldable pub fresh_area : Memory → Memory
fresh_area m = area_reset m

-- behind a code with its state and its message, of a call with this line
unfoldable pub told_area : ℤ → Text → Text → ℕ → Memory → Memory
told_area code state message line m = area_raised m code state message line

-- behind a value that was cut
unfoldable pub warned_area : Memory → Memory
warned_area m = area_warned m

-- behind a notice of the server
unfoldable pub noticed_area : Memory → Memory
noticed_area m = area_noticed m

-- behind a number of rows
unfoldable pub counted_area : ℕ → Memory → Memory
counted_area n m = area_counted m n

-- a code with its state and its message ends the call
abbrev pub refused : {A : Type 0} → ℕ → ℤ → Text → Text → State → Outcome A
refused line code state message s =
    finished (with_memory (told_area code state message line s.memory) s)

-- what the library finds wrong by itself ends the call
abbrev pub raised : {A : Type 0} → ℕ → Finding → State → Outcome A
raised line finding s =
    refused line (code_of finding) (state_of finding) (text_of_finding finding) s

-- behind an answer with a notice of the server or without one
abbrev pub noticed : Bool → Memory → Memory
noticed true m = noticed_area m
noticed false m = m

-- a notice is told before anything else is made of its answer
abbrev pub heard : Bool → State → State
heard notice s = with_memory (noticed notice s.memory) s

-- the area is set to its opening value
abbrev pub begun_area : State → Outcome (Unit {0})
begun_area s = gives tt (with_memory (fresh_area s.memory) s)
