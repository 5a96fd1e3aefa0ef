-- Several programs that run over one set of connections: whose request is answered next, by a schedule, and what is seen of
-- each program in the end.
use Rattle.std.specs.Prelude.{ℕ, zero, suc, is_some, List, [], ◌∷◌, ◌++◌, map, slice_get, Option, Some, None, option_and_then, option_map, if◌then◌else◌}
use Rattle.ec_link.specs.declared.request.Request.{Request}
use Rattle.ec_meaning_defs.specs.evaluation.State.{Answer, Ending, waits}
use Rattle.ec_meaning_defs.specs.evaluation.Whole.{Observed}
use Rattle.ec_sessions_defs.specs.Events.{Event}

-- what is seen of a program, by the answers that it gets
abbrev pub Course : Type 0
Course = List Answer → Observed

-- a program among others, and the answers that it got so far
pub record Seat : Type 0 where
  pub course : Course
  pub got : List Answer

-- programs before anything was answered
abbrev pub seated : List Course → List Seat
seated courses = map (λ it. record { course = it; got = [] }) courses

abbrev pub seen_at : Seat → Observed
seen_at it = it.course it.got

-- what is seen of each, in order
abbrev pub all_seen : List Seat → List Observed
all_seen seats = map seen_at seats

-- A request that waits, with the slot of its connection, if there is one.
abbrev pub Waiting : Type 0
Waiting = Option ℕ × Request

abbrev pub waiting_in : Ending → Option Waiting
waiting_in (waits slot request) = Some (slot, request)
waiting_in _ = None

-- what a program waits with
abbrev pub waiting_at : Seat → Option Waiting
waiting_at it = waiting_in (seen_at it).ending

-- the program of this number; the first has the number 1
abbrev pub seat_of : List Seat → ℕ → Option Seat
seat_of seats zero = None
seat_of seats (suc n) = slice_get seats n

-- what the program of this number waits with, if there is one that waits
abbrev pub waiting_of : List Seat → ℕ → Option Waiting
waiting_of seats number = option_and_then waiting_at (seat_of seats number)

-- the least of the numbers from this one on whose program waits
abbrev pub least_waiting : ℕ → List Seat → Option ℕ
least_waiting number [] = None
least_waiting number (it ∷ seats) =
    if is_some (waiting_at it) then Some number else least_waiting (suc number) seats

-- Whose request is answered next, and what is left of the schedule: the program of the first entry that names one that waits.
-- The entries before it are passed over. Where no entry does, it is the least program that waits.
abbrev pub next_of : List Seat → List ℕ → Option (ℕ × List ℕ)
next_of seats [] = option_map (λ number. (number, [])) (least_waiting 1 seats)
next_of seats (number ∷ schedule) =
    if is_some (waiting_of seats number) then Some (number, schedule) else next_of seats schedule

-- the slot of an exchange: that of the connection, or, where there is none yet, that of the answer
abbrev pub slot_said : Option ℕ → Answer → Option ℕ
slot_said None answer = answer.0
slot_said (Some slot) answer = Some slot

-- the event that an answer makes of what a program waits with
abbrev pub event_of : ℕ → Waiting → Answer → Event
event_of number asked answer = record {
  program = number;
  exchange = record { slot = slot_said asked.0 answer; request = asked.1; reply = answer.1 };
}

-- a program that got one answer more
abbrev pub with_answer : Answer → Seat → Seat
with_answer answer it = record it { got = it.got ++ answer ∷ [] }

-- the program that stands there, counted from 0, got one answer more
abbrev pub answered_at : Answer → ℕ → List Seat → List Seat
answered_at answer n [] = []
answered_at answer zero (it ∷ seats) = with_answer answer it ∷ seats
answered_at answer (suc n) (it ∷ seats) = it ∷ answered_at answer n seats

-- the program of this number got one answer more
abbrev pub answered : Answer → ℕ → List Seat → List Seat
answered answer zero seats = seats
answered answer (suc n) seats = answered_at answer n seats

-- what was said, and how the programs stand behind it
pub record Said : Type 0 where
  pub events : List Event
  pub seats : List Seat

abbrev pub said_first : Event → Said → Said
said_first e it = record it { events = e ∷ it.events }

-- The answers in order, each to the program whose request is answered next; none, where an answer is left and no program waits.
abbrev pub many : List Seat → List ℕ → List Answer → Option Said
many seats schedule [] = Some (record { events = []; seats = seats })
many seats schedule (answer ∷ answers) =
    option_and_then (λ next. option_and_then (λ asked.
    option_map (said_first (event_of next.0 asked answer))
    (many (answered answer next.0 seats) next.1 answers))
    (waiting_of seats next.0))
    (next_of seats schedule)
