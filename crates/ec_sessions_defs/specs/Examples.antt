-- Worked examples: programs that ask a number of times and exit with the number of their answers.
use Rattle.std.specs.Prelude.{◌≡◌, ℕ, zero, suc, List, [], ◌∷◌, length, map, codes, Option, Some, None, option_map, refl}
use Rattle.ec_link.specs.declared.logged.Logged.{Logged}
use Rattle.ec_link.specs.declared.reply.Reply.TheVariants.{Connected}
use Rattle.ec_link.specs.declared.request.Request.TheVariants.{Close}
use Rattle.ec_meaning_defs.specs.evaluation.State.{Answer, Ending, exited, waits}
use Rattle.ec_sessions_defs.specs.Events.{schedule_of}
use Rattle.ec_sessions_defs.specs.Many.{Course, all_seen, many, seated}
use Rattle.ec_sessions_defs.specs.Sources.{sources_in}

-- ---- whose request is answered next

-- whether a program that asks so many times waits, behind so many answers
abbrev ending_behind : ℕ → ℕ → ℕ → Ending
ending_behind asks zero answers = exited answers
ending_behind asks (suc left) answers = waits (Some asks) Close

abbrev still_asks : ℕ → List Answer → ℕ
still_asks asks [] = asks
still_asks zero (a ∷ answers) = 0
still_asks (suc n) (a ∷ answers) = still_asks n answers

abbrev said_with : List Answer → List Logged
said_with answers = map (λ a. record { slot = a.0; request = Close; reply = a.1 }) answers

abbrev asking : ℕ → Course
asking asks answers = record {
  conversation = said_with answers;
  output = [];
  errors = [];
  memory = [];
  ending = ending_behind asks (still_asks asks answers) (length answers);
}

abbrev answers_of : ℕ → List Answer
answers_of zero = []
answers_of (suc n) = (None, Connected) ∷ answers_of n

-- the programs whose requests are answered, in order, where three programs ask two, one and two times
abbrev by_schedule : List ℕ → ℕ → Option (List ℕ)
by_schedule schedule answers = option_map (λ it. schedule_of it.events)
    (many (seated (asking 2 ∷ asking 1 ∷ asking 2 ∷ [])) schedule (answers_of answers))

abbrev endings_by : List ℕ → ℕ → Option (List Ending)
endings_by schedule answers = option_map (λ it. map (λ o. o.ending) (all_seen it.seats))
    (many (seated (asking 2 ∷ asking 1 ∷ asking 2 ∷ [])) schedule (answers_of answers))

without_schedule : by_schedule [] 5 ≡ Some (1 ∷ 1 ∷ 2 ∷ 3 ∷ 3 ∷ [])
without_schedule = refl

in_turn : by_schedule (3 ∷ 1 ∷ 2 ∷ 3 ∷ 1 ∷ []) 5 ≡ Some (3 ∷ 1 ∷ 2 ∷ 3 ∷ 1 ∷ [])
in_turn = refl

-- entries that name a program that has ended, or none, are passed over
passes_over : by_schedule (2 ∷ 2 ∷ 9 ∷ 0 ∷ 3 ∷ []) 5 ≡ Some (2 ∷ 3 ∷ 1 ∷ 1 ∷ 3 ∷ [])
passes_over = refl

-- behind the schedule the least program that waits goes on
goes_on : by_schedule (3 ∷ []) 5 ≡ Some (3 ∷ 1 ∷ 1 ∷ 2 ∷ 3 ∷ [])
goes_on = refl

-- an answer that nobody waits for has no event
one_too_many : by_schedule [] 6 ≡ None
one_too_many = refl

all_end : endings_by [] 5 ≡ Some (exited 2 ∷ exited 1 ∷ exited 2 ∷ [])
all_end = refl

one_waits : endings_by [] 4 ≡ Some (exited 2 ∷ exited 1 ∷ waits (Some 2) Close ∷ [])
one_waits = refl

-- ---- the sources of an input

nothing : sources_in [] ≡ [] ∷ []
nothing = refl

one : sources_in (codes "a\nb") ≡ codes "a\nb" ∷ []
one = refl

parted : sources_in (codes "a\n%%\nb\n%%") ≡ codes "a\n" ∷ codes "b\n" ∷ [] ∷ []
parted = refl

marks_alone : sources_in (codes "%%\n%%\n") ≡ [] ∷ [] ∷ [] ∷ []
marks_alone = refl

no_marks : sources_in (codes "%%a\n %%\n%%%\n%") ≡ codes "%%a\n %%\n%%%\n%" ∷ []
no_marks = refl
