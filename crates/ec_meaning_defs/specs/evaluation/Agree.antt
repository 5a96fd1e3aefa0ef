-- When two steps do the same, and what that says of whole runs. The second may have more turns and further answers.
use Rattle.std.specs.Prelude.{◌≡◌, ◌⊎◌, ℕ, suc, ◌+◌, ◌≤◌, List, [], ◌∷◌, ◌++◌, false, Option}
use Rattle.ec_link.specs.declared.logged.Logged.{Logged}
use Rattle.ec_link.specs.declared.request.Request.{Request}
use Rattle.ec_memory_defs.specs.Memory.{Memory, ValueData}
use Rattle.ec_meaning_defs.specs.resolved.Labels.{holds}
use Rattle.ec_meaning_defs.specs.resolved.Resolved.{Mark, embedded, library, Stm}
use Rattle.ec_meaning_defs.specs.evaluation.State.{Answer, State, Ending, exited, trapped, turns_spent, waits, stuck}
use Rattle.ec_meaning_defs.specs.evaluation.Results.{Res, value, on, broke, continued, went, back, over}
use Rattle.ec_meaning_defs.specs.evaluation.Evaluate.{Context, Task, calls, turn_of, look_for, World, Step}
use Rattle.ec_meaning_defs.specs.evaluation.Execute.{run}
use Rattle.ec_meaning_defs.specs.evaluation.Expanded.{written_task, itself}

-- a state with more turns and further answers
abbrev pub richer : ℕ → List Answer → State → State
richer d more s = record s { turns = s.turns + d; answers = s.answers ++ more }

-- a state before a `goto` took its turn
abbrev pub before_goto : State → State
before_goto s = record s { turns = suc s.turns }

-- a state of which P holds, and beside it the same with more turns and further answers
pub data Beside (P : State → Type 0) (d : ℕ) (more : List Answer) : State → State → Type 0 where
  beside : {s : State} → P s → Beside P d more s (richer d more s)

-- the state with which a run answers
abbrev pub state_of : Res → State
state_of (value v s) = s
state_of (on s) = s
state_of (broke s) = s
state_of (continued s) = s
state_of (went l s) = s
state_of (back v s) = s
state_of (over e s) = s

-- What is said of endings: with which of them both runs may be over, and when the first may be over with one while the second goes on to a state
pub record Endings : Type 1 where
  pub both : Ending → Type 0
  pub first : Ending → State → State → Type 0

-- an ending other than that of a run that waits for an answer
abbrev pub IsOwn : Ending → Type 0
IsOwn (exited n) = Unit {0}
IsOwn (trapped t line) = Unit {0}
IsOwn turns_spent = Unit {0}
IsOwn (waits slot request) = ⊥
IsOwn stuck = Unit {0}

-- Two runs did the same up to states that are beside one another, of which the first keeps P; or the first is over with an ending of E, and the second goes on.
pub data Same (P : State → Type 0) (E : Endings) (G : State → State → Type 0) (d : ℕ)
    (more : List Answer)
    : Res → Res → Type 0 where
  same_value : {v : ValueData} {s s' : State} → Beside P d more s s'
      → Same P E G d more (value v s) (value v s')
  same_on : {s s' : State} → Beside P d more s s' → Same P E G d more (on s) (on s')
  same_broke : {s s' : State} → Beside P d more s s' → Same P E G d more (broke s) (broke s')
  same_continued : {s s' : State} → Beside P d more s s'
      → Same P E G d more (continued s) (continued s')
  same_went : {l : ℕ} {s s' : State}
      → Beside (λ t. P (before_goto t)) d more s s' → Same P E G d more (went l s) (went l s')
  same_back : {v : Option ValueData} {s s' : State} → Beside P d more s s'
      → Same P E G d more (back v s) (back v s')
  same_over : {e : Ending} {s s' : State} → E.both e → Beside P d more s s'
      → Same P E G d more (over e s) (over e s')
  stops_first : {e : Ending} {s : State} {o : Res} → P s → E.first e s (state_of o)
      → Same P E G d more (over e s) o

-- P stays true whatever a run does of itself, and it only leads to later states. Without turns both are over, or the first may be
pub record Kept (P : State → Type 0) (E : Endings) (G : State → State → Type 0) (d : ℕ)
    (more : List Answer) : Type 0 where
  pub memory : (s : State) (m : Memory) → P s → P (record s { memory = m })
  pub printed : (s : State) (output errors : List ℕ)
      → P s → P (record s { output = s.output ++ output; errors = s.errors ++ errors })
  pub turn : (s : State) (k : ℕ) → s.turns ≡ suc k → P s → P (record s { turns = k })
  pub both : (e : Ending) → IsOwn e → E.both e
  pub spent : ((s t : State) → G s t → E.first turns_spent s t) ⊎ (d ≡ 0)
  pub first_later : (e : Ending) (s t u : State) → E.first e s t → G t u → E.first e s u
  pub same_later : (s : State) → G s s
  pub later_still : (s t u : State) → G s t → G t u → G s u
  pub memory_later : (s : State) (m : Memory) → G s (record s { memory = m })
  pub printed_later : (s : State) (output errors : List ℕ)
      → G s (record s { output = s.output ++ output; errors = s.errors ++ errors })
  pub turn_later : (s : State) (k : ℕ) → G s (record s { turns = k })
  pub richer_later : (s : State) → G s (richer d more s)

-- two computations do the same from states beside one another, and the second only leads to later states
pub record Alike (P : State → Type 0) (E : Endings) (G : State → State → Type 0) (d : ℕ)
    (more : List Answer) (m m' : State → Res) : Type 0 where
  pub same : (s s' : State) → Beside P d more s s' → Same P E G d more (m s) (m' s')
  pub later : (u : State) → G u (state_of (m' u))

-- the state before a task: a `goto` has taken its turn
abbrev pub before : Task → State → State
before (calls line f vs) s = s
before (turn_of c test behind x) s = s
before (look_for c l b) s = before_goto s

-- tasks do the same in a program and in what is written for it
pub record Related (P : State → Type 0) (E : Endings) (G : State → State → Type 0) (d : ℕ)
    (more : List Answer) (text : ℕ → Stm) (w w' : World) : Type 0 where
  pub same : (t : Task) (s s' : State) → Beside (λ u. P (before t u)) d more s s'
      → Same P E G d more (w t s) (w' (written_task text t) s')
  pub later : (t : Task) (u : State) → G u (state_of (w' (written_task text t) u))

-- Each embedded statement does what the statement in its place does, and each call of the library does the same, whenever the tasks do.
pub record Agree (P : State → Type 0) (E : Endings) (G : State → State → Type 0) (d : ℕ)
    (more : List Answer) (step step' : Step) (text : ℕ → Stm) : Type 0 where
  pub no_label : (l : Mark) (n : ℕ) → holds l (text n) ≡ false
  pub embeds : (w w' : World) → Related P E G d more text w w' → (c : Context) (n : ℕ)
      → Alike P E G d more (step w c (embedded n)) (run step' w' c (text n))
  pub libraries : (w w' : World) → Related P E G d more text w w'
      → (c : Context) (n : ℕ) (vs : List ValueData)
      → Alike P E G d more (step w c (library n vs)) (step' w' c (library n vs))

-- ---- what is kept, and which endings let the second run go on

abbrev pub Always : State → Type 0
Always s = Unit {0}

-- the second run never goes on
abbrev pub Never : Endings
Never = record { both = λ e. Unit {0}; first = λ e s t. ⊥ }

abbrev pub IsSpent : Ending → Type 0
IsSpent e = e ≡ turns_spent

-- it may go on where the first has no turn left
abbrev pub WhenSpent : Endings
WhenSpent = record { both = λ e. Unit {0}; first = λ e s t. IsSpent e }

abbrev pub IsWaiting : Ending → Type 0
IsWaiting (exited n) = ⊥
IsWaiting (trapped t line) = ⊥
IsWaiting turns_spent = ⊥
IsWaiting (waits slot request) = Unit {0}
IsWaiting stuck = ⊥

-- any state is later than any
abbrev pub Any : State → State → Type 0
Any s t = Unit {0}

-- what was printed and said before is there
pub record Grows (old new : State) : Type 0 where
  pub printed : (more : List ℕ) × (new.output ≡ old.output ++ more)
  pub complained : (more : List ℕ) × (new.errors ≡ old.errors ++ more)
  pub said : (more : List Logged) × (new.conversation ≡ old.conversation ++ more)

-- the turns that are left are at most so many
abbrev pub Below : ℕ → State → Type 0
Below n s = s.turns ≤ n

-- what was printed and said is still there, and there are no more turns
pub record Extends (old new : State) : Type 0 where
  pub grows : Grows old new
  pub turns : new.turns ≤ old.turns

-- the same answer with more turns and further answers left
abbrev pub richer_result : ℕ → List Answer → Res → Res
richer_result d more (value v s) = value v (richer d more s)
richer_result d more (on s) = on (richer d more s)
richer_result d more (broke s) = broke (richer d more s)
richer_result d more (continued s) = continued (richer d more s)
richer_result d more (went l s) = went l (richer d more s)
richer_result d more (back v s) = back v (richer d more s)
richer_result d more (over e s) = over e (richer d more s)

-- an answer that isn't over with an ending of D
abbrev pub IsNot : (Ending → Type 0) → Res → Type 0
IsNot D (value v s) = Unit {0}
IsNot D (on s) = Unit {0}
IsNot D (broke s) = Unit {0}
IsNot D (continued s) = Unit {0}
IsNot D (went l s) = Unit {0}
IsNot D (back v s) = Unit {0}
IsNot D (over e s) = D e → ⊥

-- The first thing that is said behind a state is this request, with this answer. Its slot is that of the connection, or the one that the answer has
pub record Takes (slot : Option ℕ) (request : Request) (answer : Answer)
    (s t : State) : Type 0 where
  pub exchange : Logged
  pub rest : List Logged
  pub said : t.conversation ≡ s.conversation ++ exchange ∷ rest
  pub asked : exchange.request ≡ request
  pub answered : exchange.reply ≡ answer.1
  pub over_slot : (exchange.slot ≡ slot) ⊎ (exchange.slot ≡ answer.0)

-- the request that waited has the first of these answers
abbrev pub TakesFirst : Option ℕ → Request → List Answer → State → State → Type 0
TakesFirst slot request [] s t = Unit {0}
TakesFirst slot request (a ∷ more) s t = Takes slot request a s t

-- what was printed and said before is there, and the first thing that differs is the answer that the run waited for
abbrev pub GoesOnWith : List Answer → Ending → State → State → Type 0
GoesOnWith more (exited n) s t = ⊥
GoesOnWith more (trapped trap line) s t = ⊥
GoesOnWith more turns_spent s t = ⊥
GoesOnWith more (waits slot request) s t = Grows s t × TakesFirst slot request more s t
GoesOnWith more stuck s t = ⊥

-- the second run goes on where the first waits, and waits too only where it has no further answer
abbrev pub WhenAnswered : List Answer → Endings
WhenAnswered more = record { both = λ e. IsWaiting e → more ≡ []; first = GoesOnWith more }

-- where the first run waits, the second goes on from there
abbrev pub GoesOn : List Answer → Res → Res → Type 0
GoesOn more (value v s) o = Unit {0}
GoesOn more (on s) o = Unit {0}
GoesOn more (broke s) o = Unit {0}
GoesOn more (continued s) o = Unit {0}
GoesOn more (went l s) o = Unit {0}
GoesOn more (back v s) o = Unit {0}
GoesOn more (over e s) o = IsWaiting e → GoesOnWith more e s (state_of o)

-- ---- steps of which the laws hold

-- a step that does the same however many turns its tasks may take beyond those that are left
abbrev pub CountsTurns : Step → Type 0
CountsTurns step = (n : ℕ) → Agree (Below n) Never Any 0 [] step step itself

-- a step that only adds to what was printed and said
abbrev pub OnlyAdds : Step → Type 0
OnlyAdds step = (old : State) → Agree (Extends old) Never Any 0 [] step step itself

-- a step that does the same with more turns, where those that it has are enough
abbrev pub TakesMoreTurns : Step → Type 0
TakesMoreTurns step = (d : ℕ) → Agree Always WhenSpent Any d [] step step itself

-- a step that does the same with further answers where it doesn't wait, and takes the first of them where it does
abbrev pub TakesMoreAnswers : Step → Type 0
TakesMoreAnswers step =
    (more : List Answer) → Agree Always (WhenAnswered more) Grows 0 more step step itself
