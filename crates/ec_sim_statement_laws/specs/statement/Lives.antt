-- Which objects are alive before and after a part of a program.
use Rattle.std.specs.Prelude.{ℕ, List, [], ◌∷◌}
use Rattle.ec_memory_defs.specs.Memory.{Memory, ObjectData, alive, ended}
use Rattle.ec_meaning_defs.specs.evaluation.State.{State}
use Rattle.ec_meaning_defs.specs.evaluation.Results.{Res, value, on, broke, continued, went, back, over}
use Rattle.ec_meaning_defs.specs.evaluation.Evaluate.{World, Task, Context, Step}
use Rattle.ec_meaning_defs.specs.resolved.Resolved.{Atom}

-- both are alive, or both have ended
abbrev pub SameLife : ObjectData → ObjectData → Type 0
SameLife (alive a) (alive b) = Unit {0}
SameLife (alive a) ended = ⊥
SameLife ended (alive b) = ⊥
SameLife ended ended = Unit {0}

abbrev pub HaveEnded : Memory → Type 0
HaveEnded [] = Unit {0}
HaveEnded (alive cells ∷ m) = ⊥
HaveEnded (ended ∷ m) = HaveEnded m

-- the objects of the first memory are alive in the second where they were, and those behind them are so
abbrev pub Goes : (Memory → Type 0) → Memory → Memory → Type 0
Goes behind [] n = behind n
Goes behind (o ∷ m) [] = ⊥
Goes behind (o ∷ m) (p ∷ n) = SameLife o p × Goes behind m n

-- the objects that were made since have ended
abbrev pub Tidy : Memory → Memory → Type 0
Tidy m n = Goes HaveEnded m n

abbrev pub AnyObjects : Memory → Type 0
AnyObjects n = Unit {0}

-- there may be more objects
abbrev pub Grown : Memory → Memory → Type 0
Grown m n = Goes AnyObjects m n

-- what a statement or a task leads to from a memory. Of a run that is over nothing is said, nor of a value, which none of these gives
abbrev pub Leaves : (Memory → Memory → Type 0) → Memory → Res → Type 0
Leaves R m (value v s) = Unit {0}
Leaves R m (on s) = R m s.memory
Leaves R m (broke s) = R m s.memory
Leaves R m (continued s) = R m s.memory
Leaves R m (went l s) = R m s.memory
Leaves R m (back v s) = R m s.memory
Leaves R m (over e s) = Unit {0}

abbrev pub LeavesTidy : Memory → Res → Type 0
LeavesTidy m r = Leaves Tidy m r

-- tasks end what they make, and so does what only a step knows where tasks do
abbrev pub TidyWorld : World → Type 0
TidyWorld w = (t : Task) (s : State) → LeavesTidy s.memory (w t s)

abbrev pub TidyStep : Step → Type 0
TidyStep step =
    (w : World) → TidyWorld w → (c : Context) (a : Atom) (s : State)
    → LeavesTidy s.memory (step w c a s)
