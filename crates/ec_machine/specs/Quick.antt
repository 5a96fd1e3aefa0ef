-- What is done on the spot, where no frame is needed: from a memory and a line to others.
use Rattle.std.specs.Prelude.{◌≡◌, ℕ, ◌<◌, ◌≤◌, Bool, true, false, List, [], ◌∷◌, ◌++◌, Option, Some, None, Result, Ok, Err}
use Rattle.std.specs.Borrow.{Bor}
use Rattle.ec_code.specs.declared.expression.Plain.{Plain}
use Rattle.ec_code.specs.declared.program.Function.{Function}
use Rattle.ec_code.specs.declared.statement.Loop.{Loop}
use Rattle.ec_code.specs.declared.statement.Statement.{Statement}
use Rattle.ec_code.specs.declared.expression.Expression.{Expression}
use Rattle.ec_code.specs.Views.{expressions_view, plain_view}
use Rattle.ec_meaning_defs.specs.evaluation.Evaluate.{World, Step as Knowing, turn_of, eval, collect}
use Rattle.ec_meaning_defs.specs.evaluation.Execute.{again, run, tested}
use Rattle.ec_meaning_defs.specs.evaluation.Results.{Res, value, on, back, on_value, on_done, after_body}
use Rattle.ec_meaning_defs.specs.evaluation.State.{State}
use Rattle.ec_memory_defs.specs.Memory.{Memory, ValueData}
use Rattle.ec_values.specs.Words.{word_view}
use Rattle.ec_values.specs.declared.word.Word.{Word}
use Rattle.ec_machine.specs.declared.frame.Callee.{Callee}
use Rattle.ec_machine.specs.declared.frame.Focus.{Focus}
use Rattle.ec_machine.specs.declared.labels.Standing.{Standing}
use Rattle.ec_machine.specs.declared.machine.Machine.{Machine}
use Rattle.ec_machine.specs.declared.quick.Asked.{Asked}
use Rattle.ec_machine.specs.declared.quick.Asked.TheVariants as asked
use Rattle.ec_machine.specs.declared.quick.Begun.{Begun}
use Rattle.ec_machine.specs.declared.quick.Begun.TheVariants as begun
use Rattle.ec_machine.specs.declared.quick.Done.{Done}
use Rattle.ec_machine.specs.declared.quick.Done.TheVariants as done
use Rattle.ec_machine.specs.declared.stop.Stop.{Stop}
use Rattle.ec_machine.specs.Frames.{behind_of, body_of, here, received, test_of, waiting}
use Rattle.ec_machine.specs.Goes.{Goes, Stops, at, env_of, taken}
use Rattle.ec_machine.specs.Weights.{IsOutside, remaining, statement_weight}

-- an evaluation has this value, or is the end of the run
abbrev pub Computes : Result Word Stop → Res → State → Type 0
Computes (Ok v) o t = o ≡ value (word_view v) t
Computes (Err x) o t = Stops x t o

abbrev pub Says : Asked → Bool → Type 0
Says asked.Holds b = b ≡ true
Says asked.Fails b = b ≡ false
Says asked.Waits b = ⊥

-- where a test leads. One that waits left the memory as it was
abbrev pub Asks : Result Asked Stop → Memory → Memory → Res → (State → Res) → (State → Res) →
    State → Type 0
Asks (Ok asked.Holds) old new o if_so if_not t = o ≡ if_so t
Asks (Ok asked.Fails) old new o if_so if_not t = o ≡ if_not t
Asks (Ok asked.Waits) old new o if_so if_not t = new ≡ old
Asks (Err x) old new o if_so if_not t = Stops x t o

-- what is done behind an expression. One that waits left the memory as it was
abbrev pub PassesOver : Result Done Stop → Memory → Memory → Res → (State → Res) → State → Type 0
PassesOver (Ok done.All) old new o go t = o ≡ go t
PassesOver (Ok done.Nothing) old new o go t = new ≡ old
PassesOver (Err x) old new o go t = Stops x t o

-- what a statement does is what is left of it does
abbrev pub Begins : Result Begun Stop → Statement → Res → (Statement → Res) → State → Type 0
Begins (Ok begun.Done) x o left t = o ≡ on t
Begins (Ok (begun.Leads y)) x o left t = o ≡ left y.now
Begins (Ok begun.Stays) x o left t = o ≡ left x
Begins (Err e) x o left t = Stops e t o

abbrev pub IsLighter : Result Begun Stop → Statement → Type 0
IsLighter (Ok begun.Done) x = Unit {0}
IsLighter (Ok (begun.Leads y)) x = statement_weight y.now < statement_weight x
IsLighter (Ok begun.Stays) x = Unit {0}
IsLighter (Err e) x = Unit {0}

abbrev pub Leaves : Result (Option (Bor Statement)) Stop → Res → (Statement → Res) → State → Type 0
Leaves (Ok None) o left t = o ≡ on t
Leaves (Ok (Some y)) o left t = o ≡ left y.now
Leaves (Err e) o left t = Stops e t o

-- of some statements the rest is what is left of one, and those behind it
abbrev pub LeavesSome : Result (Option Standing) Stop → Res → (Statement → Res) →
    (List Statement → State → Res) → State → Type 0
LeavesSome (Ok None) o left rest t = o ≡ on t
LeavesSome (Ok (Some x)) o left rest t = o ≡ on_done (left x.first.now) (λ u. rest x.rest.now u)
LeavesSome (Err e) o left rest t = Stops e t o

-- a `return` whose value has no call. Any other statement left the memory as it was
abbrev pub Answers : Result (Option Word) Stop → Memory → Memory → Res → State → Type 0
Answers (Ok None) old new o t = new ≡ old
Answers (Ok (Some v)) old new o t = o ≡ back (Some (word_view v)) t
Answers (Err e) old new o t = Stops e t o

-- the value of an argument waits with the others, which were so many: what is done behind it is done with one more
abbrev pub Keeps : Plain → ℕ → Machine → Result ℕ Stop → Machine → Type 0
Keeps p count old (Ok more) new =
    (same : taken more (env_of new) ≡ taken count (env_of old))
    × ((knowing : Knowing) (w : World) (s : State) (go : List ValueData → State → Res)
    → on_value (eval knowing w (here (env_of old) old.line) (plain_view p) (at s old))
    (λ v u. go (waiting count (env_of old) ++ v ∷ []) u)
    ≡ go (waiting more (env_of new)) (at s new))
Keeps p count old (Err x) new =
    (knowing : Knowing) (w : World) (s : State) (go : ValueData → State → Res)
    → Stops x (at s new)
    (on_value (eval knowing w (here (env_of old) old.line) (plain_view p) (at s old)) go)

-- ---- parts of a machine's run

-- a loop from its test
abbrev pub testing : Loop → Machine → Knowing → World → State → Res
testing x m knowing w t =
    tested knowing w (here (env_of m) m.line) (test_of x) (behind_of x) (body_of x) t

-- a turn of a loop
abbrev pub turning : Loop → Machine → Knowing → World → State → Res
turning x m knowing w t =
    w (turn_of (here (env_of m) m.line) (test_of x) (behind_of x) (body_of x)) t

-- a loop from its body, of which the turn is taken
abbrev pub bodily : Loop → Machine → Knowing → World → State → Res
bodily x m knowing w t =
    after_body (run knowing w (here (env_of m) m.line) (body_of x) t)
    (λ u. again knowing w (here (env_of m) m.line) (test_of x) (behind_of x) (body_of x) u)

-- a loop behind its body
abbrev pub behind_body : Loop → Machine → Knowing → World → State → Res
behind_body x m knowing w t =
    again knowing w (here (env_of m) m.line) (test_of x) (behind_of x) (body_of x) t

-- what a part of the run leads to is what another leads to from where the machine stands now
abbrev pub Comes : List Function → Machine → (Machine → Knowing → World → State → Res) → Machine →
    (Machine → Knowing → World → State → Res) → Type 0
Comes fs old part mid further =
    (result : Result Focus Stop) (new : Machine) → Goes fs mid (env_of mid) (further mid) result new
    → Goes fs old (env_of old) (part old) result new

-- the machine came to another part of the run, and no frame waits for it; or it stands at a focus, or stopped
abbrev pub Onward : List Function → Machine → (Machine → Knowing → World → State → Res) →
    Result (Option Focus) Stop → Machine → (Machine → Knowing → World → State → Res) → Type 0
Onward fs old part (Ok None) new further =
    Comes fs old part new further × (new.frames ≡ old.frames)
Onward fs old part (Ok (Some f)) new further = Goes fs old (env_of old) (part old) (Ok f) new
Onward fs old part (Err x) new further = Goes fs old (env_of old) (part old) (Err x) new

-- where the machine stands at a focus, so much is left at most
abbrev pub IsNear : ℕ → Result (Option Focus) Stop → Machine → ℕ → Type 0
IsNear turns (Ok None) m n = Unit {0}
IsNear turns (Ok (Some f)) m n = remaining turns (Ok f) m ≤ n
IsNear turns (Err x) m n = Unit {0}

-- a call from its further arguments, behind the last values that wait, of which so many are its own
abbrev pub passing : Callee → List Expression → ℕ → Machine → Knowing → World → State → Res
passing callee arguments count m knowing w t =
    collect knowing w (here (env_of m) m.line) (waiting count (env_of m)) (expressions_view
    arguments) t (received knowing w (here (env_of m) m.line) callee)

-- whether a focus is outside
abbrev pub TellsOutside : Bool → Focus → Type 0
TellsOutside true f = IsOutside f
TellsOutside false f = IsOutside f → ⊥
