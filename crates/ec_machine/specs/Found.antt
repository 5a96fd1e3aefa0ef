-- Values that are found on the spot: the machine stands as it stood, but for its memory and its turns. Where there is none yet, it stands at a focus, or stopped.
use Rattle.std.specs.Prelude.{◌≡◌, ℕ, ◌<◌, ◌≤◌, List, Option, Some, None, Result, Ok, Err}
use Rattle.ec_base.specs.declared.line.Line.{Line}
use Rattle.ec_code.specs.declared.program.Function.{Function}
use Rattle.ec_meaning_defs.specs.evaluation.Evaluate.{World, Step as Knowing}
use Rattle.ec_meaning_defs.specs.evaluation.Results.{Res, value, on_value}
use Rattle.ec_meaning_defs.specs.evaluation.State.{State}
use Rattle.ec_values.specs.Words.{word_view}
use Rattle.ec_values.specs.declared.word.Word.{Word}
use Rattle.ec_values.specs.declared.word.Word.TheVariants as word
use Rattle.ec_machine.specs.declared.found.Found.{Found}
use Rattle.ec_machine.specs.declared.found.Found.TheVariants as found
use Rattle.ec_machine.specs.declared.frame.Focus.{Focus}
use Rattle.ec_machine.specs.declared.machine.Machine.{Machine}
use Rattle.ec_machine.specs.declared.quick.Done.{Done}
use Rattle.ec_machine.specs.declared.quick.Done.TheVariants as done
use Rattle.ec_machine.specs.declared.stop.Stop.{Stop}
use Rattle.ec_machine.specs.Frames.{Env}
use Rattle.ec_machine.specs.Goes.{Fits, Goes, Stops, at, env_of, tasks}
use Rattle.ec_machine.specs.Weights.{remaining}

abbrev pub found_view : Found → Option Word
found_view (found.Signed z) = Some (word.Signed z)
found_view (found.Unsigned n) = Some (word.Unsigned n)
found_view (found.Address p) = Some (word.Address p)
found_view found.Waits = None

-- where the machine stands behind a value
pub record Stays (old : Machine) (e : Env) (line : Line) (new : Machine) : Type 0 where
  pub frames : new.frames ≡ old.frames
  pub env : env_of new ≡ e
  pub same_line : new.line ≡ line

-- a part of the run has a value; or what is made of it round the part is what the machine stands at
abbrev pub Finds : List Function → Machine → Env → Line → (Knowing → World → Res → Res) →
    (Knowing → World → State → Res) → Option Word → Result Focus Stop → Machine → Type 0
Finds fs old e line around part (Some v) left new =
    Stays old e line new × ((knowing : Knowing) → Fits knowing → (k : ℕ) (s : State)
    → old.turns < k → part knowing (tasks knowing fs k) (at s old) ≡ value (word_view v) (at s new))
Finds fs old e line around part None left new =
    Goes fs old e (λ knowing w t. around knowing w (part knowing w t)) left new

-- a part of the run that needs no turn has a value, or is the end of the run
abbrev pub FindsAlone : Machine → (Knowing → World → State → Res) → Option Word →
    Result Focus Stop → Machine → Type 0
FindsAlone old part (Some v) left new =
    Stays old (env_of old) old.line new × ((knowing : Knowing) (w : World) (s : State)
    → part knowing w (at s old) ≡ value (word_view v) (at s new))
FindsAlone old part None left new =
    (x : Stop) × ((left ≡ Err x) × ((knowing : Knowing) (w : World) (s : State)
    → Stops x (at s new) (part knowing w (at s old))))

-- where there is no value yet, so much is left at most
abbrev pub LeavesNear : ℕ → Option Word → Result Focus Stop → Machine → ℕ → Type 0
LeavesNear turns (Some v) left m n = Unit {0}
LeavesNear turns None left m n = remaining turns left m ≤ n

-- a part of the run is done, and its value isn't used; or what is made of it round the part is what the machine stands at
abbrev pub Does : List Function → Machine → (Knowing → World → State → Res) →
    (Knowing → World → Res → Res) → Result Done Stop → Result Focus Stop → Machine → Type 0
Does fs old part around (Ok done.All) left new =
    Stays old (env_of old) old.line new × ((knowing : Knowing) → Fits knowing → (k : ℕ) (s : State)
    → (go : State → Res) → old.turns < k
    → on_value (part knowing (tasks knowing fs k) (at s old)) (λ v u. go u) ≡ go (at s new))
Does fs old part around (Ok done.Nothing) left new =
    Goes fs old (env_of old) (λ knowing w t. around knowing w (part knowing w t)) left new
Does fs old part around (Err x) left new =
    Goes fs old (env_of old) (λ knowing w t. around knowing w (part knowing w t)) (Err x) new

abbrev pub DoesNear : ℕ → Done → Result Focus Stop → Machine → ℕ → Type 0
DoesNear turns done.All left m n = Unit {0}
DoesNear turns done.Nothing left m n = remaining turns left m ≤ n

-- what the machine stands at, where it isn't at the beginning of another part of the run
abbrev pub StandsAt : Result Focus Stop → Result (Option Focus) Stop → Type 0
StandsAt (Ok f) r = r ≡ Ok (Some f)
StandsAt (Err x) r = r ≡ Err x
