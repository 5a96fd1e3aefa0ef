-- Where a run of the machine stands.
use Rattle.std.specs.Prelude.{ℕ, List, ◌++◌, reverse}
use Rattle.ec_code.specs.declared.program.Function.{Function}
use Rattle.ec_meaning_defs.specs.evaluation.Evaluate.{Step as Knowing}
use Rattle.ec_meaning_defs.specs.evaluation.Results.{Res, without_answer}
use Rattle.ec_meaning_defs.specs.evaluation.State.{State}
use Rattle.ec_machine.specs.declared.frame.Focus.{Focus}
use Rattle.ec_machine.specs.declared.machine.Machine.{Machine}
use Rattle.ec_machine.specs.Frames.{denote, resume}
use Rattle.ec_machine.specs.Goes.{at, env_of, tasks}
use Rattle.ec_interp.specs.running.Sessions.{Going}

-- a state, with what was printed on both outputs since
abbrev pub added : List ℕ → List ℕ → State → State
added printed complained s =
    record s { output = s.output ++ printed; errors = s.errors ++ complained }

-- the answer of the whole run, from a focus of a machine on, among tasks of at most so many turns
abbrev pub answer_with : Knowing → List Function → ℕ → Machine → Focus → State → Res
answer_with knowing fs k m f s =
    resume knowing (tasks knowing fs k) (env_of m) (reverse m.frames)
    (denote knowing (tasks knowing fs k) (env_of m) m.line m.text f (at s m))

-- the answer of the whole run, from where a call waits that still has to do this
abbrev pub answer_going : Knowing → List Function → ℕ → Machine → Going → State → Res
answer_going knowing fs k m g s =
    resume knowing (tasks knowing fs k) (env_of m) (reverse m.frames) (without_answer (g m.line.0 (at s m)))

-- a run, by the turns that its tasks take at most and the state that it begins in
abbrev pub Run : Type 0
Run = ℕ → State → Res
