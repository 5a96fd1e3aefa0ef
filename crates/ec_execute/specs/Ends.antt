-- How the run of a program is left.
use Rattle.std.specs.Prelude.{◌≡◌, ◌⊎◌, ℕ, List, Option}
use Rattle.ec_base.specs.Causes.{Rose}
use Rattle.ec_meaning_defs.specs.evaluation.State.{exited, trapped, turns_spent}
use Rattle.ec_meaning_defs.specs.evaluation.Whole.{Observed}
use Rattle.ec_link.specs.declared.logged.Logged.{Logged}
use Rattle.ec_interp.specs.declared.end.RunEnd.{RunEnd as MachineEnd}
use Rattle.ec_interp.specs.declared.end.RunEnd.TheVariants as machine
use Rattle.ec_execution_defs.specs.Runs.{Runs, RunsPart}
use Rattle.ec_execute.specs.declared.running.RunEnd.{RunEnd}
use Rattle.ec_execute.specs.declared.running.RunEnd.TheVariants as ends

-- the end of a run, by that of the machine's
abbrev pub end_of : MachineEnd → RunEnd
end_of (machine.Exited status) = ends.Exited status
end_of (machine.Trapped trap line) = ends.Trapped trap line
end_of machine.TurnsSpent = ends.TurnsSpent
end_of machine.Stuck = ends.OutOfMemory
end_of machine.WriteFault = ends.WriteFault
end_of machine.OutOfMemory = ends.OutOfMemory

module _ {O E : Type 0} (held : O → Option (List ℕ))
    (puts : O → ℕ) (told : E → Option (List ℕ)) (tells : E → ℕ) where
  -- The whole of what the program means was carried out, or a part of it, and this was said.
  abbrev pub Performs : Observed → List Logged → O → O → E → E → RunEnd → Type 0
  Performs m growth out out' err err' (ends.Exited status) =
      Runs held puts told tells m growth (exited status) out out' err err'
  Performs m growth out out' err err' (ends.Trapped trap line) =
      Runs held puts told tells m growth (trapped trap line.0) out out' err err'
  Performs m growth out out' err err' ends.TurnsSpent =
      Runs held puts told tells m growth turns_spent out out' err err'
  Performs m growth out out' err err' ends.WriteFault =
      RunsPart held puts told tells m growth out out' err err'
      × (Rose (puts out) (puts out') ⊎ Rose (tells err) (tells err'))
  Performs m growth out out' err err' ends.OutOfMemory =
      RunsPart held puts told tells m growth out out' err err'
      × (puts out' ≡ puts out) × (tells err' ≡ tells err)
