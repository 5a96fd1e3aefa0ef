-- What is run: a source, by `run` and, with what was said, by `record`; written C, by `exec`; or a generated program, by
-- `gen`, which is a source. What each is run as, what that means, and what is shown of it.
use Rattle.std.specs.Prelude.{◌≡◌, ℕ, ⊤, List, Option, Result, Ok, Err}
use Rattle.ec_base.specs.declared.stop.Stop.{Stop}
use Rattle.ec_base.specs.declared.stop.Stop.TheVariants.{Refused, Limit, OutOfMemory}
use Rattle.ec_link.specs.SlotState.{SlotState}
use Rattle.ec_meaning_defs.specs.evaluation.State.{Answer}
use Rattle.ec_meaning_defs.specs.evaluation.Whole.{Observed}
use Rattle.ec_execute.specs.declared.executable.Executable.{Executable}
use Rattle.ec_execute.specs.Executables.{executable_view}
use Rattle.ec_execution_defs.specs.Programs as execution
use Rattle.ec_execution_defs.specs.Programs.{IsProgram, meaning}
use Rattle.ec_phases_defs.specs.Sources.{BoundProgram}
use Rattle.ec_execute.specs.source.Runnable.{IsRunnable, source_meaning}
use Rattle.ec_sound_text_laws.specs.Endings.{IsNeverStuck}
use Rattle.ec_cli.specs.declared.form.Form.{Form}
use Rattle.ec_cli.specs.declared.form.Form.TheVariants.{Source, Written, Recorded, Generated}
use Rattle.ec_cli.specs.Recordings.{with_transcript}
use Rattle.ec_cli.specs.Reports.{with_report}

-- what it is run as
abbrev pub Program : Form → Type 0
Program Source = BoundProgram
Program Written = execution.Executable
Program Recorded = BoundProgram
Program (Generated number) = BoundProgram

-- the text is run as this program, or refused for this
abbrev pub IsRunAs : (form : Form) → List ℕ → Result (Program form) Stop → Type 0
IsRunAs Source text answer = IsRunnable text answer
IsRunAs Written text answer = IsProgram text answer
IsRunAs Recorded text answer = IsRunnable text answer
IsRunAs (Generated number) text answer = IsRunnable text answer

-- what a program means that runs for so many turns, with a slot and a name that are connected, or none, over these answers
abbrev pub Meaning : Type 0
Meaning = ℕ → Option (ℕ × List ℕ) → List Answer → Observed

abbrev pub program_meaning : (form : Form) → Program form → Meaning
program_meaning Source program = source_meaning program
program_meaning Written program = meaning program
program_meaning Recorded program = source_meaning program
program_meaning (Generated number) program = source_meaning program

-- What is shown of a run that begins with slots that stand so: what the program prints, with the line that is told of its
-- run, if it is a generated one; and of a recording the transcript on standard error.
abbrev pub shown : Form → List SlotState → Observed → Observed
shown Source slots o = o
shown Written slots o = o
shown Recorded slots o = with_transcript slots o
shown (Generated number) slots o = with_report number o

-- an executable that means what the text means, which is never stuck
pub record RunsText (form : Form) (text : List ℕ) (executable : Executable) : Type 0 where
  pub program : Program form
  pub is : IsRunAs form text (Ok program)
  pub means : (turns : ℕ) (ready : Option (ℕ × List ℕ)) (answers : List Answer)
      → meaning (executable_view executable) turns ready answers
      ≡ program_meaning form program turns ready answers
  pub never_stuck : IsNeverStuck (program_meaning form program)

-- the answer is what the text is run as
abbrev pub TellsRun : Form → List ℕ → Result Executable Stop → Type 0
TellsRun form text (Ok executable) = RunsText form text executable
TellsRun form text (Err (Refused kind line)) = IsRunAs form text (Err (Refused kind line))
TellsRun form text (Err (Limit limit)) = IsRunAs form text (Err (Limit limit))
TellsRun form text (Err OutOfMemory) = ⊤
