-- What reading a source to run it answers. Want of memory is the one answer that says nothing of it.
use Rattle.std.specs.Prelude.{◌≡◌, ℕ, ⊤, List, Option, Result, Ok, Err}
use Rattle.ec_base.specs.declared.stop.Stop.{Stop}
use Rattle.ec_base.specs.declared.stop.Stop.TheVariants.{Refused, Limit, OutOfMemory}
use Rattle.ec_meaning_defs.specs.evaluation.State.{Answer}
use Rattle.ec_execute.specs.declared.executable.Executable.{Executable}
use Rattle.ec_execute.specs.Executables.{executable_view}
use Rattle.ec_execution_defs.specs.Programs.{meaning}
use Rattle.ec_language.specs.Letters.{Text}
use Rattle.ec_phases_defs.specs.Sources.{BoundProgram}
use Rattle.ec_execute.specs.source.Runnable.{IsRunnable, source_meaning}

-- an executable that means what the source means
pub record RunsSource (text : Text) (executable : Executable) : Type 0 where
  pub program : BoundProgram
  pub is : IsRunnable text (Ok program)
  pub means : (turns : ℕ) (ready : Option (ℕ × List ℕ)) (answers : List Answer)
      → meaning (executable_view executable) turns ready answers
      ≡ source_meaning program turns ready answers

-- the answer is what the text is run as
abbrev pub TellsRunnable : Text → Result Executable Stop → Type 0
TellsRunnable text (Ok executable) = RunsSource text executable
TellsRunnable text (Err (Refused kind line)) = IsRunnable text (Err (Refused kind line))
TellsRunnable text (Err (Limit limit)) = IsRunnable text (Err (Limit limit))
TellsRunnable text (Err OutOfMemory) = ⊤
