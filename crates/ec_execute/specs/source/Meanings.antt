-- What the C that is written of a source keeps: its program, and its meaning.
use Rattle.std.specs.Prelude.{◌≡◌, ℕ, List, Option, Ok}
use Rattle.ec_meaning_defs.specs.evaluation.State.{Answer}
use Rattle.ec_execution_defs.specs.Programs.{Executable, IsProgram, meaning}
use Rattle.ec_language.specs.Letters.{Text}
use Rattle.ec_phases_defs.specs.Sources.{BoundProgram, ReadsSource}
use Rattle.ec_sim_source_laws.specs.run.Runs.{IsReadBackAs, KeepsItsMeaning}
use Rattle.ec_execute.specs.source.Runnable.{IsRunnable, source_meaning}

-- this text of C is run, as a program that means what the source means
pub record MeansSource (p : BoundProgram) (written : Text) : Type 0 where
  pub executable : Executable
  pub is : IsProgram written (Ok executable)
  pub means : (turns : ℕ) (ready : Option (ℕ × List ℕ)) (answers : List Answer)
      → meaning executable turns ready answers ≡ source_meaning p turns ready answers

-- Whatever program this source is read as: this text of C is read as what is written of it,
-- without a fault, unless it passes a limit; and that means what the source means, with all calls
-- of the library as they are defined. Where the source is run, so is this text
pub record KeepsMeaning (text written : Text) : Type 0 where
  pub read : (p : BoundProgram) → ReadsSource text (Ok p) → IsReadBackAs p written
  pub means : (p : BoundProgram) → ReadsSource text (Ok p) → KeepsItsMeaning p
  pub run : (p : BoundProgram) → IsRunnable text (Ok p) → MeansSource p written
