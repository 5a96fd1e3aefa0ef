-- What is written of an accepted source, as a text: what that is read as and means, and as what it is run.
use Rattle.std.specs.Prelude.{◌≡◌, ◌⊎◌, ℕ, List, Option, Result, Ok, Err}
use Rattle.ec_base.specs.declared.fault.LimitKind.TheVariants.{L2, L3, L6}
use Rattle.ec_base.specs.declared.stop.Stop.{Stop}
use Rattle.ec_base.specs.declared.stop.Stop.TheVariants.{Refused, Limit, OutOfMemory}
use Rattle.ec_ctypes.specs.trees.Checked.{TypedData}
use Rattle.ec_ctypes.specs.trees.Units.{UnitData}
use Rattle.ec_direct_defs.specs.Direct.{direct_meaning}
use Rattle.ec_meaning_defs.specs.evaluation.State.{Answer}
use Rattle.ec_execution_defs.specs.Programs.{Executable, executable, meaning}
use Rattle.ec_expansion_defs.specs.Programs.{written_program}
use Rattle.ec_language.specs.Letters.{Text}
use Rattle.ec_phases_defs.specs.Sources.{BoundProgram}
use Rattle.ec_direct_defs.specs.simulation.Written.{written_meaning}
use Rattle.ec_phases_defs.specs.written.Written.{ReadsWritten}

-- What its text is read as: the program that is written, in which the checks find nothing wrong;
-- unless it passes a limit of texts, of tokens or of nesting
abbrev pub IsReadAs : UnitData → Result TypedData Stop → Type 0
IsReadAs u (Ok t) = t.unit ≡ u
IsReadAs u (Err (Refused kind line)) = ⊥
IsReadAs u (Err (Limit limit)) = (limit ≡ L2) ⊎ (limit ≡ L3) ⊎ (limit ≡ L6)
IsReadAs u (Err OutOfMemory) = ⊥

-- a text is read as the program that is written of a source
abbrev pub IsReadBackAs : BoundProgram → Text → Type 0
IsReadBackAs p written = (x : Result TypedData Stop) → ReadsWritten written x
    → IsReadAs (written_program p.program p.bounds) x

-- The program that is written means what the source means, by the definition of all calls of the
-- library
abbrev pub KeepsItsMeaning : BoundProgram → Type 0
KeepsItsMeaning p = (turns : ℕ) (ready : Option (ℕ × List ℕ)) (answers : List Answer)
    → written_meaning (written_program p.program p.bounds) turns ready answers
    ≡ direct_meaning p.program turns ready answers

-- the program that is written means what the source means
pub record MeansSource (p : BoundProgram) (x : Executable) : Type 0 where
  pub is : x ≡ executable (written_program p.program p.bounds)
  pub means : (turns : ℕ) (ready : Option (ℕ × List ℕ)) (answers : List Answer)
      → meaning x turns ready answers ≡ direct_meaning p.program turns ready answers

-- What its text is run as: that program, unless it passes a limit of texts, of tokens or of nesting
abbrev pub IsRunOf : BoundProgram → Result Executable Stop → Type 0
IsRunOf p (Ok x) = MeansSource p x
IsRunOf p (Err (Refused kind line)) = ⊥
IsRunOf p (Err (Limit limit)) = (limit ≡ L2) ⊎ (limit ≡ L3) ⊎ (limit ≡ L6)
IsRunOf p (Err OutOfMemory) = ⊥
