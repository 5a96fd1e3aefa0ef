-- A text that is read in one way is run as one program.
use Rattle.std.proofs.Common.{◌≡◌, Result, ap, sym, ◌∙◌}
use Rattle.ec_base.specs.declared.stop.Stop.{Stop}
use Rattle.ec_ctypes.specs.trees.Checked.{TypedData}
use Rattle.ec_language.specs.Letters.{Text}
use Rattle.ec_phases_defs.specs.written.Written.{ReadsWritten}
use Rattle.ec_execution_defs.specs.Programs.{Executable, resolved, IsProgram}
use Rattle.ec_execution_defs.specs.Programs.IsProgram.{left_of}

pub single : (text : Text) → ((t t' : Result TypedData Stop) → ReadsWritten text t → ReadsWritten text t' → t ≡ t')
    → (a b : Result Executable Stop) → IsProgram text a → IsProgram text b → a ≡ b
single text one a b (left_of t r e) (left_of t' r' e') = e ∙ ap resolved (one t t' r r') ∙ sym e'
