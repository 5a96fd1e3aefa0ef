-- What the written program of a source means: its calls of the library, run over the definition of the library.
use Rattle.std.specs.Prelude.{ℕ, true, List, [], Option, Result, Ok, Err}
use Rattle.ec_base.specs.declared.stop.Stop.{Stop}
use Rattle.ec_ctypes.specs.trees.Checked.{TypedData, BoundData}
use Rattle.ec_ctypes.specs.trees.Units.{UnitData}
use Rattle.ec_expansion_defs.specs.Programs.{written_program}
use Rattle.ec_phases_defs.specs.Sources.{bound_from}
use Rattle.ec_resolving_defs.specs.Programs.{resolve, library_calls_of}
use Rattle.ec_meaning_defs.specs.evaluation.State.{Answer}
use Rattle.ec_meaning_defs.specs.evaluation.Whole.{Observed, program_meaning}
use Rattle.ec_call_defs.specs.Steps.{library_step}
use Rattle.ec_direct_defs.specs.Examples.{nothing_seen}

-- what written C means, for so many turns, a connection that is ready or none, and the answers that come
abbrev pub written_meaning : UnitData → ℕ → Option (ℕ × List ℕ) → List Answer → Observed
written_meaning u turns ready answers =
    program_meaning (library_step (library_calls_of true u)) (resolve true u) turns ready answers

-- what is written of a source means, by what is bound for its statements
abbrev pub meaning_by : TypedData → ℕ → Option (ℕ × List ℕ) → List Answer
    → Result (List BoundData) Stop → Observed
meaning_by t turns ready answers (Ok bounds) =
    written_meaning (written_program t bounds) turns ready answers
meaning_by t turns ready answers (Err stop) = nothing_seen

abbrev pub meaning_of_written : TypedData → ℕ → Option (ℕ × List ℕ) → List Answer → Observed
meaning_of_written t turns ready answers =
    meaning_by t turns ready answers (bound_from t 0 t.unit.embs)
