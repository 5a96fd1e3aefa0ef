-- Programs and sources take their answers exactly, and so they are replayable.
use Rattle.std.proofs.Common.{◌≡◌, ℕ, List, Option, true, subst}
use Rattle.ec_arguments.specs.Arguments.{Arg}
use Rattle.ec_call_defs.specs.Steps.{library_step}
use Rattle.ec_ctypes.specs.declared.checked.library.LibName.{LibName}
use Rattle.ec_direct_defs.specs.Direct.{direct_meaning}
use Rattle.ec_direct_defs.specs.simulation.Written.{written_meaning}
use Rattle.ec_execution_defs.specs.Programs.{Executable, meaning}
use Rattle.ec_expansion_defs.specs.Programs.{written_program}
use Rattle.ec_meaning_defs.specs.evaluation.State.{Answer}
use Rattle.ec_meaning_defs.specs.evaluation.Whole.{program_meaning}
use Rattle.ec_meaning_defs.specs.resolved.Programs.{Program}
use Rattle.ec_meaning_defs.specs.resolved.Resolved.{Exp}
use Rattle.ec_phases_defs.specs.Sources.{BoundProgram}
use Rattle.ec_resolving_defs.specs.Programs.{library_calls_of, resolve}
use Rattle.ec_sim_source_laws.specs.run.Runs.{KeepsItsMeaning}
use Rattle.ec_replay_laws.specs.Runs.{Meaning, SaysTheSame, SaysAFront}
use Rattle.ec_replay_laws.specs.Taking.{TakesExactly}
use Rattle.ec_replay_laws.specs.Texts.{IsReplayed, PartIsReplayed, WrittenIsReplayed, IsReplayable}
use Rattle.ec_replay_laws.proofs.Reading.{takes_alike}

abbrev Exactly : Type 0
Exactly = (calls : List (LibName × List (Arg Exp))) (p : Program) (turns : ℕ) → TakesExactly (λ ready answers. program_meaning (library_step calls) p turns ready answers)

-- a law of all meanings that take their answers exactly
abbrev OfExact : (Meaning → Type 0) → Type 0
OfExact Law = (m : Meaning) → TakesExactly m → Law m

pub program_exact : Exactly → (x : Executable) (turns : ℕ) → TakesExactly (meaning x turns)
unfolding meaning
program_exact exact x turns = exact x.calls x.program turns

pub source_exact : Exactly → (p : BoundProgram) → KeepsItsMeaning p → (turns : ℕ) → TakesExactly (direct_meaning p.program turns)
source_exact exact p keeps turns =
    takes_alike (written_meaning (written_program p.program p.bounds) turns) (direct_meaning p.program turns) (λ ready answers. keeps turns ready answers)
    (exact (library_calls_of true (written_program p.program p.bounds)) (resolve true (written_program p.program p.bounds)) turns)

pub replayable : OfExact SaysTheSame → OfExact SaysAFront → OfExact IsReplayed → OfExact PartIsReplayed → OfExact WrittenIsReplayed → OfExact IsReplayable
replayable whole part read read_part written m exact =
    record { whole = whole m exact; part = part m exact; read = read m exact; read_part = read_part m exact; written = written m exact }

-- what means the same is replayable too
pub replayable_alike : (one other : Meaning) → ((ready : Option (ℕ × List ℕ)) (answers : List Answer) → one ready answers ≡ other ready answers) → IsReplayable one → IsReplayable other
replayable_alike one other same r = subst IsReplayable (λ i ready answers. same ready answers i) r
