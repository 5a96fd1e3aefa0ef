-- Whole programs.
use Rattle.std.specs.Prelude.{◌≡◌, Bool, List, []}
use Rattle.ec_ctypes.specs.trees.Units.{UnitData}
use Rattle.ec_typing_defs.specs.Answers.{checked, violations}
use Rattle.ec_resolving_defs.specs.Programs.{resolve, library_calls_of}
use Rattle.ec_sim_program_laws.proofs.types_lemmas.Fits.{FitTops}
use Rattle.ec_sim_program_laws.specs.types.Types.{StructsAreShallow}
use Rattle.ec_sound_defs.specs.Sound.{Signature, SoundProgram}
use Rattle.ec_sound_defs.specs.Written.{library_atoms}
use Rattle.ec_sound_program_laws.specs.Plain.{TopsArePlain}

-- A program is resolved to a sound one, by some signatures of its functions
pub record IsSound (written : Bool) (u : UnitData) : Type 0 where
  pub signatures : List Signature
  pub sound : SoundProgram signatures (library_atoms signatures (library_calls_of written u))
      (resolve written u)

-- as written C or not, where it is read without embedded statements, nothing is wrong with it, and no struct begins with too many types
abbrev pub ProgramsAreSound : Bool → Type 0
ProgramsAreSound written = (u : UnitData) → FitTops u.tops → TopsArePlain u.tops
    → violations written u ≡ [] → StructsAreShallow (checked written u).world → IsSound written u
