-- What holds of a text that is read as written C and refused by no phase.
use Rattle.std.specs.Prelude.{◌≡◌, true, [], Ok}
use Rattle.ec_ctypes.specs.trees.Checked.{TypedData}
use Rattle.ec_ctypes.specs.trees.Units.{UnitData}
use Rattle.ec_language.specs.Letters.{Text}
use Rattle.ec_phases_defs.specs.written.Written.{ReadsWritten}
use Rattle.ec_typing_defs.specs.Answers.{checked, violations}
use Rattle.ec_sim_program_laws.specs.types.Flat.{TopsAreFlat}
use Rattle.ec_sim_program_laws.specs.types.Types.{StructsAreShallow}
use Rattle.ec_sim_program_laws.proofs.types_lemmas.Fits.{FitTops}
use Rattle.ec_sound_text_laws.specs.Read.{ReadTops}

-- Nothing is embedded in its tree, its declarations can have types and are flat, the checks find nothing wrong in it, and no struct begins with too many types.
pub record IsReadProgram (u : UnitData) : Type 0 where
  pub embs : u.embs ≡ []
  pub read : ReadTops u.tops
  pub flat : TopsAreFlat u.tops
  pub fit : FitTops u.tops
  pub nothing_wrong : violations true u ≡ []
  pub shallow : StructsAreShallow (checked true u).world

abbrev pub TextsAreRead : Type 0
TextsAreRead = (text : Text) (t : TypedData) → ReadsWritten text (Ok t) → IsReadProgram t.unit
