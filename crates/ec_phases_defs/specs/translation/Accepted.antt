-- A source of bytes that is accepted.
use Rattle.std.specs.Prelude.{◌≡◌, true, Ok}
use Rattle.ec_language.specs.Letters.{Text, each}
use Rattle.ec_phases_defs.specs.Sources.{BoundProgram, ReadsSource}
use Rattle.ec_writing_defs.specs.Shapes.{is_byte}

-- a text of bytes that is read as this program
pub record IsAcceptedText (text : Text) (p : BoundProgram) : Type 0 where
  pub bytes : each is_byte text ≡ true
  pub reads : ReadsSource text (Ok p)
