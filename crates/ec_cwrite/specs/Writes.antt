-- What a function that writes has written.
use Rattle.std.specs.Prelude.{◌≡◌, ◌++◌}
use Rattle.ec_language.specs.Letters.{Text}
use Rattle.ec_writing_defs.specs.Chunks.{Chunks, text_of}

-- These chunks stand behind what was there.
pub record Writes (old new : Text) (cs : Chunks) : Type 0 where
  pub is : new ≡ old ++ text_of cs
