-- What is written of a source: the text of the written C, by what is bound for its statements; or
-- what the source is refused for.
use Rattle.std.specs.Prelude.{◌≡◌, Result, Ok, Err}
use Rattle.ec_base.specs.declared.stop.Stop.{Stop}
use Rattle.ec_expansion_defs.specs.Programs.{written_program}
use Rattle.ec_language.specs.Letters.{Text}
use Rattle.ec_phases_defs.specs.Sources.{BoundProgram, ReadsSource}
use Rattle.ec_writing_defs.specs.Programs.{written_text}

abbrev pub text_of_program : BoundProgram → Text
text_of_program p = written_text (written_program p.program p.bounds)

abbrev pub translated : Result BoundProgram Stop → Result Text Stop
translated (Ok p) = Ok (text_of_program p)
translated (Err stop) = Err stop

-- What is written of a text, or what it is refused for: it is read as this source, and this is
-- written of it.
pub data IsTranslation (text : Text) (answer : Result Text Stop) : Type 0 where
  translation : (source : Result BoundProgram Stop) → ReadsSource text source
      → answer ≡ translated source → IsTranslation text answer
