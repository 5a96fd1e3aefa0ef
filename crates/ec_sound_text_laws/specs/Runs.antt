-- That programs which are accepted are never stuck.
use Rattle.std.specs.Prelude.{Ok}
use Rattle.ec_direct_defs.specs.Direct.{direct_meaning}
use Rattle.ec_execution_defs.specs.Programs.{Executable, IsProgram, meaning}
use Rattle.ec_language.specs.Letters.{Text}
use Rattle.ec_phases_defs.specs.Sources.{BoundProgram}
use Rattle.ec_phases_defs.specs.translation.Accepted.{IsAcceptedText}
use Rattle.ec_sound_text_laws.specs.Endings.{IsNeverStuck}

-- what a text of written C is run as
abbrev pub WrittenTextsAreNeverStuck : Type 0
WrittenTextsAreNeverStuck = (text : Text) (x : Executable) → IsProgram text (Ok x)
    → IsNeverStuck (meaning x)

-- a source, by what its embedded statements do where they stand
abbrev pub SourcesAreNeverStuck : Type 0
SourcesAreNeverStuck = (text : Text) (p : BoundProgram) → IsAcceptedText text p
    → IsNeverStuck (direct_meaning p.program)
