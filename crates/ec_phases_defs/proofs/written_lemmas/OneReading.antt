-- Written C has one reading.
use Rattle.std.proofs.Common.{◌≡◌, ◌∙◌, Bool, true, Result, refl, sym, ap}
use Rattle.ec_base.specs.declared.stop.Stop.{Stop}
use Rattle.ec_ctypes.specs.trees.Checked.{TypedData}
use Rattle.ec_ctypes.specs.trees.Units.{UnitData}
use Rattle.ec_language.specs.First.{Reads}
use Rattle.ec_language.specs.Letters.{Text}
use Rattle.ec_language.specs.ReadText.{read_text}
use Rattle.ec_language.proofs.TextReads.{text_reads}
use Rattle.ec_phases_defs.specs.written.Written.{checked_written, ReadsWritten}

-- the law that a text has one reading up to its syntax
abbrev pub OneTree : Type 0
OneTree = (written : Bool) (text : Text) (a other : Result UnitData Stop) → Reads written text a → Reads written text other → a ≡ other

pub one_reading : (one : OneTree) (text : Text) (a b : Result TypedData Stop) → ReadsWritten text a → ReadsWritten text b → a ≡ b
one_reading one text a b h k = h.is ∙ ap checked_written (one true text h.tree k.tree h.reads k.reads) ∙ sym k.is

pub there_is_a_reading : (text : Text) → (answer : Result TypedData Stop) × ReadsWritten text answer
there_is_a_reading text = (checked_written (read_text true text), record { tree = read_text true text; reads = text_reads true text; is = refl })
