-- What the code keeps of words, and what it stands for.
use Rattle.std.specs.Prelude.{List}
use Rattle.ec_sqlitelink.specs.declared.words.Word.{Word}
use Rattle.ec_sqlitelink.specs.declared.words.Word.TheVariants.{Plain, Quoted}
use Rattle.ec_sqlitelink.specs.declared.words.Words.{Words}
use Rattle.ec_sqlitelink.specs.Words.{plain, quoted, words_of}
use Rattle.ec_sqlitelink.specs.Words as spec
use Rattle.ec_sqlitelink.specs.declared.control.Control.{Control}
use Rattle.ec_sqlitelink.specs.declared.control.Control.TheVariants.{Begin, Commit, Rollback, Savepoint, RollbackTo, Release}
use Rattle.ec_sqlitelink.specs.Control.{begin, commit, rollback, savepoint, rollback_to, release}
use Rattle.ec_sqlitelink.specs.Control as control

-- a word
abbrev pub word_of : Word → spec.Word
word_of (Plain text) = plain text.now
word_of (Quoted text) = quoted text.now

-- the words that are left
abbrev pub left : Words → List spec.Word
left words = words_of words.rest.now

-- a control
abbrev pub control_of : Control → control.Control
control_of Begin = begin
control_of (Commit chain) = commit chain
control_of (Rollback chain) = rollback chain
control_of (Savepoint name) = savepoint name.now
control_of (RollbackTo name) = rollback_to name.now
control_of (Release name) = release name.now
