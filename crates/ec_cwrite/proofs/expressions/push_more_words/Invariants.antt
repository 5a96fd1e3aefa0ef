use Rattle.std.proofs.Common.{◌≡◌, ◌++◌, drop}
use Rattle.ec_writing_defs.specs.Chunks.{text_of}
use Rattle.ec_writing_defs.specs.Expressions.{more_word_chunks}
use Rattle.ec_cwrite.proofs.expressions.push_more_words.Given as goal

abbrev pub invariant-loop-word : goal.invariant-loop-word
invariant-loop-word l = l.out ++ text_of (more_word_chunks (drop l.word-index l.words)) ≡ l.initial.out ++ text_of (more_word_chunks l.words)
