use Rattle.std.proofs.Common.{◌≡◌, ◌++◌, drop}
use Rattle.ec_ctypes.proofs.copies.lists.copy_words.Given as goal

abbrev pub invariant-loop-word : goal.invariant-loop-word
invariant-loop-word l = l.copy ++ drop l.word-index l.word-items ≡ l.words
