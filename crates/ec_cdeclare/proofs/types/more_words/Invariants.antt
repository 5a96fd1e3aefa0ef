use Rattle.std.proofs.Common.{◌≡◌, ◌-◌}
use Rattle.ec_grammar.specs.ReadDeclarations.{more_words, more_words_from}
use Rattle.ec_cursor.specs.States.{seen}
use Rattle.ec_cdeclare.proofs.types.more_words.Given as goal

abbrev pub invariant-loop-turn : goal.invariant-loop-turn
invariant-loop-turn l = more_words l.fn.found (seen l.fn.cursor) ≡ more_words_from (l._turn-end - l._turn) l.found (seen l.cursor)
