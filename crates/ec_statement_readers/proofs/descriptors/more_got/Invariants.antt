use Rattle.std.proofs.Common.{◌≡◌, ◌-◌, codes, map}
use Rattle.ec_ctypes.specs.views.Embedded.{get_item_view}
use Rattle.ec_embedded.specs.Terminals.{sign}
use Rattle.ec_references.specs.Readers.{further, one_further, next_is, turns_from}
use Rattle.ec_references.specs.States.{seen}
use Rattle.ec_statement_readers.specs.Readers.{got}
use Rattle.ec_statement_readers.proofs.descriptors.more_got.Given as goal

abbrev pub invariant-loop-turn : goal.invariant-loop-turn
invariant-loop-turn l =
    further got (map get_item_view l.fn.items) (seen l.fn.cursor).counts (seen l.fn.cursor).tokens
    ≡ turns_from (next_is (sign (codes ","))) (one_further got) (l._turn-end - l._turn) (map get_item_view l.items) (seen l.cursor).counts (seen l.cursor).tokens
