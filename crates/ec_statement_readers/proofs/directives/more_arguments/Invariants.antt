use Rattle.std.proofs.Common.{◌≡◌, ◌-◌, codes, map}
use Rattle.ec_ctypes.specs.views.Exprs.{expr_view}
use Rattle.ec_embedded.specs.Terminals.{sign}
use Rattle.ec_references.specs.Readers.{further, one_further, next_is, turns_from}
use Rattle.ec_references.specs.States.{seen}
use Rattle.ec_statement_readers.specs.Readers.{argument}
use Rattle.ec_statement_readers.proofs.directives.more_arguments.Given as goal

abbrev pub invariant-loop-turn : goal.invariant-loop-turn
invariant-loop-turn l =
    further argument (map expr_view l.fn.values) (seen l.fn.cursor).counts (seen l.fn.cursor).tokens
    ≡ turns_from (next_is (sign (codes ","))) (one_further argument) (l._turn-end - l._turn) (map expr_view l.values) (seen l.cursor).counts (seen l.cursor).tokens
