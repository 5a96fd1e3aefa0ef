use Rattle.std.proofs.Common.{◌≡◌, ◌-◌, codes, map}
use Rattle.ec_references.specs.Readers.{further, one_further, hosted, next_is, turns_from}
use Rattle.ec_embedded.specs.Terminals.{sign, reference}
use Rattle.ec_ctypes.specs.views.Embedded.{host_view}
use Rattle.ec_references.specs.States.{seen}
use Rattle.ec_references.proofs.lists.more_hosts.Given as goal

abbrev pub invariant-loop-turn : goal.invariant-loop-turn
invariant-loop-turn l =
    further (hosted reference) (map host_view l.fn.hosts) (seen l.fn.cursor).counts (seen l.fn.cursor).tokens
    ≡ turns_from (next_is (sign (codes ","))) (one_further (hosted reference)) (l._turn-end - l._turn) (map host_view l.hosts) (seen l.cursor).counts (seen l.cursor).tokens
