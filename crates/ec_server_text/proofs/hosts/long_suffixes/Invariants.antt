use Rattle.std.proofs.Common.{◌≡◌, ◌-◌}
use Rattle.ec_ctypes.specs.views.Exprs.{expr_view}
use Rattle.ec_references.specs.Readers.{suffix_behind, turns_from}
use Rattle.ec_references.specs.States.{seen}
use Rattle.ec_server_text.specs.Readers.{long_suffixes, begins_suffix}
use Rattle.ec_server_text.proofs.hosts.long_suffixes.Given as goal

abbrev pub invariant-loop-turn : goal.invariant-loop-turn
invariant-loop-turn l =
    long_suffixes (expr_view l.fn.of) (seen l.fn.cursor).counts (seen l.fn.cursor).tokens
    ≡ turns_from begins_suffix suffix_behind (l._turn-end - l._turn) (expr_view l.of) (seen l.cursor).counts (seen l.cursor).tokens
