use Rattle.std.proofs.Common.{◌≡◌, ◌-◌}
use Rattle.ec_embedded.specs.Terminals.{target_more}
use Rattle.ec_references.specs.Readers.{next_is, turns_from}
use Rattle.ec_references.specs.States.{seen}
use Rattle.ec_statement_readers.specs.Readers.{more_bytes, one_more_byte}
use Rattle.ec_statement_readers.specs.Views.{bytes_view}
use Rattle.ec_statement_readers.proofs.connections.more_tokens.Given as goal

abbrev pub invariant-loop-turn : goal.invariant-loop-turn
invariant-loop-turn l =
    more_bytes (bytes_view l.fn.target) (seen l.fn.cursor).counts (seen l.fn.cursor).tokens
    ≡ turns_from (next_is target_more) one_more_byte (l._turn-end - l._turn) (bytes_view l.target) (seen l.cursor).counts (seen l.cursor).tokens
