use Rattle.std.proofs.Common.{◌≡◌, ◌-◌, ◌≤◌}
use Rattle.ec_references.specs.States.{seen}
use Rattle.ec_server_text.specs.Readers.{cuts_within}
use Rattle.ec_server_text.specs.Views.{cutting_view}
use Rattle.ec_server_text.proofs.cuts.cuts_within.Given as goal

abbrev pub invariant-loop-turn : goal.invariant-loop-turn
invariant-loop-turn l = record {
  whole : cuts_within l.fn.turns (cutting_view l.fn.cutting) (seen l.fn.cursor).counts (seen l.fn.cursor).tokens
      ≡ cuts_within (l.turns - l._turn) (cutting_view l.cutting) (seen l.cursor).counts (seen l.cursor).tokens;
  depth : l.cutting.depth ≤ l._turn;
}
