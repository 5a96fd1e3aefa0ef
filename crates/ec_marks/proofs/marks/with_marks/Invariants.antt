use Rattle.std.proofs.Common.{◌≡◌, ◌++◌, ◌≤◌, ◌+◌, length, suc}
use Rattle.ec_call_defs.specs.Marks.{with_marks, marked}
use Rattle.ec_marks.specs.Steps.{depth}
use Rattle.ec_marks.specs.Views.{place_view}
use Rattle.ec_marks.proofs.marks.with_marks.Given as goal

abbrev pub invariant-loop-rest : goal.invariant-loop-rest
invariant-loop-rest l = record {
  goes_on : with_marks l.text ≡ l.made ++ marked (place_view l.place) (suc l.marks) l.rest;
  counted : l.marks + length l.rest ≤ length l.text;
  deep : depth (place_view l.place) + length l.rest ≤ length l.text;
}

abbrev pub decreases-loop-rest : goal.decreases-loop-rest
decreases-loop-rest l = length l.rest
