use Rattle.std.proofs.Common.{◌≡◌, ◌≤◌, ◌-◌, length, take, drop, map, true, false}
use Rattle.std.specs.List.{list_all, list_any}
use Rattle.ec_ctypes.specs.views.Checked.{mark_view}
use Rattle.ec_whenever.specs.Tables.{comes_before}
use Rattle.ec_whenever.proofs.lookup.count_before.Given as goal

abbrev pub invariant-loop-low : goal.invariant-loop-low
invariant-loop-low l = record {
  rise : l.low ≤ l.high;
  most : l.high ≤ length l.marks;
  before : list_all (comes_before l.place l.cond) (take l.low (map mark_view l.marks)) ≡ true;
  behind : list_any (comes_before l.place l.cond) (drop l.high (map mark_view l.marks)) ≡ false;
}

abbrev pub decreases-loop-low : goal.decreases-loop-low
decreases-loop-low l = l.high - l.low
