use Rattle.std.proofs.Common.{◌≡◌, ◌-◌, ◌≤◌, ◌++◌, length, drop}
use Rattle.ec_scopes.specs.Entries.{named_view, type_view}
use Rattle.ec_scopes.specs.Offsets.{starts}
use Rattle.ec_scopes.specs.Structs.{infos, shapes_of}
use Rattle.ec_scopes.proofs.structs.StructTable.offsets.Given as goal

abbrev pub invariant-loop-i : goal.invariant-loop-i
invariant-loop-i l = record {
  within : l.i ≤ length l.members;
  rest : l.offsets ++ starts (shapes_of (infos l.self.0 l.self.1)) l.used (named_view type_view (drop l.i l.members)) ≡ starts (shapes_of (infos l.self.0 l.self.1)) 0 (named_view type_view l.members);
}

abbrev pub decreases-loop-i : goal.decreases-loop-i
decreases-loop-i l = length l.members - l.i
