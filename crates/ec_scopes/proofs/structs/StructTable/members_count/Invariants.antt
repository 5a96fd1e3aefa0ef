use Rattle.std.proofs.Common.{◌≡◌, ◌+◌, ◌≤◌, length, drop}
use Rattle.ec_typing_defs.specs.Expressions.{stands_for_all}
use Rattle.ec_scopes.specs.Counts.{counted}
use Rattle.ec_scopes.specs.Entries.{named_view, type_view}
use Rattle.ec_scopes.specs.Structs.{infos}
use Rattle.ec_scopes.proofs.structs.StructTable.members_count.Given as goal

abbrev pub invariant-loop-i : goal.invariant-loop-i
invariant-loop-i l = record {
  within : l.i ≤ length l.members;
  small : l.all ≤ 1001;
  rest : counted (l.all + stands_for_all (infos l.self.0 l.self.1) (named_view type_view (drop l.i l.members))) ≡ counted (stands_for_all (infos l.self.0 l.self.1) (named_view type_view l.members));
}
