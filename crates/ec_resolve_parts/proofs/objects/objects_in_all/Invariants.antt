use Rattle.std.proofs.Common.{◌≡◌, ◌+◌, drop}
use Rattle.ec_ctypes.specs.views.Stmts.{stmts_view}
use Rattle.ec_resolving_defs.specs.Statements.{objects_in_all}
use Rattle.ec_resolve_parts.proofs.objects.objects_in_all.Given as goal

abbrev pub invariant-loop-s : goal.invariant-loop-s
invariant-loop-s l = l.count + objects_in_all (stmts_view (drop l.s-index l.ss)) ≡ objects_in_all (stmts_view l.ss)
