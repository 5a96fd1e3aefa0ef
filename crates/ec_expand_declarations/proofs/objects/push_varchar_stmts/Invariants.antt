use Rattle.std.proofs.Common.{◌≡◌, ◌++◌, drop, map}
use Rattle.ec_ctypes.specs.views.Exprs.{declarators_view}
use Rattle.ec_ctypes.specs.views.Stmts.{stmt_view}
use Rattle.ec_expansion_defs.specs.Declarations.{varchar_objects}
use Rattle.ec_expansion_defs.specs.Statements.{decl_stmts}
use Rattle.ec_expand_declarations.proofs.objects.push_varchar_stmts.Given as goal

abbrev pub invariant-loop-item : goal.invariant-loop-item
invariant-loop-item l =
    map stmt_view l.list ++ decl_stmts l.line (varchar_objects l.line.0 (declarators_view (drop l.item-index l.items)))
    ≡ map stmt_view l.initial.list ++ decl_stmts l.line (varchar_objects l.line.0 (declarators_view l.items))
