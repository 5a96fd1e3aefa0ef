use Rattle.std.proofs.Common.{◌≡◌, drop}
use Rattle.ec_ctypes.specs.views.Exprs.{exprs_view}
use Rattle.ec_declare.specs.Seen.{uses_view}
use Rattle.ec_host_defs.specs.sections.Uses.{in_exprs, ◌&◌}
use Rattle.ec_declare.proofs.uses.+uses.Given as goal

abbrev pub invariant-in_exprs-loop-expr : goal.invariant-in_exprs-loop-expr
invariant-in_exprs-loop-expr l = (uses_view l.uses & in_exprs (exprs_view (drop l.expr-index l.exprs))) ≡ in_exprs (exprs_view l.exprs)
