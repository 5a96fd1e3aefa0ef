use Rattle.std.proofs.Common.{◌≡◌, drop, map}
use Rattle.ec_ctypes.specs.views.Exprs.{base_view, declarators_view}
use Rattle.ec_host_defs.specs.sections.Uses.{in_declarators, ◌&◌}
use Rattle.ec_declare.specs.Seen.{uses_view}
use Rattle.ec_declare.proofs.uses.in_declarators.Given as goal

abbrev pub invariant-loop-declarator : goal.invariant-loop-declarator
invariant-loop-declarator l = (uses_view l.uses & in_declarators (base_view l.base) (declarators_view (drop l.declarator-index l.declarators))) ≡ in_declarators (base_view l.base) (declarators_view l.declarators)
