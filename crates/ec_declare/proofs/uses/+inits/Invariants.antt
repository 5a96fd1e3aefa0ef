use Rattle.std.proofs.Common.{◌≡◌, drop, map}
use Rattle.ec_ctypes.specs.views.Exprs.{inits_view}
use Rattle.ec_host_defs.specs.sections.Uses.{in_inits, ◌&◌}
use Rattle.ec_declare.specs.Seen.{uses_view}
use Rattle.ec_declare.proofs.uses.+inits.Given as goal

abbrev pub invariant-in_inits-loop-init : goal.invariant-in_inits-loop-init
invariant-in_inits-loop-init l = (uses_view l.uses & in_inits (inits_view (drop l.init-index l.inits))) ≡ in_inits (inits_view l.inits)
