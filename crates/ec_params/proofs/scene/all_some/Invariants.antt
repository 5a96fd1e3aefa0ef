use Rattle.std.proofs.Common.{◌≡◌, drop}
use Rattle.ec_host_defs.specs.Programs.{all_some}
use Rattle.ec_params.proofs.scene.all_some.Given as goal

abbrev pub invariant-loop-declaration : goal.invariant-loop-declaration
invariant-loop-declaration l = all_some (drop l.declaration-index l.denoted) ≡ all_some l.denoted
