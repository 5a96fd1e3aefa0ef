use Rattle.std.proofs.Common.{◌≡◌, drop, map}
use Rattle.std.specs.List.{list_all}
use Rattle.ec_host_defs.specs.Elements.{is_indicator}
use Rattle.ec_leaves.specs.Seen.{leaf_view}
use Rattle.ec_params.proofs.indicators.all_indicators.Given as goal

abbrev pub invariant-loop-leaf : goal.invariant-loop-leaf
invariant-loop-leaf l = list_all (λ l. is_indicator l.element) (map leaf_view (drop l.leaf-index l.leaves)) ≡ list_all (λ l. is_indicator l.element) (map leaf_view l.leaves)
