use Rattle.std.proofs.Common.{◌≡◌, ◌++◌, drop, map}
use Rattle.ec_embedded_rules.specs.parts.Views.{reference_view}
use Rattle.ec_scopes.specs.Seen.{world_of}
use Rattle.ec_typing_defs.specs.statement_parts.References.{all_names}
use Rattle.ec_typing_defs.specs.Embedded.{denoted_in}
use Rattle.ec_embedded_rules.proofs.variables.add_all.Given as goal

abbrev pub invariant-loop-one : goal.invariant-loop-one
invariant-loop-one l =
    l.numbers ++ denoted_in (world_of l.checker) (all_names (map reference_view (drop l.one-index l.all)))
    ≡ l.initial.numbers ++ denoted_in (world_of l.checker) (all_names (map reference_view l.all))
