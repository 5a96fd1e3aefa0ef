use Rattle.std.proofs.Common.{drop, map}
use Rattle.ec_embedded_rules.specs.parts.Views.{reference_view}
use Rattle.ec_scopes.specs.Entries.{place_view}
use Rattle.ec_scopes.specs.Seen.{world_of, notes_of}
use Rattle.ec_scopes.proofs.Steps.{Goes}
use Rattle.ec_typing_defs.specs.Embedded.{references_rule}
use Rattle.ec_embedded_rules.proofs.references.references_rule.Given as goal

abbrev pub invariant-loop-one : goal.invariant-loop-one
invariant-loop-one l =
    Goes (references_rule (place_view l.at) (map reference_view l.all) (world_of l.fn.checker)) (notes_of l.fn.checker)
    (references_rule (place_view l.at) (map reference_view (drop l.one-index l.all)) (world_of l.checker)) (notes_of l.checker) (λ u. u)
