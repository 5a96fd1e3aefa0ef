-- Stores as a list, and as the definition has them.
use Rattle.std.proofs.Common.{◌≡◌, List, [], ◌∷◌, refl, ap}
use Rattle.ec_code.specs.Trees.{exps_of}
use Rattle.ec_meaning_defs.specs.resolved.Resolved.{Exp, exps}
use Rattle.ec_resolving_defs.specs.Initializers.{PartData, part_stored, parts_stored}
use Rattle.ec_resolve_values.specs.initial_parts.Parts.{stored_each}

pub stored_same : (at : Exp) (ps : List PartData) → exps_of (stored_each at ps) ≡ parts_stored at ps
stored_same at [] = refl
stored_same at (p ∷ ps) = ap (exps (part_stored at p)) (stored_same at ps)
