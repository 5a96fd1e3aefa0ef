-- The connection of a name, by its place.
use Rattle.std.proofs.Common.{◌≡◌, ℕ, ◌+◌, Bool, true, false, List, [], ◌∷◌, add-one, Option, Some, None, refl, sym, ap, ◌∙◌}
use Rattle.std.specs.Prelude.{option_and_then, option_map, slice_get}
use Rattle.ec_meaning_defs.specs.evaluation.State.{Connection}
use Rattle.ec_call_defs.specs.Outcomes.{Text}
use Rattle.ec_call_defs.specs.Connections.{same_name, connection_named}
use Rattle.ec_runtime.specs.Closing.{at_place}
use Rattle.ec_runtime.specs.Seeking.{or_current, sought, place_named, place_sought}

-- one place further on
at_next : (c : Connection) (cs : List Connection) (o : Option ℕ) → at_place (c ∷ cs) (option_map (λ at. at + 1) o) ≡ at_place cs o
at_next c cs None = refl
at_next c cs (Some at) = ap (slice_get (c ∷ cs)) (add-one at)

pub named_at : (name : Text) (cs : List Connection) → connection_named name cs ≡ at_place cs (place_named name cs)
named_at name [] = refl
named_at name (c ∷ cs) = go (same_name c.name name) (named_at name cs)
  where
    go : (b : Bool) → connection_named name cs ≡ at_place cs (place_named name cs)
        → elim b [ true ↦ Some c | false ↦ connection_named name cs ] ≡ at_place (c ∷ cs) (elim b [ true ↦ Some 0 | false ↦ option_map (λ at. at + 1) (place_named name cs) ])
    go true e = refl
    go false e = e ∙ sym (at_next c cs (place_named name cs))

pub sought_at : (name current : Option Text) (cs : List Connection) → sought name current cs ≡ at_place cs (place_sought name current cs)
sought_at name current cs = go (or_current name current)
  where
    go : (o : Option Text) → option_and_then (λ wanted. connection_named wanted cs) o ≡ at_place cs (option_and_then (λ wanted. place_named wanted cs) o)
    go None = refl
    go (Some wanted) = named_at wanted cs
