-- The prepared statements of a connection.
use Rattle.std.specs.Prelude.{ℕ, ◌+◌, true, false, List, [], ◌∷◌, map, Option, Some, None, option_map}
use Rattle.ec_call_defs.specs.Outcomes.{Text}
use Rattle.ec_call_defs.specs.Connections.{same_name}
use Rattle.ec_runtime.specs.declared.prepared.Prepared.{Prepared}

abbrev pub prepared_view : Prepared → Text × Text
prepared_view p = (p.name, p.text)

abbrev pub prepared_views : List Prepared → List (Text × Text)
prepared_views ps = map prepared_view ps

-- where a name stands
abbrev pub place_of : Text → List (Text × Text) → Option ℕ
place_of name [] = None
place_of name (p ∷ ps) =
    elim (same_name p.0 name) [
      | true ↦ Some 0
      | false ↦ option_map (λ at. at + 1) (place_of name ps)
    ]
