-- Which connection a name leads to.
use Rattle.std.specs.Prelude.{ℕ, ◌+◌, true, false, List, [], ◌∷◌, Option, Some, None, option_map, option_and_then}
use Rattle.ec_meaning_defs.specs.evaluation.State.{Connection}
use Rattle.ec_call_defs.specs.Outcomes.{Text}
use Rattle.ec_call_defs.specs.Connections.{same_name, connection_named}

-- the name that is asked for, or that of the current connection
abbrev pub or_current : Option Text → Option Text → Option Text
or_current None current = current
or_current (Some name) current = Some name

-- the connection of this name, or the current one
abbrev pub sought : Option Text → Option Text → List Connection → Option Connection
sought name current cs =
    option_and_then (λ wanted. connection_named wanted cs) (or_current name current)

-- where the connection of a name stands
abbrev pub place_named : Text → List Connection → Option ℕ
place_named name [] = None
place_named name (c ∷ cs) =
    elim (same_name c.name name) [
      | true ↦ Some 0
      | false ↦ option_map (λ at. at + 1) (place_named name cs)
    ]

-- where the connection of this name stands, or the current one
abbrev pub place_sought : Option Text → Option Text → List Connection → Option ℕ
place_sought name current cs =
    option_and_then (λ wanted. place_named wanted cs) (or_current name current)
