-- Bodies of functions.
use Rattle.std.specs.Prelude.{ℕ, List, map, Some}
use Rattle.ec_code.specs.Views.{size_view, statements_view}
use Rattle.ec_meaning_defs.specs.resolved.Resolved.{Stms}
use Rattle.ec_resolving_defs.specs.Programs as of
use Rattle.ec_resolve_statements.specs.declared.bodies.Body.{Body}

-- the sizes of the objects of the block, and its statements
abbrev pub body_view : Body → List ℕ × Stms
body_view b = (map size_view b.objects, statements_view b.statements)

abbrev pub some_body_view : Body → of.Body
some_body_view b = Some (body_view b)
