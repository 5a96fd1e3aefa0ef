use Rattle.std.proofs.Common.{◌≡◌, drop}
use Rattle.ec_ctypes.specs.views.Exprs.{inits_view}
use Rattle.ec_resolve_forms.specs.Seen.{from, mapped}
use Rattle.ec_resolving_defs.specs.Initializers.{fill}
use Rattle.ec_scopes.specs.Entries.{place_view}
use Rattle.ec_resolve_statements.specs.Filled.{filled_behind}
use Rattle.ec_resolve_initials.specs.Left.{left_view}
use Rattle.ec_resolve_values.specs.initial_parts.Parts.{parts_view}
use Rattle.ec_resolve_statements.proofs.fill.+filling.Given as goal

abbrev pub invariant-fill-loop-init : goal.invariant-fill-loop-init
invariant-fill-loop-init l =
    mapped (filled_behind (parts_view l.fn.parts)) (from (fill (place_view l.at) l.is_global (left_view l.fn.left) (inits_view l.list)) l.fn.resolver)
    ≡ mapped (filled_behind (parts_view l.parts)) (from (fill (place_view l.at) l.is_global (left_view l.rest) (inits_view (drop l.init-index l.list))) l.resolver)
