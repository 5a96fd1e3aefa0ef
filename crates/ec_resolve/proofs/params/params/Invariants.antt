use Rattle.std.proofs.Common.{◌≡◌, ◌++◌, drop, map}
use Rattle.ec_ctypes.specs.views.Units.{param_view}
use Rattle.ec_resolve_forms.specs.Seen.{from, mapped}
use Rattle.ec_resolving_defs.specs.Programs.{params}
use Rattle.ec_scopes.specs.Entries.{place_view, type_view}
use Rattle.ec_resolve.proofs.params.params.Given as goal

abbrev pub invariant-loop-p : goal.invariant-loop-p
invariant-loop-p l =
    from (params (place_view l.at) l.is_defined (map param_view l.ps)) l.fn.resolver
    ≡ mapped (λ rest. map type_view l.types ++ rest) (from (params (place_view l.at) l.is_defined (map param_view (drop l.p-index l.ps))) l.resolver)
