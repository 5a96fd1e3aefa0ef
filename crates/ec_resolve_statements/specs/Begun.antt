-- Objects that are declared.
use Rattle.std.specs.Prelude.{ℕ}
use Rattle.ec_resolving_defs.specs.Storage.{Site}
use Rattle.ec_resolve_values.specs.storage.Stored.{site_view}
use Rattle.ec_resolve_statements.specs.declared.objects.Begun.{Begun}

abbrev pub begun_view : Begun → ℕ × Site
begun_view b = (b.number, site_view b.site)
