-- What stands round a statement, as the definition has it.
use Rattle.std.specs.Prelude.{[]}
use Rattle.ec_resolving_defs.specs.Statements as of
use Rattle.ec_scopes.specs.Entries.{type_view}
use Rattle.ec_resolve_statements.specs.declared.surroundings.Around.{Around}

-- no embedded statement stands in the program
abbrev pub around_view : Around → of.Around
around_view a = record { embs = []; labels = a.labels.now; result = type_view a.result.now }
