-- What stands round a statement, as the definitions see it.
use Rattle.std.specs.Prelude.{map}
use Rattle.ec_ctypes.specs.views.Embedded.{emb_view}
use Rattle.ec_typing_defs.specs.Statements.{Around as AroundData}
use Rattle.ec_scopes.specs.Entries.{type_view}
use Rattle.ec_embedded_rules.specs.declared.surroundings.Around.{Around}

abbrev pub around_view : Around → AroundData
around_view a = record {
  embs = map emb_view a.embedded.now;
  is_body = a.is_body;
  in_loop = a.in_loop;
  labels = a.labels.now;
  result = type_view a.result.now;
}
