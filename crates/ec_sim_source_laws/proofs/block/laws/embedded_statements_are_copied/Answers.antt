use Rattle.std.specs.Prelude.{false, []}
use Rattle.ec_written_laws.specs.bound.Numbers.{tops_numbers}
use Rattle.ec_typing_defs.specs.Answers.{checked}
use Rattle.ec_sim_source_laws.proofs.block_lemmas.Accepting.{statements_copied}
use Rattle.ec_sim_source_laws.proofs.block.laws.embedded_statements_are_copied.Goals as goal

pub returns : goal.returns
returns c = statements_copied (record {
  grown = c.what_grows_stays.ensures;
  within = c.what_is_written_stays.ensures.within;
  names = c.what_is_written_stays.ensures.names;
  had_types = c.closed_with_types_are_listed.ensures.before;
  with_types = c.closed_with_types_are_listed.ensures.closed;
  calls = c.calls_are_those_of_their_places.ensures;
  made = c.written_calls_are_resolved.ensures.statements;
  seen = c.pointers_are_seen.ensures.all;
}) (λ laws t bounds a forms calls n e is_emb directive.
    c.directives_are_gone.ensures t forms calls (tops_numbers t.unit.tops []) (checked false t.unit).world t.handlers bounds n e is_emb directive
    (a.read n e is_emb).make_nothing (laws.walk t.unit))
