use Rattle.ec_written_laws.proofs.written_sources_lemmas.WrittenSources.{with_statements_shape, without_statements_shape}
use Rattle.ec_written_laws.proofs.written_sources.laws.sources_are_written_in_shape.Goals as goal

pub returns : goal.returns
returns c =
    let tokens = c.sources_have_source_shape.ensures.tokens in
    let derived = c.derived_trees_have_source_shape.ensures in
    let kept = c.phases_keep_what_is_written.ensures in
    let programs = c.expanded_programs_have_written_shape.ensures in
    let blocks = c.blocks_have_written_shape.ensures in
    let hosts = c.accepted_hosts_can_be_written.ensures in
    record { alone = without_statements_shape tokens derived kept programs blocks hosts; embedded = with_statements_shape tokens derived kept programs blocks hosts }
