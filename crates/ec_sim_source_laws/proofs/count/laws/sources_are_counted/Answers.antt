use Rattle.ec_sim_source_laws.proofs.count_lemmas.Sources.{sources_counted}
use Rattle.ec_sim_source_laws.proofs.count.laws.sources_are_counted.Goals as goal

pub returns : goal.returns
returns c = sources_counted (record {
  places = c.references_are_places.ensures;
  grown = c.what_grows_stays.ensures;
  had_types = c.closed_with_types_are_listed.ensures.before;
  with_types = c.closed_with_types_are_listed.ensures.closed;
})
