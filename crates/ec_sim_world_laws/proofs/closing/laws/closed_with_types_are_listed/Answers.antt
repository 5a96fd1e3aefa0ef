use Rattle.ec_sim_world_laws.proofs.closing_lemmas.Closed.{with_shapes, starts_with_types, had_types}
use Rattle.ec_sim_world_laws.proofs.closing_lemmas.Shaped.{have_shapes}
use Rattle.ec_sim_world_laws.proofs.closing.laws.closed_with_types_are_listed.Goals as goal

pub returns : goal.returns
returns c = record {
  start = starts_with_types;
  before = had_types;
  shapes = have_shapes;
  closed = λ w order have. with_shapes w (have_shapes w order have) order;
}
