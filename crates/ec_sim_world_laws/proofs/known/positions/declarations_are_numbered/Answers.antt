use Rattle.ec_sim_world_laws.proofs.known_lemmas.PositionsPassed.{starts_before_all, items_are_passed, functions_are_numbered, types_declare_none}
use Rattle.ec_sim_world_laws.proofs.known.positions.declarations_are_numbered.Goals as goal

pub returns : goal.returns
returns c = record {
  start = starts_before_all;
  items = items_are_passed;
  functions = functions_are_numbered;
  types = types_declare_none;
}
