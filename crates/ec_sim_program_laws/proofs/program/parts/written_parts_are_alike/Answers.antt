use Rattle.ec_sim_program_laws.proofs.program.parts.written_parts_are_alike.Goals as goal

pub returns : goal.returns
returns c = record {
  expressions = c.written_expressions_are_alike.ensures.expressions;
  types = c.written_expressions_are_alike.ensures.types;
  lengths = c.written_expressions_are_alike.ensures.lengths;
  initializers = c.written_initializers_are_alike.ensures c.written_expressions_are_alike.ensures.expressions;
  objects = c.written_varchars_are_alike.ensures.objects;
  outer_lengths = c.written_varchars_are_alike.ensures.outer_lengths;
}
