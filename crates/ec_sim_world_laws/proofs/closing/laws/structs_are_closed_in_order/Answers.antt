use Rattle.ec_sim_world_laws.proofs.closing_lemmas.Closed.{starts_in_order}
use Rattle.ec_sim_world_laws.proofs.closing_lemmas.Expressions.{expr_keeps, args_keep, base_keeps, lengths_keep}
use Rattle.ec_sim_world_laws.proofs.closing_lemmas.Initializers.{initializer_keeps}
use Rattle.ec_sim_world_laws.proofs.closing_lemmas.EmbeddedRules.{handlers_keeps, embedded_keeps}
use Rattle.ec_sim_world_laws.proofs.closing_lemmas.Statements.{declaration_keeps, statement_keeps, statements_keep}
use Rattle.ec_sim_world_laws.proofs.closing_lemmas.Programs.{function_keeps, tops_keep, unit_keeps}
use Rattle.ec_sim_world_laws.proofs.closing.laws.structs_are_closed_in_order.Goals as goal

pub returns : goal.returns
returns c = record {
  start = starts_in_order;
  expressions = λ at e w order. ((expr_keeps at e).keeps w order).order;
  arguments = λ at forms es w order. ((args_keep at forms es).keeps w order).order;
  types = λ at b w order. ((base_keeps at b).keeps w order).order;
  lengths = λ at ds w order. ((lengths_keep at ds).keeps w order).order;
  initializers = λ at global t i w order. ((initializer_keeps at global t i).keeps w order).order;
  declarations = λ global d w order. ((declaration_keeps global d).keeps w order).order;
  handlers = λ es in_loop labels at e w order. ((handlers_keeps es in_loop labels at e).keeps w order).order;
  embedded = λ es is_body in_loop labels at n e w order. ((embedded_keeps es is_body in_loop labels at n e).keeps w order).order;
  statements = λ a s w order. ((statement_keeps a s).keeps w order).order;
  lists = λ a ss w order. ((statements_keep a ss).keeps w order).order;
  functions = λ es f w order. ((function_keeps es f).keeps w order).order;
  programs = λ es ts w order. ((tops_keep es ts).keeps w order).order;
  units = λ u w order. ((unit_keeps u).keeps w order).order;
}
