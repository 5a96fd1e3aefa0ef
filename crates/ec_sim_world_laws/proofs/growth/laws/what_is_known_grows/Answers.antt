use Rattle.ec_sim_world_laws.proofs.growth_lemmas.Rules.{grows_itself, grows_further}
use Rattle.ec_sim_world_laws.proofs.growth_lemmas.Expressions.{expr_grows, args_grow, base_grows, lengths_grow}
use Rattle.ec_sim_world_laws.proofs.growth_lemmas.Initializers.{initializer_grows}
use Rattle.ec_sim_world_laws.proofs.growth_lemmas.EmbeddedRules.{handlers_grows, embedded_grows}
use Rattle.ec_sim_world_laws.proofs.growth_lemmas.Statements.{declaration_grows, statement_grows, statements_grow}
use Rattle.ec_sim_world_laws.proofs.growth_lemmas.Programs.{function_grows, tops_grow}
use Rattle.ec_sim_world_laws.proofs.growth.laws.what_is_known_grows.Goals as goal

pub returns : goal.returns
returns c = record {
  reflexive = grows_itself;
  transitive = grows_further;
  expressions = λ at e. (expr_grows at e).grows;
  arguments = λ at forms es. (args_grow at forms es).grows;
  types = λ at b. (base_grows at b).grows;
  lengths = λ at ds. (lengths_grow at ds).grows;
  initializers = λ at global t i. (initializer_grows at global t i).grows;
  declarations = λ global d. (declaration_grows global d).grows;
  handlers = λ es in_loop labels at e. (handlers_grows es in_loop labels at e).grows;
  embedded = λ es is_body in_loop labels at n e. (embedded_grows es is_body in_loop labels at n e).grows;
  statements = λ a s. (statement_grows a s).grows;
  lists = λ a ss. (statements_grow a ss).grows;
  functions = λ es f. (function_grows es f).grows;
  programs = λ es ts. (tops_grow es ts).grows;
}
