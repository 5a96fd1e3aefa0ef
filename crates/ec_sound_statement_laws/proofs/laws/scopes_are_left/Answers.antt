use Rattle.ec_sound_statement_laws.proofs.Scopes.{declaration_keeps, params_keep, statement_keeps, statements_keep, scoped_leaves}
use Rattle.ec_sound_statement_laws.proofs.laws.scopes_are_left.Goals as goal

pub returns-clause-declarations : goal.returns-clause-declarations
returns-clause-declarations c = declaration_keeps

pub returns-clause-parameters : goal.returns-clause-parameters
returns-clause-parameters c = params_keep

pub returns-clause-statements : goal.returns-clause-statements
returns-clause-statements c = statement_keeps

pub returns-clause-lists : goal.returns-clause-lists
returns-clause-lists c = statements_keep

pub returns-clause-bodies : goal.returns-clause-bodies
returns-clause-bodies c = λ a x. scoped_leaves (statement_keeps a x)

pub returns-clause-blocks : goal.returns-clause-blocks
returns-clause-blocks c = λ a xs. scoped_leaves (statements_keep a xs)
