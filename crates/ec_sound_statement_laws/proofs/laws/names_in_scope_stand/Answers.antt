use Rattle.ec_sound_statement_laws.proofs.Sites.{sites_stand, expression_stands, declaration_sites, global_sites, params_sites, statement_sites, statements_sites}
use Rattle.ec_sound_statement_laws.proofs.laws.names_in_scope_stand.Goals as goal

pub returns-clause-expressions : goal.returns-clause-expressions
returns-clause-expressions c = expression_stands

pub returns-clause-declarations : goal.returns-clause-declarations
returns-clause-declarations c = λ gs n d. sites_stand gs (declaration_sites gs n d)

pub returns-clause-globals : goal.returns-clause-globals
returns-clause-globals c = λ gs n d. sites_stand gs (global_sites gs n d)

pub returns-clause-parameters : goal.returns-clause-parameters
returns-clause-parameters c = λ gs n at defined ps. sites_stand gs (params_sites gs n at defined ps)

pub returns-clause-statements : goal.returns-clause-statements
returns-clause-statements c = λ gs a n x. sites_stand gs (statement_sites gs a n x)

pub returns-clause-lists : goal.returns-clause-lists
returns-clause-lists c = λ gs a n xs. sites_stand gs (statements_sites gs a n xs)
