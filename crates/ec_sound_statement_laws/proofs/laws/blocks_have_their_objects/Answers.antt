use Rattle.ec_resolving_defs.specs.Statements.{objects_in_all, statements}
use Rattle.ec_sound_statement_laws.proofs.Making.{in_block_full, declaration_makes, global_makes, params_make, statement_makes, statements_make}
use Rattle.ec_sound_statement_laws.proofs.laws.blocks_have_their_objects.Goals as goal

pub returns-clause-declarations : goal.returns-clause-declarations
returns-clause-declarations c = declaration_makes

pub returns-clause-globals : goal.returns-clause-globals
returns-clause-globals c = global_makes

pub returns-clause-parameters : goal.returns-clause-parameters
returns-clause-parameters c = params_make

pub returns-clause-statements : goal.returns-clause-statements
returns-clause-statements c = statement_makes

pub returns-clause-lists : goal.returns-clause-lists
returns-clause-lists c = statements_make

pub returns-clause-blocks : goal.returns-clause-blocks
returns-clause-blocks c = λ a xs s w. in_block_full (objects_in_all xs) (statements a xs) (statements_make a 0 xs) s w
