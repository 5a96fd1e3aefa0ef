use Rattle.ec_csyntax.proofs.nested.+nested.Given as goal

abbrev pub decreases-nested_statement : goal.decreases-nested_statement
decreases-nested_statement l = l.levels

abbrev pub decreases-nested_block : goal.decreases-nested_block
decreases-nested_block l = l.levels
