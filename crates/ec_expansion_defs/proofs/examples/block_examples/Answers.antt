use Rattle.std.proofs.Common.{refl}
use Rattle.std.specs.Fmt.{digits}
use Rattle.ec_expansion_defs.proofs.examples.block_examples.Goals as goal

pub returns-clause-directive_at_the_top : goal.returns-clause-directive_at_the_top
unfolding digits
returns-clause-directive_at_the_top c = refl

pub returns-clause-directive_in_a_block : goal.returns-clause-directive_in_a_block
unfolding digits
returns-clause-directive_in_a_block c = refl

pub returns-clause-statement_in_a_block : goal.returns-clause-statement_in_a_block
unfolding digits
returns-clause-statement_in_a_block c = refl

pub returns-clause-statement_under_if : goal.returns-clause-statement_under_if
unfolding digits
returns-clause-statement_under_if c = refl

pub returns-clause-statement_behind_a_label : goal.returns-clause-statement_behind_a_label
unfolding digits
returns-clause-statement_behind_a_label c = refl
