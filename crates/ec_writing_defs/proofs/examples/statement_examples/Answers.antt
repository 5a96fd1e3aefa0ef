use Rattle.std.proofs.Common.{refl}
use Rattle.std.specs.Fmt.{digits}
use Rattle.ec_writing_defs.proofs.examples.statement_examples.Goals as goal

pub returns-clause-empty : goal.returns-clause-empty
unfolding digits
returns-clause-empty c = refl

pub returns-clause-expression : goal.returns-clause-expression
unfolding digits
returns-clause-expression c = refl

pub returns-clause-block : goal.returns-clause-block
unfolding digits
returns-clause-block c = refl

pub returns-clause-nothing_in_it : goal.returns-clause-nothing_in_it
unfolding digits
returns-clause-nothing_in_it c = refl

pub returns-clause-only_if : goal.returns-clause-only_if
unfolding digits
returns-clause-only_if c = refl

pub returns-clause-else_if : goal.returns-clause-else_if
unfolding digits
returns-clause-else_if c = refl

pub returns-clause-whiles : goal.returns-clause-whiles
unfolding digits
returns-clause-whiles c = refl

pub returns-clause-dos : goal.returns-clause-dos
unfolding digits
returns-clause-dos c = refl

pub returns-clause-fors : goal.returns-clause-fors
unfolding digits
returns-clause-fors c = refl

pub returns-clause-no_parts : goal.returns-clause-no_parts
unfolding digits
returns-clause-no_parts c = refl

pub returns-clause-label : goal.returns-clause-label
unfolding digits
returns-clause-label c = refl

pub returns-clause-returns : goal.returns-clause-returns
unfolding digits
returns-clause-returns c = refl

pub returns-clause-returned : goal.returns-clause-returned
unfolding digits
returns-clause-returned c = refl
