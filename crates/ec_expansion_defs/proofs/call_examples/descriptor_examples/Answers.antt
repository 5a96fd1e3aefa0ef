use Rattle.std.proofs.Common.{refl}
use Rattle.std.specs.Fmt.{digits}
use Rattle.ec_expansion_defs.proofs.call_examples.descriptor_examples.Goals as goal

pub returns-clause-allocates : goal.returns-clause-allocates
unfolding digits
returns-clause-allocates c = refl

pub returns-clause-frees : goal.returns-clause-frees
unfolding digits
returns-clause-frees c = refl

pub returns-clause-gets_count : goal.returns-clause-gets_count
unfolding digits
returns-clause-gets_count c = refl

pub returns-clause-sets_count : goal.returns-clause-sets_count
unfolding digits
returns-clause-sets_count c = refl

pub returns-clause-gets_items : goal.returns-clause-gets_items
unfolding digits
returns-clause-gets_items c = refl

pub returns-clause-sets_items : goal.returns-clause-sets_items
unfolding digits
returns-clause-sets_items c = refl

pub returns-clause-directives : goal.returns-clause-directives
unfolding digits
returns-clause-directives c = refl

pub returns-clause-area : goal.returns-clause-area
unfolding digits
returns-clause-area c = refl
