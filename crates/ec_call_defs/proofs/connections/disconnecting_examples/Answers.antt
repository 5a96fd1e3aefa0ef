-- Each example is computed, with the numbers in decimal and the communication area.
use Rattle.std.proofs.Common.{refl}
use Rattle.std.specs.Fmt.{digits}
use Rattle.ec_call_defs.specs.Outcomes.{fresh_area, told_area, warned_area, counted_area}
use Rattle.ec_call_defs.proofs.connections.disconnecting_examples.Goals as goal

pub returns-clause-current : goal.returns-clause-current
unfolding digits fresh_area told_area warned_area counted_area
returns-clause-current c = refl

pub returns-clause-another : goal.returns-clause-another
unfolding digits fresh_area told_area warned_area counted_area
returns-clause-another c = refl

pub returns-clause-last : goal.returns-clause-last
unfolding digits fresh_area told_area warned_area counted_area
returns-clause-last c = refl

pub returns-clause-answer_is_not_looked_at : goal.returns-clause-answer_is_not_looked_at
unfolding digits fresh_area told_area warned_area counted_area
returns-clause-answer_is_not_looked_at c = refl

pub returns-clause-all : goal.returns-clause-all
unfolding digits fresh_area told_area warned_area counted_area
returns-clause-all c = refl

pub returns-clause-all_of_none : goal.returns-clause-all_of_none
unfolding digits fresh_area told_area warned_area counted_area
returns-clause-all_of_none c = refl

pub returns-clause-all_waits : goal.returns-clause-all_waits
unfolding digits fresh_area told_area warned_area counted_area
returns-clause-all_waits c = refl

pub returns-clause-none : goal.returns-clause-none
unfolding digits fresh_area told_area warned_area counted_area
returns-clause-none c = refl

pub returns-clause-unknown : goal.returns-clause-unknown
unfolding digits fresh_area told_area warned_area counted_area
returns-clause-unknown c = refl

pub returns-clause-set : goal.returns-clause-set
unfolding digits fresh_area told_area warned_area counted_area
returns-clause-set c = refl

pub returns-clause-set_unknown : goal.returns-clause-set_unknown
unfolding digits fresh_area told_area warned_area counted_area
returns-clause-set_unknown c = refl
