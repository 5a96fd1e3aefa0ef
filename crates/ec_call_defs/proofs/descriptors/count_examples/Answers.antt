-- Each example is computed, with the numbers in decimal and the communication area.
use Rattle.std.proofs.Common.{refl}
use Rattle.std.specs.Fmt.{digits}
use Rattle.ec_call_defs.specs.Outcomes.{fresh_area, told_area, warned_area, counted_area}
use Rattle.ec_call_defs.proofs.descriptors.count_examples.Goals as goal

pub returns-clause-allocates : goal.returns-clause-allocates
unfolding digits fresh_area told_area warned_area counted_area
returns-clause-allocates c = refl

pub returns-clause-anew : goal.returns-clause-anew
unfolding digits fresh_area told_area warned_area counted_area
returns-clause-anew c = refl

pub returns-clause-deallocates : goal.returns-clause-deallocates
unfolding digits fresh_area told_area warned_area counted_area
returns-clause-deallocates c = refl

pub returns-clause-unknown : goal.returns-clause-unknown
unfolding digits fresh_area told_area warned_area counted_area
returns-clause-unknown c = refl

pub returns-clause-counts : goal.returns-clause-counts
unfolding digits fresh_area told_area warned_area counted_area
returns-clause-counts c = refl

pub returns-clause-more : goal.returns-clause-more
unfolding digits fresh_area told_area warned_area counted_area
returns-clause-more c = refl

pub returns-clause-fewer : goal.returns-clause-fewer
unfolding digits fresh_area told_area warned_area counted_area
returns-clause-fewer c = refl

pub returns-clause-too_many : goal.returns-clause-too_many
unfolding digits fresh_area told_area warned_area counted_area
returns-clause-too_many c = refl

pub returns-clause-negative : goal.returns-clause-negative
unfolding digits fresh_area told_area warned_area counted_area
returns-clause-negative c = refl

pub returns-clause-no_number : goal.returns-clause-no_number
unfolding digits fresh_area told_area warned_area counted_area
returns-clause-no_number c = refl

pub returns-clause-no_long : goal.returns-clause-no_long
unfolding digits fresh_area told_area warned_area counted_area
returns-clause-no_long c = refl

pub returns-clause-area_first : goal.returns-clause-area_first
unfolding digits fresh_area told_area warned_area counted_area
returns-clause-area_first c = refl

pub returns-clause-value_first : goal.returns-clause-value_first
unfolding digits fresh_area told_area warned_area counted_area
returns-clause-value_first c = refl
