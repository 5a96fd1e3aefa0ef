-- Each example is computed, with the numbers in decimal and the communication area.
use Rattle.std.proofs.Common.{refl}
use Rattle.std.specs.Fmt.{digits}
use Rattle.ec_call_defs.specs.Outcomes.{fresh_area, told_area, warned_area, counted_area}
use Rattle.ec_call_defs.proofs.descriptors.getting_examples.Goals as goal

pub returns-clause-content : goal.returns-clause-content
unfolding digits fresh_area told_area warned_area counted_area
returns-clause-content c = refl

pub returns-clause-null : goal.returns-clause-null
unfolding digits fresh_area told_area warned_area counted_area
returns-clause-null c = refl

pub returns-clause-null_alone : goal.returns-clause-null_alone
unfolding digits fresh_area told_area warned_area counted_area
returns-clause-null_alone c = refl

pub returns-clause-null_told : goal.returns-clause-null_told
unfolding digits fresh_area told_area warned_area counted_area
returns-clause-null_told c = refl

pub returns-clause-own_indicator_first : goal.returns-clause-own_indicator_first
unfolding digits fresh_area told_area warned_area counted_area
returns-clause-own_indicator_first c = refl

pub returns-clause-above : goal.returns-clause-above
unfolding digits fresh_area told_area warned_area counted_area
returns-clause-above c = refl

pub returns-clause-below : goal.returns-clause-below
unfolding digits fresh_area told_area warned_area counted_area
returns-clause-below c = refl

pub returns-clause-null_index : goal.returns-clause-null_index
unfolding digits fresh_area told_area warned_area counted_area
returns-clause-null_index c = refl

pub returns-clause-unknown : goal.returns-clause-unknown
unfolding digits fresh_area told_area warned_area counted_area
returns-clause-unknown c = refl

pub returns-clause-first_code_ends : goal.returns-clause-first_code_ends
unfolding digits fresh_area told_area warned_area counted_area
returns-clause-first_code_ends c = refl
