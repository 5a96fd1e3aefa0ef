-- Each example is computed, with the numbers in decimal and the communication area.
use Rattle.std.proofs.Common.{refl}
use Rattle.std.specs.Fmt.{digits}
use Rattle.ec_call_defs.specs.Outcomes.{fresh_area, told_area, warned_area, counted_area}
use Rattle.ec_call_defs.proofs.descriptors.area_examples.Goals as goal

pub returns-clause-one_row : goal.returns-clause-one_row
unfolding digits fresh_area told_area warned_area counted_area
returns-clause-one_row c = refl

pub returns-clause-more_rows : goal.returns-clause-more_rows
unfolding digits fresh_area told_area warned_area counted_area
returns-clause-more_rows c = refl

pub returns-clause-more_rows_keep : goal.returns-clause-more_rows_keep
unfolding digits fresh_area told_area warned_area counted_area
returns-clause-more_rows_keep c = refl

pub returns-clause-no_row : goal.returns-clause-no_row
unfolding digits fresh_area told_area warned_area counted_area
returns-clause-no_row c = refl

pub returns-clause-done_into : goal.returns-clause-done_into
unfolding digits fresh_area told_area warned_area counted_area
returns-clause-done_into c = refl

pub returns-clause-as_input : goal.returns-clause-as_input
unfolding digits fresh_area told_area warned_area counted_area
returns-clause-as_input c = refl

pub returns-clause-unknown_output : goal.returns-clause-unknown_output
unfolding digits fresh_area told_area warned_area counted_area
returns-clause-unknown_output c = refl
