-- Each example is computed, with the numbers in decimal and the communication area.
use Rattle.std.proofs.Common.{refl}
use Rattle.std.specs.Fmt.{digits}
use Rattle.ec_call_defs.specs.Outcomes.{fresh_area, told_area, warned_area, counted_area}
use Rattle.ec_call_defs.proofs.running.list_examples.Goals as goal

pub returns-clause-fewer_columns : goal.returns-clause-fewer_columns
unfolding digits fresh_area told_area warned_area counted_area
returns-clause-fewer_columns c = refl

pub returns-clause-more_columns : goal.returns-clause-more_columns
unfolding digits fresh_area told_area warned_area counted_area
returns-clause-more_columns c = refl

pub returns-clause-more_rows : goal.returns-clause-more_rows
unfolding digits fresh_area told_area warned_area counted_area
returns-clause-more_rows c = refl

pub returns-clause-as_many_rows : goal.returns-clause-as_many_rows
unfolding digits fresh_area told_area warned_area counted_area
returns-clause-as_many_rows c = refl

pub returns-clause-fewer_rows : goal.returns-clause-fewer_rows
unfolding digits fresh_area told_area warned_area counted_area
returns-clause-fewer_rows c = refl

pub returns-clause-smallest_target : goal.returns-clause-smallest_target
unfolding digits fresh_area told_area warned_area counted_area
returns-clause-smallest_target c = refl

pub returns-clause-no_row : goal.returns-clause-no_row
unfolding digits fresh_area told_area warned_area counted_area
returns-clause-no_row c = refl
