-- Each example is computed, with the numbers in decimal and the communication area.
use Rattle.std.proofs.Common.{refl}
use Rattle.std.specs.Fmt.{digits}
use Rattle.ec_call_defs.specs.Outcomes.{fresh_area, told_area, warned_area, counted_area}
use Rattle.ec_call_defs.proofs.running.plain_examples.Goals as goal

pub returns-clause-stored : goal.returns-clause-stored
unfolding digits fresh_area told_area warned_area counted_area
returns-clause-stored c = refl

pub returns-clause-null : goal.returns-clause-null
unfolding digits fresh_area told_area warned_area counted_area
returns-clause-null c = refl

pub returns-clause-null_told : goal.returns-clause-null_told
unfolding digits fresh_area told_area warned_area counted_area
returns-clause-null_told c = refl

pub returns-clause-not_null_told : goal.returns-clause-not_null_told
unfolding digits fresh_area told_area warned_area counted_area
returns-clause-not_null_told c = refl

pub returns-clause-no_number : goal.returns-clause-no_number
unfolding digits fresh_area told_area warned_area counted_area
returns-clause-no_number c = refl

pub returns-clause-no_outputs : goal.returns-clause-no_outputs
unfolding digits fresh_area told_area warned_area counted_area
returns-clause-no_outputs c = refl

pub returns-clause-no_outputs_no_row : goal.returns-clause-no_outputs_no_row
unfolding digits fresh_area told_area warned_area counted_area
returns-clause-no_outputs_no_row c = refl

pub returns-clause-dead_target : goal.returns-clause-dead_target
unfolding digits fresh_area told_area warned_area counted_area
returns-clause-dead_target c = refl

pub returns-clause-waits : goal.returns-clause-waits
unfolding digits fresh_area told_area warned_area counted_area
returns-clause-waits c = refl
