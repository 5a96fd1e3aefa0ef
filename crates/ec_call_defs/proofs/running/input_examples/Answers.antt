-- Each example is computed, with the numbers in decimal and the communication area.
use Rattle.std.proofs.Common.{refl}
use Rattle.std.specs.Fmt.{digits}
use Rattle.ec_call_defs.specs.Outcomes.{fresh_area, told_area, warned_area, counted_area}
use Rattle.ec_call_defs.proofs.running.input_examples.Goals as goal

pub returns-clause-in_order : goal.returns-clause-in_order
unfolding digits fresh_area told_area warned_area counted_area
returns-clause-in_order c = refl

pub returns-clause-trap_first : goal.returns-clause-trap_first
unfolding digits fresh_area told_area warned_area counted_area
returns-clause-trap_first c = refl

pub returns-clause-trap_keeps_the_code : goal.returns-clause-trap_keeps_the_code
unfolding digits fresh_area told_area warned_area counted_area
returns-clause-trap_keeps_the_code c = refl

pub returns-clause-name_first : goal.returns-clause-name_first
unfolding digits fresh_area told_area warned_area counted_area
returns-clause-name_first c = refl

pub returns-clause-text_before_inputs : goal.returns-clause-text_before_inputs
unfolding digits fresh_area told_area warned_area counted_area
returns-clause-text_before_inputs c = refl

pub returns-clause-inputs_before_outputs : goal.returns-clause-inputs_before_outputs
unfolding digits fresh_area told_area warned_area counted_area
returns-clause-inputs_before_outputs c = refl

pub returns-clause-outputs_named : goal.returns-clause-outputs_named
unfolding digits fresh_area told_area warned_area counted_area
returns-clause-outputs_named c = refl

pub returns-clause-no_connection : goal.returns-clause-no_connection
unfolding digits fresh_area told_area warned_area counted_area
returns-clause-no_connection c = refl
