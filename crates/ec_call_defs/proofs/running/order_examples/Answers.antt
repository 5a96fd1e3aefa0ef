-- Each example is computed, with the numbers in decimal and the communication area.
use Rattle.std.proofs.Common.{refl}
use Rattle.std.specs.Fmt.{digits}
use Rattle.ec_call_defs.specs.Outcomes.{fresh_area, told_area, warned_area, counted_area}
use Rattle.ec_call_defs.proofs.running.order_examples.Goals as goal

pub returns-clause-connection_first : goal.returns-clause-connection_first
unfolding digits fresh_area told_area warned_area counted_area
returns-clause-connection_first c = refl

pub returns-clause-then_the_statement : goal.returns-clause-then_the_statement
unfolding digits fresh_area told_area warned_area counted_area
returns-clause-then_the_statement c = refl

pub returns-clause-then_the_descriptors : goal.returns-clause-then_the_descriptors
unfolding digits fresh_area told_area warned_area counted_area
returns-clause-then_the_descriptors c = refl

pub returns-clause-named_connection : goal.returns-clause-named_connection
unfolding digits fresh_area told_area warned_area counted_area
returns-clause-named_connection c = refl

pub returns-clause-other_name : goal.returns-clause-other_name
unfolding digits fresh_area told_area warned_area counted_area
returns-clause-other_name c = refl

pub returns-clause-area_by_pointer : goal.returns-clause-area_by_pointer
unfolding digits fresh_area told_area warned_area counted_area
returns-clause-area_by_pointer c = refl

pub returns-clause-immediate_text : goal.returns-clause-immediate_text
unfolding digits fresh_area told_area warned_area counted_area
returns-clause-immediate_text c = refl
