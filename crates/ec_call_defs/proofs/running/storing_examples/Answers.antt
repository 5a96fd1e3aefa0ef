-- Each example is computed, with the numbers in decimal and the communication area.
use Rattle.std.proofs.Common.{refl}
use Rattle.std.specs.Fmt.{digits}
use Rattle.ec_call_defs.specs.Outcomes.{fresh_area, told_area, warned_area, counted_area}
use Rattle.ec_call_defs.proofs.running.storing_examples.Goals as goal

pub returns-clause-structs : goal.returns-clause-structs
unfolding digits fresh_area told_area warned_area counted_area
returns-clause-structs c = refl

pub returns-clause-first_target_whole : goal.returns-clause-first_target_whole
unfolding digits fresh_area told_area warned_area counted_area
returns-clause-first_target_whole c = refl

pub returns-clause-second_row : goal.returns-clause-second_row
unfolding digits fresh_area told_area warned_area counted_area
returns-clause-second_row c = refl

pub returns-clause-trap_keeps : goal.returns-clause-trap_keeps
unfolding digits fresh_area told_area warned_area counted_area
returns-clause-trap_keeps c = refl

pub returns-clause-cut_then_null : goal.returns-clause-cut_then_null
unfolding digits fresh_area told_area warned_area counted_area
returns-clause-cut_then_null c = refl
