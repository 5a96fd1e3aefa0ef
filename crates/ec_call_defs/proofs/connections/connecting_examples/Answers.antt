-- Each example is computed, with the numbers in decimal and the communication area.
use Rattle.std.proofs.Common.{refl}
use Rattle.std.specs.Fmt.{digits}
use Rattle.ec_call_defs.specs.Outcomes.{fresh_area, told_area, warned_area, counted_area}
use Rattle.ec_call_defs.proofs.connections.connecting_examples.Goals as goal

pub returns-clause-named : goal.returns-clause-named
unfolding digits fresh_area told_area warned_area counted_area
returns-clause-named c = refl

pub returns-clause-by_target : goal.returns-clause-by_target
unfolding digits fresh_area told_area warned_area counted_area
returns-clause-by_target c = refl

pub returns-clause-request : goal.returns-clause-request
unfolding digits fresh_area told_area warned_area counted_area
returns-clause-request c = refl

pub returns-clause-in_use : goal.returns-clause-in_use
unfolding digits fresh_area told_area warned_area counted_area
returns-clause-in_use c = refl

pub returns-clause-target_in_use : goal.returns-clause-target_in_use
unfolding digits fresh_area told_area warned_area counted_area
returns-clause-target_in_use c = refl

pub returns-clause-no_target : goal.returns-clause-no_target
unfolding digits fresh_area told_area warned_area counted_area
returns-clause-no_target c = refl

pub returns-clause-no_slot : goal.returns-clause-no_slot
unfolding digits fresh_area told_area warned_area counted_area
returns-clause-no_slot c = refl

pub returns-clause-broken : goal.returns-clause-broken
unfolding digits fresh_area told_area warned_area counted_area
returns-clause-broken c = refl

pub returns-clause-done : goal.returns-clause-done
unfolding digits fresh_area told_area warned_area counted_area
returns-clause-done c = refl

pub returns-clause-refused : goal.returns-clause-refused
unfolding digits fresh_area told_area warned_area counted_area
returns-clause-refused c = refl

pub returns-clause-waits : goal.returns-clause-waits
unfolding digits fresh_area told_area warned_area counted_area
returns-clause-waits c = refl

pub returns-clause-trap : goal.returns-clause-trap
unfolding digits fresh_area told_area warned_area counted_area
returns-clause-trap c = refl
