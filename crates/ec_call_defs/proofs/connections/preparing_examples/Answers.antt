-- Each example is computed, with the numbers in decimal and the communication area.
use Rattle.std.proofs.Common.{refl}
use Rattle.std.specs.Fmt.{digits}
use Rattle.ec_call_defs.specs.Outcomes.{fresh_area, told_area, warned_area, counted_area}
use Rattle.ec_call_defs.proofs.connections.preparing_examples.Goals as goal

pub returns-clause-prepares : goal.returns-clause-prepares
unfolding digits fresh_area told_area warned_area counted_area
returns-clause-prepares c = refl

pub returns-clause-prepared : goal.returns-clause-prepared
unfolding digits fresh_area told_area warned_area counted_area
returns-clause-prepared c = refl

pub returns-clause-replaced : goal.returns-clause-replaced
unfolding digits fresh_area told_area warned_area counted_area
returns-clause-replaced c = refl

pub returns-clause-refused : goal.returns-clause-refused
unfolding digits fresh_area told_area warned_area counted_area
returns-clause-refused c = refl

pub returns-clause-refused_code : goal.returns-clause-refused_code
unfolding digits fresh_area told_area warned_area counted_area
returns-clause-refused_code c = refl

pub returns-clause-broken : goal.returns-clause-broken
unfolding digits fresh_area told_area warned_area counted_area
returns-clause-broken c = refl

pub returns-clause-executes : goal.returns-clause-executes
unfolding digits fresh_area told_area warned_area counted_area
returns-clause-executes c = refl

pub returns-clause-upper_case : goal.returns-clause-upper_case
unfolding digits fresh_area told_area warned_area counted_area
returns-clause-upper_case c = refl

pub returns-clause-opens : goal.returns-clause-opens
unfolding digits fresh_area told_area warned_area counted_area
returns-clause-opens c = refl

pub returns-clause-other_connection : goal.returns-clause-other_connection
unfolding digits fresh_area told_area warned_area counted_area
returns-clause-other_connection c = refl

pub returns-clause-deallocates : goal.returns-clause-deallocates
unfolding digits fresh_area told_area warned_area counted_area
returns-clause-deallocates c = refl

pub returns-clause-kept : goal.returns-clause-kept
unfolding digits fresh_area told_area warned_area counted_area
returns-clause-kept c = refl

pub returns-clause-not_there : goal.returns-clause-not_there
unfolding digits fresh_area told_area warned_area counted_area
returns-clause-not_there c = refl
