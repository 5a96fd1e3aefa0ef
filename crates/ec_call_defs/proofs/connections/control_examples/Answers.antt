-- Each example is computed, with the numbers in decimal and the communication area.
use Rattle.std.proofs.Common.{refl}
use Rattle.std.specs.Fmt.{digits}
use Rattle.ec_call_defs.specs.Outcomes.{fresh_area, told_area, warned_area, counted_area}
use Rattle.ec_call_defs.proofs.connections.control_examples.Goals as goal

pub returns-clause-control : goal.returns-clause-control
unfolding digits fresh_area told_area warned_area counted_area
returns-clause-control c = refl

pub returns-clause-control_rows : goal.returns-clause-control_rows
unfolding digits fresh_area told_area warned_area counted_area
returns-clause-control_rows c = refl

pub returns-clause-control_refused : goal.returns-clause-control_refused
unfolding digits fresh_area told_area warned_area counted_area
returns-clause-control_refused c = refl

pub returns-clause-control_broken : goal.returns-clause-control_broken
unfolding digits fresh_area told_area warned_area counted_area
returns-clause-control_broken c = refl

pub returns-clause-on : goal.returns-clause-on
unfolding digits fresh_area told_area warned_area counted_area
returns-clause-on c = refl

pub returns-clause-on_failed : goal.returns-clause-on_failed
unfolding digits fresh_area told_area warned_area counted_area
returns-clause-on_failed c = refl

pub returns-clause-on_idle : goal.returns-clause-on_idle
unfolding digits fresh_area told_area warned_area counted_area
returns-clause-on_idle c = refl

pub returns-clause-on_again : goal.returns-clause-on_again
unfolding digits fresh_area told_area warned_area counted_area
returns-clause-on_again c = refl

pub returns-clause-on_refused : goal.returns-clause-on_refused
unfolding digits fresh_area told_area warned_area counted_area
returns-clause-on_refused c = refl

pub returns-clause-off : goal.returns-clause-off
unfolding digits fresh_area told_area warned_area counted_area
returns-clause-off c = refl

pub returns-clause-no_connection : goal.returns-clause-no_connection
unfolding digits fresh_area told_area warned_area counted_area
returns-clause-no_connection c = refl
