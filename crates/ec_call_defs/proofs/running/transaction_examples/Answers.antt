-- Each example is computed, with the numbers in decimal and the communication area.
use Rattle.std.proofs.Common.{refl}
use Rattle.std.specs.Fmt.{digits}
use Rattle.ec_call_defs.specs.Outcomes.{fresh_area, told_area, warned_area, counted_area}
use Rattle.ec_call_defs.proofs.running.transaction_examples.Goals as goal

pub returns-clause-due : goal.returns-clause-due
unfolding digits fresh_area told_area warned_area counted_area
returns-clause-due c = refl

pub returns-clause-active : goal.returns-clause-active
unfolding digits fresh_area told_area warned_area counted_area
returns-clause-active c = refl

pub returns-clause-failed : goal.returns-clause-failed
unfolding digits fresh_area told_area warned_area counted_area
returns-clause-failed c = refl

pub returns-clause-rows_begin : goal.returns-clause-rows_begin
unfolding digits fresh_area told_area warned_area counted_area
returns-clause-rows_begin c = refl

pub returns-clause-not_begun : goal.returns-clause-not_begun
unfolding digits fresh_area told_area warned_area counted_area
returns-clause-not_begun c = refl

pub returns-clause-broken_begin : goal.returns-clause-broken_begin
unfolding digits fresh_area told_area warned_area counted_area
returns-clause-broken_begin c = refl

pub returns-clause-told_by_begin : goal.returns-clause-told_by_begin
unfolding digits fresh_area told_area warned_area counted_area
returns-clause-told_by_begin c = refl

pub returns-clause-waits : goal.returns-clause-waits
unfolding digits fresh_area told_area warned_area counted_area
returns-clause-waits c = refl
