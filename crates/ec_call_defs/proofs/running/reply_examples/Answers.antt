-- Each example is computed, with the numbers in decimal and the communication area.
use Rattle.std.proofs.Common.{refl}
use Rattle.std.specs.Fmt.{digits}
use Rattle.ec_call_defs.specs.Outcomes.{fresh_area, told_area, warned_area, counted_area}
use Rattle.ec_call_defs.proofs.running.reply_examples.Goals as goal

pub returns-clause-done_counted : goal.returns-clause-done_counted
unfolding digits fresh_area told_area warned_area counted_area
returns-clause-done_counted c = refl

pub returns-clause-done_uncounted : goal.returns-clause-done_uncounted
unfolding digits fresh_area told_area warned_area counted_area
returns-clause-done_uncounted c = refl

pub returns-clause-done_none : goal.returns-clause-done_none
unfolding digits fresh_area told_area warned_area counted_area
returns-clause-done_none c = refl

pub returns-clause-done_into : goal.returns-clause-done_into
unfolding digits fresh_area told_area warned_area counted_area
returns-clause-done_into c = refl

pub returns-clause-done_uncounted_into : goal.returns-clause-done_uncounted_into
unfolding digits fresh_area told_area warned_area counted_area
returns-clause-done_uncounted_into c = refl

pub returns-clause-done_none_into : goal.returns-clause-done_none_into
unfolding digits fresh_area told_area warned_area counted_area
returns-clause-done_none_into c = refl

pub returns-clause-duplicate : goal.returns-clause-duplicate
unfolding digits fresh_area told_area warned_area counted_area
returns-clause-duplicate c = refl

pub returns-clause-subquery : goal.returns-clause-subquery
unfolding digits fresh_area told_area warned_area counted_area
returns-clause-subquery c = refl

pub returns-clause-refusal : goal.returns-clause-refusal
unfolding digits fresh_area told_area warned_area counted_area
returns-clause-refusal c = refl

pub returns-clause-broken : goal.returns-clause-broken
unfolding digits fresh_area told_area warned_area counted_area
returns-clause-broken c = refl

pub returns-clause-connected : goal.returns-clause-connected
unfolding digits fresh_area told_area warned_area counted_area
returns-clause-connected c = refl

pub returns-clause-no_target : goal.returns-clause-no_target
unfolding digits fresh_area told_area warned_area counted_area
returns-clause-no_target c = refl

pub returns-clause-told : goal.returns-clause-told
unfolding digits fresh_area told_area warned_area counted_area
returns-clause-told c = refl

pub returns-clause-untold : goal.returns-clause-untold
unfolding digits fresh_area told_area warned_area counted_area
returns-clause-untold c = refl
