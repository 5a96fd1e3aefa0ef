-- Each example is computed, with the numbers in decimal and the communication area.
use Rattle.std.proofs.Common.{refl}
use Rattle.std.specs.Fmt.{digits}
use Rattle.ec_call_defs.specs.Outcomes.{fresh_area, told_area, warned_area, noticed_area, counted_area}
use Rattle.ec_call_defs.proofs.running.notice_examples.Goals as goal

pub returns-clause-rows : goal.returns-clause-rows
unfolding digits fresh_area told_area warned_area noticed_area counted_area
returns-clause-rows c = refl

pub returns-clause-without : goal.returns-clause-without
unfolding digits fresh_area told_area warned_area noticed_area counted_area
returns-clause-without c = refl

pub returns-clause-cut : goal.returns-clause-cut
unfolding digits fresh_area told_area warned_area noticed_area counted_area
returns-clause-cut c = refl

pub returns-clause-code : goal.returns-clause-code
unfolding digits fresh_area told_area warned_area noticed_area counted_area
returns-clause-code c = refl

pub returns-clause-same_code : goal.returns-clause-same_code
unfolding digits fresh_area told_area warned_area noticed_area counted_area
returns-clause-same_code c = refl

pub returns-clause-begun : goal.returns-clause-begun
unfolding digits fresh_area told_area warned_area noticed_area counted_area
returns-clause-begun c = refl

pub returns-clause-controlled : goal.returns-clause-controlled
unfolding digits fresh_area told_area warned_area noticed_area counted_area
returns-clause-controlled c = refl

pub returns-clause-committed : goal.returns-clause-committed
unfolding digits fresh_area told_area warned_area noticed_area counted_area
returns-clause-committed c = refl

pub returns-clause-prepared : goal.returns-clause-prepared
unfolding digits fresh_area told_area warned_area noticed_area counted_area
returns-clause-prepared c = refl

pub returns-clause-closed : goal.returns-clause-closed
unfolding digits fresh_area told_area warned_area noticed_area counted_area
returns-clause-closed c = refl
