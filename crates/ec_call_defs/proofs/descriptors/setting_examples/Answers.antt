-- Each example is computed, with the numbers in decimal and the communication area.
use Rattle.std.proofs.Common.{refl}
use Rattle.std.specs.Fmt.{digits}
use Rattle.ec_call_defs.specs.Outcomes.{fresh_area, told_area, warned_area, counted_area}
use Rattle.ec_call_defs.proofs.descriptors.setting_examples.Goals as goal

pub returns-clause-content : goal.returns-clause-content
unfolding digits fresh_area told_area warned_area counted_area
returns-clause-content c = refl

pub returns-clause-raises : goal.returns-clause-raises
unfolding digits fresh_area told_area warned_area counted_area
returns-clause-raises c = refl

pub returns-clause-nulls : goal.returns-clause-nulls
unfolding digits fresh_area told_area warned_area counted_area
returns-clause-nulls c = refl

pub returns-clause-leaves : goal.returns-clause-leaves
unfolding digits fresh_area told_area warned_area counted_area
returns-clause-leaves c = refl

pub returns-clause-no_int : goal.returns-clause-no_int
unfolding digits fresh_area told_area warned_area counted_area
returns-clause-no_int c = refl

pub returns-clause-no_int_changes_nothing : goal.returns-clause-no_int_changes_nothing
unfolding digits fresh_area told_area warned_area counted_area
returns-clause-no_int_changes_nothing c = refl

pub returns-clause-first_stays : goal.returns-clause-first_stays
unfolding digits fresh_area told_area warned_area counted_area
returns-clause-first_stays c = refl

pub returns-clause-index_first : goal.returns-clause-index_first
unfolding digits fresh_area told_area warned_area counted_area
returns-clause-index_first c = refl

pub returns-clause-below : goal.returns-clause-below
unfolding digits fresh_area told_area warned_area counted_area
returns-clause-below c = refl

pub returns-clause-values_before_codes : goal.returns-clause-values_before_codes
unfolding digits fresh_area told_area warned_area counted_area
returns-clause-values_before_codes c = refl
