-- Each example is computed, with the numbers in decimal and the communication area.
use Rattle.std.proofs.Common.{refl}
use Rattle.std.specs.Fmt.{digits}
use Rattle.ec_call_defs.specs.Outcomes.{fresh_area, told_area, warned_area, counted_area}
use Rattle.ec_call_defs.proofs.connections.mark_examples.Goals as goal

pub returns-clause-marks : goal.returns-clause-marks
unfolding digits fresh_area told_area warned_area counted_area
returns-clause-marks c = refl

pub returns-clause-quoted : goal.returns-clause-quoted
unfolding digits fresh_area told_area warned_area counted_area
returns-clause-quoted c = refl

pub returns-clause-double_quoted : goal.returns-clause-double_quoted
unfolding digits fresh_area told_area warned_area counted_area
returns-clause-double_quoted c = refl

pub returns-clause-doubled : goal.returns-clause-doubled
unfolding digits fresh_area told_area warned_area counted_area
returns-clause-doubled c = refl

pub returns-clause-backslash : goal.returns-clause-backslash
unfolding digits fresh_area told_area warned_area counted_area
returns-clause-backslash c = refl

pub returns-clause-backslash_in_quote : goal.returns-clause-backslash_in_quote
unfolding digits fresh_area told_area warned_area counted_area
returns-clause-backslash_in_quote c = refl

pub returns-clause-escaped : goal.returns-clause-escaped
unfolding digits fresh_area told_area warned_area counted_area
returns-clause-escaped c = refl

pub returns-clause-small_e : goal.returns-clause-small_e
unfolding digits fresh_area told_area warned_area counted_area
returns-clause-small_e c = refl

pub returns-clause-other_word : goal.returns-clause-other_word
unfolding digits fresh_area told_area warned_area counted_area
returns-clause-other_word c = refl

pub returns-clause-number : goal.returns-clause-number
unfolding digits fresh_area told_area warned_area counted_area
returns-clause-number c = refl

pub returns-clause-escaped_doubled : goal.returns-clause-escaped_doubled
unfolding digits fresh_area told_area warned_area counted_area
returns-clause-escaped_doubled c = refl

pub returns-clause-line : goal.returns-clause-line
unfolding digits fresh_area told_area warned_area counted_area
returns-clause-line c = refl

pub returns-clause-nested : goal.returns-clause-nested
unfolding digits fresh_area told_area warned_area counted_area
returns-clause-nested c = refl

pub returns-clause-division : goal.returns-clause-division
unfolding digits fresh_area told_area warned_area counted_area
returns-clause-division c = refl

pub returns-clause-unended : goal.returns-clause-unended
unfolding digits fresh_area told_area warned_area counted_area
returns-clause-unended c = refl

pub returns-clause-tenth : goal.returns-clause-tenth
unfolding digits fresh_area told_area warned_area counted_area
returns-clause-tenth c = refl
