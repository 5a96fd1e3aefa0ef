use Rattle.std.proofs.Common.{◌∙◌, Some, None, sym}
use Rattle.ec_transcript.proofs.NumberLaws.{counted_copy, failed}
use Rattle.ec_transcript.proofs.count.Count.read.Goals.{in-Ok, in-Err-Bad}
use Rattle.ec_transcript.proofs.count.Count.read.Goals as goal

pub invariant_of-result : goal.invariant_of-result
invariant_of-result c =
    elim c.match-number_of.branch [
      | in-Ok w ↦ rw w.number-is (counted_copy c.args.word.now c.in_ok-digits.digits (Some w.in-Ok.number) (c.in_ok-digits.ensures)
          (sym c.is_numeral.ensures ∙ c.if-not-is_numeral.false) (w.in-Ok.ensures))
      | in-Err-Bad w ↦ rw w.number-is (counted_copy c.args.word.now c.in_ok-digits.digits None (c.in_ok-digits.ensures)
          (sym c.is_numeral.ensures ∙ c.if-not-is_numeral.false) (failed _ w.in-Err-Bad.field-0 w.in-Err-Bad.field-0-is (w.in-Err-Bad.ensures)))
    ]
