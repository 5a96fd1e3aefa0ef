-- Behind the value of the object.
use Rattle.std.proofs.Common.{◌∙◌, ap, sym}
use Rattle.ec_code.specs.declared.step.Binary.TheVariants as binary
use Rattle.ec_meaning_defs.specs.evaluation.Results.{on_value}
use Rattle.ec_values.specs.Words.{word_view}
use Rattle.ec_plain.specs.Steps.{both_on}
use Rattle.ec_plain.proofs.Walks.{answered_as}
use Rattle.ec_plain.proofs.whole.combine.Goals as goal

pub returns-in-Ok : goal.returns-in-Ok
returns-in-Ok c = λ knowing w line first s.
    ap (λ r. on_value r (both_on line (binary.Operate c.args.operation) (word_view c.args.value) (word_view c.args.value))) (c.in-Ok.ensures knowing w line first s)
    ∙ c.finish.ensures line s

pub returns-in-Err : goal.returns-in-Err
returns-in-Err c = λ knowing w line first s.
    ap (λ r. on_value r (both_on line (binary.Operate c.args.operation) (word_view c.args.value) (word_view c.args.value))) (c.in-Err.ensures knowing w line first s)
    ∙ answered_as line _ _ _ (sym c.stopped.ensures)
