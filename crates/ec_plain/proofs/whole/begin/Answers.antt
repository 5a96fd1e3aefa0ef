-- The value of an object of the function.
use Rattle.std.proofs.Common.{◌∙◌, ap}
use Rattle.ec_code.specs.Trees.{leaf_view}
use Rattle.ec_meaning_defs.specs.evaluation.Evaluate.{eval}
use Rattle.ec_plain.specs.Answered.{at, context}
use Rattle.ec_plain.proofs.whole.begin.Goals as goal

pub returns-in-IntValue : goal.returns-in-IntValue
returns-in-IntValue c = λ knowing w line first s.
    ap (λ l. eval knowing w (context line c.args.scope.now first) (leaf_view l) (at s c.args.store.now)) c.in-IntValue.is
    ∙ c.value_of.ensures knowing w line first s

pub returns-in-LongValue : goal.returns-in-LongValue
returns-in-LongValue c = λ knowing w line first s.
    ap (λ l. eval knowing w (context line c.args.scope.now first) (leaf_view l) (at s c.args.store.now)) c.in-LongValue.is
    ∙ c.value_of-in-LongValue.ensures knowing w line first s
