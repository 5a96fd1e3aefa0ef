use Rattle.ec_answer_laws.proofs.More.{unchanged, goes_on}
use Rattle.ec_answer_laws.proofs.laws.one_answer_more.Goals as goal

pub returns : goal.returns
returns c = record {
  unchanged = λ step takes p turns ready answers more h. unchanged step takes p turns ready answers more h;
  goes_on = λ step takes p turns ready answers a slot request is. goes_on step takes p turns ready answers a slot request is;
}
