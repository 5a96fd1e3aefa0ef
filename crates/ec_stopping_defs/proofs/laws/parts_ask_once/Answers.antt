use Rattle.ec_stopping_defs.proofs.Once.{started_says, resumed_says, stepped_nearer}
use Rattle.ec_stopping_defs.proofs.laws.parts_ask_once.Goals as goal

pub returns : goal.returns
returns c = record {
  starts = λ c s. started_says c s;
  resumes = λ line u a s. resumed_says line u a s;
  nears = λ line u s. stepped_nearer line u s;
}
