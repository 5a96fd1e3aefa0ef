use Rattle.ec_replay_laws.proofs.Exact.{runs_exactly}
use Rattle.ec_replay_laws.proofs.taking.answers_are_taken_exactly.Goals as goal

pub returns : goal.returns
returns c = λ calls p turns ready. runs_exactly calls p turns ready
