use Rattle.ec_arguments.proofs.Back.{cut_back}
use Rattle.ec_arguments.proofs.law.calls_are_cut_back.Goals as goal

pub returns : goal.returns
returns g c = λ is_text x e. cut_back is_text x e
