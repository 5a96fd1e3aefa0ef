use Rattle.ec_cut.proofs.written_lemmas.Written.{are_written}
use Rattle.ec_cut.proofs.written.laws.calls_are_written.Goals as goal

pub returns : goal.returns
returns g c = λ is_text. are_written is_text
