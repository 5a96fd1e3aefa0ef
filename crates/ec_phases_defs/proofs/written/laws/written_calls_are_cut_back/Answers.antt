use Rattle.ec_phases_defs.proofs.written_lemmas.CallsBack.{are_cut_back, are_taken}
use Rattle.ec_phases_defs.proofs.written.laws.written_calls_are_cut_back.Goals as goal

pub returns : goal.returns
returns c = record { back = are_cut_back; taken = are_taken }
