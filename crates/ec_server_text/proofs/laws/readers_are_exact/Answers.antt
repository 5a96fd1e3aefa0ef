use Rattle.ec_server_text.proofs.CutSteps.{host_is, server_is, control_is, declare_is, prepared_is}
use Rattle.ec_server_text.proofs.Longest.{long_is}
use Rattle.ec_server_text.proofs.laws.readers_are_exact.Goals as goal

pub returns : goal.returns
returns c = record { suffixes = long_is; host = host_is; statement = server_is; transaction = control_is; cursor = declare_is; prepared = prepared_is }
