use Rattle.ec_runtime.specs.Proceeding.{left_of, waiting_of}
use Rattle.ec_runtime.proofs.library.+go_on.Given as goal

abbrev pub decreases-go_on : goal.decreases-go_on
decreases-go_on g l = left_of (waiting_of l.library.now)
