use Rattle.std.proofs.Common.{refl}
use Rattle.ec_ctypes.specs.views.Embedded.{emb_view}
use Rattle.ec_host_defs.specs.Uses.{uses_of}
use Rattle.ec_params.specs.Scenes.{program_of, denoted_of}
use Rattle.ec_params.proofs.Walking.{all_walked}
use Rattle.ec_params.proofs.faults.hosts_fault.Goals as goal

pub returns : goal.returns
returns c = all_walked (program_of c.args.scene) (denoted_of c.args.scene) (uses_of (emb_view c.args.emb.now)) _ c.walk_statement.new.walk refl c.in_ok-walk_statement.ensures
