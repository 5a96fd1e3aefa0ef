use Rattle.std.proofs.Common.{◌∙◌, option_map}
use Rattle.std.specs.Option.{option_copied}
use Rattle.ec_ctypes.specs.views.Exprs.{expr_view}
use Rattle.ec_host_defs.specs.Faults.{host_faults}
use Rattle.ec_params.specs.Least.{least}
use Rattle.ec_params.specs.Scenes.{program_of, denoted_of}
use Rattle.ec_params.specs.Shapes.{role_view}
use Rattle.ec_params.specs.Walks.{host_of}
use Rattle.ec_params.proofs.Walking.{walked_host}
use Rattle.ec_params.proofs.walk.walk_host.Goals as goal

pub returns : goal.returns
returns c = walked_host (program_of c.args.scene) (denoted_of c.args.scene) (role_view c.args.role) (host_of (expr_view c.args.value.now) (option_map expr_view (option_copied c.args.indicator))) c.args.walk.now _ c.in_ok-own.own c.in_ok-inner.inner c.in_ok-middle.middle c.in_ok-fault.fault c.in_ok-own.ensures c.in_ok-inner.ensures c.in_ok-middle.ensures c.in_ok-walk.ensures (c.in_ok-fault.ensures ∙ (λ i. least (host_faults (program_of c.args.scene) (role_view c.args.role) (host_of (expr_view c.args.value.now) (option_map expr_view (option_copied c.args.indicator))) (c.part.ensures i) (c.part-2.ensures i)))) c.lower_of-walk.ensures
