use Rattle.ec_ctypes.specs.views.Units.{func_view}
use Rattle.ec_resolve.proofs.Parts.{parts_reached}
use Rattle.ec_resolve.proofs.functions.function_rule.Goals as goal

pub returns : goal.returns
returns c = parts_reached c.function_parts.result (func_view c.args.f.now) c.args.resolver.now c.function_parts.new.resolver c.function_parts.ensures
