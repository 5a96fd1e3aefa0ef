use Rattle.ec_resolve.proofs.Parts.{func_reached}
use Rattle.ec_resolve.proofs.programs.top_rule.Goals as goal

pub returns-in-Func : goal.returns-in-Func
returns-in-Func c =
    func_reached c.function_rule.result c.args.top.now c.in-Func.f c.get.result.now c.args.resolver.now c.function_rule.new.resolver c.in-Func.is c.get.ensures c.function_rule.ensures
