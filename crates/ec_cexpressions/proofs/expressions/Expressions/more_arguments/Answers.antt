use Rattle.std.proofs.Common.{◌-◌, rules}
use Rattle.ec_grammar.specs.ReadDeclarations.{nested}
use Rattle.ec_grammar.specs.ReadExpressions.{expression}
use Rattle.ec_language.specs.Syntax.{limits}
use Rattle.ec_cexpressions.proofs.expressions.Expressions.more_arguments.Goals as goal

pub returns : goal.returns
returns g c =
    c.separated.ensures (expression limits (nested limits (c.args.self.now.levels - 1)))
    (record { reads = λ old new r read. search rules })
