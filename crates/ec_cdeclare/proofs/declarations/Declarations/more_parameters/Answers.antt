use Rattle.std.proofs.Common.{rules}
use Rattle.ec_grammar.specs.Input.{own}
use Rattle.ec_grammar.specs.ReadDeclarations.{nested, parameter}
use Rattle.ec_language.specs.Syntax.{limits}
use Rattle.ec_cdeclare.proofs.declarations.Declarations.more_parameters.Goals as goal

pub returns : goal.returns
returns g c =
    c.separated.ensures (own (parameter limits (nested limits c.args.self.now.declarators.expressions.levels)))
    (record { reads = λ old new r read. search rules })
