use Rattle.std.proofs.Common.{rules}
use Rattle.ec_grammar.specs.Input.{own}
use Rattle.ec_grammar.specs.ReadDeclarations.{nested, declarator_part}
use Rattle.ec_language.specs.Syntax.{limits}
use Rattle.ec_cdeclare.proofs.declarators.Declarators.more_declarators.Goals as goal

pub returns : goal.returns
returns g c =
    c.separated.ensures (own (declarator_part limits (nested limits c.args.self.now.expressions.levels)))
    (record { reads = λ old new r read. search rules })
