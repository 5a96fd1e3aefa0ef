use Rattle.std.proofs.Common.{◌≡◌, rules, arith}
use Rattle.ec_grammar.specs.ReadDeclarations.{nested}
use Rattle.ec_cursor.proofs.Levels.{length_deeper}
use Rattle.ec_cdeclare.proofs.declarators.Declarators.length_part.Goals as goal

pub returns-then-self-eq0 : goal.returns-then-self-eq0
unfolding nested
returns-then-self-eq0 g c =
    let none : c.args.self.now.expressions.levels ≡ 0 = omega arith in
    rw none (search rules)

pub returns : goal.returns
returns g c = rw (length_deeper c.args.self.now.expressions.levels (omega arith)) c.length_in_brackets.ensures
