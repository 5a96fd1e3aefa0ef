use Rattle.std.proofs.Common.{◌≡◌, rules, arith}
use Rattle.ec_grammar.specs.ReadDeclarations.{nested}
use Rattle.ec_cursor.proofs.Levels.{parameters_deeper}
use Rattle.ec_cparts.proofs.reading.parameter_part.Goals as goal

pub returns-then-levels-eq0 : goal.returns-then-levels-eq0
unfolding nested
returns-then-levels-eq0 c =
    let none : c.args.levels ≡ 0 = omega arith in
    rw none (search rules)

pub returns : goal.returns
returns c = rw (parameters_deeper c.args.levels (omega arith)) c.parameter_part.ensures
