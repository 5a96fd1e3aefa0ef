use Rattle.std.proofs.Common.{◌+◌, ◌∙◌, ap, arith}
use Rattle.ec_language.specs.Line.{newlines}
use Rattle.ec_split.proofs.Lanes.{lines_behind, lines_within, rest_is}
use Rattle.ec_split.proofs.scanning.bytes.last_newlines.Goals as goal

pub overflow_add-result : goal.overflow_add-result
overflow_add-result c = omega (arith, c.newlines_in_8.ensures, lines_within c.args.bytes.now c.args.at 8 (omega arith))

pub returns-clause-is : goal.returns-clause-is
returns-clause-is c =
    let rest = c.counted_newlines-2.ensures.is ∙ ap newlines (rest_is c.args.bytes.now (c.args.at + 8)) in
    omega (arith, c.newlines_in_8.ensures, rest, lines_behind c.args.bytes.now c.args.at 8)

pub returns-clause-most : goal.returns-clause-most
returns-clause-most c = omega (arith, c.newlines_in_8.ensures, c.counted_newlines-2.ensures.most, lines_within c.args.bytes.now c.args.at 8 (omega arith))
