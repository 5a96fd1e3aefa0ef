use Rattle.std.proofs.Common.{◌∙◌, sym}
use Rattle.ec_clex.specs.Lexing.{mid_of}
use Rattle.ec_clex.proofs.Rests.{blank_item}
use Rattle.ec_clex.proofs.lexer.Lexer.item.Goals as goal

pub returns-then-is_blank-clause-is : goal.returns-then-is_blank-clause-is
returns-then-is_blank-clause-is c =
    let before = c.args.self.now in
    blank_item before.here.written (mid_of before) (mid_of c.blank.new.self) c.args.text.now c.args.at c.requires.inside (sym c.is_blank.ensures ∙ c.if-is_blank.true) c.blank.ensures.is
