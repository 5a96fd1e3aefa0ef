use Rattle.std.proofs.Common.{◌∙◌, subst, ap}
use Rattle.ec_language.specs.ReadPieces.{gap_stop}
use Rattle.ec_clex.specs.Items.{Told}
use Rattle.ec_clex.specs.Lexing.{mid_of, taken_of}
use Rattle.ec_clex.proofs.Rests.{declared_is}
use Rattle.ec_clex.proofs.lexer.Lexer.declaration.Goals as goal

pub returns-clause-is : goal.returns-clause-is
returns-clause-is c =
    let self = c.args.self.now in
    let keeps = c.enter.ensures.keeps in
    let pushed = c.in_ok-push.ensures in
    subst (Told _ c.inside.result)
    (declared_is (mid_of self) c.args.bytes.now c.gap_stop-from.result c.enter.new.self.here.written c.fresh_after-fresh.result (taken_of c.push.new.self) c.push.new.self.here.line (mid_of c.enter.new.self)
    (c.gap_stop-from.ensures.is ∙ ap gap_stop c.behind.ensures.is) (keeps.0 ∙ pushed.keeps.0 ∙ c.requires.source) c.fresh_after-fresh.ensures pushed.is (λ i. (pushed.here i).line) c.enter.ensures.is)
    c.inside.ensures.is
