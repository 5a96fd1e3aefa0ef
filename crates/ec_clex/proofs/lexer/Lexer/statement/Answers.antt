use Rattle.std.proofs.Common.{◌+◌, ◌∙◌, Ok, Some, None, ap}
use Rattle.ec_language.specs.Line.{newlines}
use Rattle.ec_language.specs.Lexemes.{is_fresh_after}
use Rattle.ec_clex.specs.declared.items.Here.{Here}
use Rattle.ec_clex.specs.Lexing.{mid_of, taken_of}
use Rattle.ec_clex.proofs.Rests.{stated_is}
use Rattle.ec_clex.proofs.lexer.Lexer.statement.Goals as goal

pub returns-in-Some-clause-is : goal.returns-in-Some-clause-is
returns-in-Some-clause-is c =
    let self = c.args.self.now in
    let here = c.in_ok-push.ensures.here in
    stated_is self.statements (mid_of self) c.args.bytes.now c.behind-from.result c.is_executable.result (taken_of c.push.new.self) (c.push.new.self.here.line + c.newlines.result) (Some c.in-Some.line)
    c.behind-from.ensures.is c.requires.units c.is_executable.ensures c.in_ok-push.ensures.is
    (λ i. (here i).line + c.newlines.ensures.is i) c.in-Some.ensures.is

pub returns-in-None-clause-is : goal.returns-in-None-clause-is
returns-in-None-clause-is c =
    let self = c.args.self.now in
    let here = c.in_ok-push.ensures.here in
    let bytes = c.args.bytes.now in
    let told = stated_is self.statements (mid_of self) bytes c.behind-from.result c.is_executable.result (taken_of c.push.new.self) (c.push.new.self.here.line + c.newlines.result) None
    c.behind-from.ensures.is c.requires.units c.is_executable.ensures c.in_ok-push.ensures.is (λ i. (here i).line + c.newlines.ensures.is i) c.in-None.ensures.is in
    (λ i. Ok (record {
      taken = c.pass.ensures.taken i;
      line = (c.pass.ensures.line ∙ ap (λ (h : Here). h.line + newlines bytes) here) i;
      fresh = (c.pass.ensures.fresh ∙ ap (λ (h : Here). is_fresh_after h.fresh bytes) here) i;
    })) ∙ told
