use Rattle.std.proofs.Common.{subst}
use Rattle.ec_clex.specs.Items.{Told}
use Rattle.ec_clex.specs.Lexing.{taken_of}
use Rattle.ec_clex.proofs.TakenTokens.{other_pushed}
use Rattle.ec_clex.proofs.lexer.Lexer.push.Goals as goal

pub returns-in_default : goal.returns-in_default
returns-in_default c = record {
  is = subst (Told (λ (u : Unit {0}). taken_of c.add.new.self) c.add.result) (other_pushed (taken_of c.args.self.now) c.args.self.now.here.line c.args.tok c.in_default.not-Str) c.add.ensures.is;
  here = c.add.ensures.here;
  keeps = c.add.ensures.keeps;
}
