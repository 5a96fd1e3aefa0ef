use Rattle.std.proofs.Common.{ℕ, ◌∙◌, drop, arith}
use Rattle.ec_clex.specs.Lexing.{mid_of}
use Rattle.ec_clex.proofs.Rests.{item_told, not_empty, item_next}
use Rattle.ec_clex.proofs.lexer.Lexer.c_text.Goals as goal

pub returns-in-Err-clause-is : goal.returns-in-Err-clause-is
returns-in-Err-clause-is c =
    let t = c.args.text.now in
    let told = rw c.loop-at.invariant.keeps.0 at c.in-Err.ensures.is in
    item_told (λ (u : Unit {0}). mid_of c.args.self.now) (λ (end : ℕ). (mid_of c.loop-at.self, drop end t)) c.args.self.now.here.written (mid_of c.loop-at.self) (mid_of c.args.self.now) (drop c.loop-at.at t) (drop c.args.from t) c.in-Err.stop (not_empty t c.loop-at.at c.loop-at-test.true) c.loop-at.invariant.same told

pub loop-at-preserved : goal.loop-at-preserved
loop-at-preserved c =
    let t = c.args.text.now in
    let is = rw c.loop-at.invariant.keeps.0 at c.in-Ok.ensures.is in
    let within = c.in-Ok.ensures.within in
    let late = c.in-Ok.ensures.late in
    let keeps = c.item.ensures.keeps in record {
      same = item_next c.args.self.now.here.written (mid_of c.loop-at.self) (mid_of c.item.new.self) (drop c.loop-at.at t) (drop c.in-Ok.end t) (not_empty t c.loop-at.at c.loop-at-test.true) is ∙ c.loop-at.invariant.same;
      keeps = (keeps.0 ∙ c.loop-at.invariant.keeps.0, keeps.1 ∙ c.loop-at.invariant.keeps.1);
      order = omega (arith, within);
      inside = within.1;
      late = omega (arith, within, late, c.loop-at.invariant.late);
    }
