use Rattle.std.proofs.Common.{◌∙◌, drop, arith, length-drop, ap}
use Rattle.ec_language.specs.Constants.{unescaped}
use Rattle.ec_clex.proofs.Unescaped.{behind_bytes, bytes_next, bytes_wrong}
use Rattle.ec_clex.proofs.escapes.unescaped.Goals as goal

pub loop-at-preserved : goal.loop-at-preserved
loop-at-preserved c =
    let t = c.args.text.now in
    let rest = drop c.in-Some.escaped.end t in record {
      same = ap (λ bytes. behind_bytes bytes (unescaped rest)) c.in_ok-push-in-Some.ensures.ok
          ∙ bytes_next c.loop-at.bytes c.in-Some.escaped.byte (drop c.loop-at.at t) rest c.in-Some.ensures.is ∙ c.loop-at.invariant.same;
      inside = c.in-Some.ensures.within.1;
    }

pub returns-in-None : goal.returns-in-None
returns-in-None c =
    let t = c.args.text.now in
    bytes_wrong c.loop-at.bytes (drop c.loop-at.at t) (unescaped t) c.in-None.ensures.is (omega (arith, length-drop c.loop-at.at t)) c.loop-at.invariant.same
