use Rattle.ec_clex.proofs.TakenTokens.{joined_string, not_joined}
use Rattle.ec_clex.proofs.lexer.join_last.Goals as goal

pub returns-in_ok-push-in-Str-clause-joined : goal.returns-in_ok-push-in-Str-clause-joined
returns-in_ok-push-in-Str-clause-joined c e =
    joined_string c.args.tokens.now c.args.last c.push.new.self c.extend_from_slice.new.self c.args.more.now c.in-Str.bytes c.in-Str.is c.in_ok-extend_from_slice-in-Str.ensures.ok
    c.in_ok-push-in-Str.ensures.ok

pub returns-in_ok-push-in_default : goal.returns-in_ok-push-in_default
returns-in_ok-push-in_default c = record {
  joined = (λ e. absurd (cc));
  same = (λ e. (c.in_ok-push-in_default.ensures.ok, not_joined c.args.tokens.now c.args.last c.args.more.now c.in_default.not-Str));
}
