use Rattle.std.proofs.Common.{subst}
use Rattle.ec_cwrite.specs.Writes.{Writes}
use Rattle.ec_cwrite.proofs.Writing.{both}
use Rattle.ec_write_parts.specs.Written.{line_chunks}
use Rattle.ec_write_parts.proofs.declarations.put_varchar.Goals as goal

pub returns : goal.returns
returns c =
    subst (λ d. Writes c.args.out.now c.push_line_end.new.out (line_chunks c.args.line.0 d)) c.in_ok-declared.ensures
    (both c.in_ok-push_line.ensures (both c.in_ok-push_decl.ensures c.in_ok-push_line_end.ensures))
