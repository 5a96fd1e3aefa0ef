use Rattle.std.proofs.Common.{sym, ap, ◌∙◌, arith}
use Rattle.ec_ctypes.specs.views.Tokens.{tokens_view}
use Rattle.ec_language.specs.Productions.{placed}
use Rattle.ec_grammar.specs.ReadUnit.{line_at}
use Rattle.ec_cursor.proofs.SeenTokens.{placed_length}
use Rattle.ec_csyntax.proofs.Lines.{line_at_none, line_at_many, line_at_some}
use Rattle.ec_csyntax.proofs.programs.line_at.Goals as goal
use Rattle.ec_csyntax.proofs.programs.line_at.Goals.{then-left-eq0-via-then-left-eq0, then-left-eq0-via-else-left-eq0+then-left-tokens}

pub returns-then-left-eq0 : goal.returns-then-left-eq0
returns-then-left-eq0 c =
    let w = placed (tokens_view c.args.tokens.now) in
    elim c.then-left-eq0.branch [
      | then-left-eq0-via-then-left-eq0 v ↦ sym (ap (line_at w) v.if-left-eq0.true ∙ line_at_none w)
      | then-left-eq0-via-else-left-eq0+then-left-tokens v ↦ sym (line_at_many w c.args.left (omega (arith, placed_length, v.if-left-tokens.true)))
    ]

pub returns : goal.returns
returns c = sym (line_at_some _ c.args.tokens.now c.args.left c.index-tokens-tokens.result (omega arith) (omega arith))
