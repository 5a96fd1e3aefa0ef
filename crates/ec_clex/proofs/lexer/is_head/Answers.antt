use Rattle.std.proofs.Common.{◌∙◌, sym, arith}
use Rattle.ec_clex.proofs.TakenTokens.{not_first}
use Rattle.ec_clex.proofs.lexer.is_head.Goals as goal

pub returns-else-is_include_of : goal.returns-else-is_include_of
returns-else-is_include_of c =
    c.if-is_include_of.false ∙ not_first c.args.tokens.now c.index-tokens-0.result (omega arith) c.index-tokens-0.is (sym c.is_include_of.ensures ∙ c.if-is_include_of.false)
