use Rattle.std.proofs.Common.{length, ap, ◌∙◌}
use Rattle.ec_ctypes.specs.views.Tokens.{tokens_view}
use Rattle.ec_language.proofs.StatementTokens.{statements_have_tokens}
use Rattle.ec_phases_defs.proofs.Places.{are_numbered}
use Rattle.ec_front.proofs.source_lemmas.Trees.{have_lines}
use Rattle.ec_front.proofs.source.tree.statements.Goals as goal

pub read_statements-requires-clause-fit : goal.read_statements-requires-clause-fit
read_statements-requires-clause-fit c = have_lines c.requires.cut.0 c.args.pieces.now c.requires.cut.1 c.requires.cut.2

pub read_statements-requires-clause-tokens : goal.read_statements-requires-clause-tokens
read_statements-requires-clause-tokens c = statements_have_tokens c.args.pieces.now (tokens_view c.args.tokens.now) c.requires.lexed

pub read_statements-requires-clause-places : goal.read_statements-requires-clause-places
read_statements-requires-clause-places c =
    ap (λ ns. length ns) (c.as_slice.ensures ∙ c.in_ok-places.ensures) ∙ (are_numbered c.args.pieces.now (tokens_view c.args.tokens.now) c.requires.lexed).0
