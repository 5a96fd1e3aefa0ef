use Rattle.std.proofs.Common.{map, subst}
use Rattle.ec_ctypes.specs.views.Embedded.{emb_view}
use Rattle.ec_ctypes.specs.views.Tokens.{tokens_view}
use Rattle.ec_ctypes.specs.views.Units.{unit_view}
use Rattle.ec_host_defs.specs.Statements.{statement_places}
use Rattle.ec_front.specs.source.Answers.{TellsStatements}
use Rattle.ec_front.proofs.source_lemmas.Trees.{tree_told, no_tree_told}
use Rattle.ec_front.proofs.source.tree.tree_of_tokens.Goals as goal

pub returns-in-Ok : goal.returns-in-Ok
returns-in-Ok c =
    let told : TellsStatements c.args.pieces.now (statement_places (tokens_view c.args.tokens.now)) c.statements.result =
    subst (λ ts. TellsStatements c.args.pieces.now (statement_places (tokens_view ts)) c.statements.result) c.as_slice.ensures c.statements.ensures in
    tree_told c.args.pieces.now (tokens_view c.args.tokens.now) (unit_view c.in-Ok.unit) (map emb_view) c.statements.result c.with_statements.result
    c.requires.lexed c.in-Ok.ensures.tree told c.with_statements.ensures

pub returns-in-Err : goal.returns-in-Err
returns-in-Err c = no_tree_told c.args.pieces.now (tokens_view c.args.tokens.now) c.in-Err.stop c.requires.lexed c.in-Err.ensures.stop
