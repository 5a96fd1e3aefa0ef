use Rattle.ec_front.proofs.source_lemmas.Trees.{no_tokens_told}
use Rattle.ec_front.proofs.source.tree.tree_of_pieces.Goals as goal

pub returns-in-Err : goal.returns-in-Err
returns-in-Err c = no_tokens_told c.args.pieces.now c.in-Err.stop c.in-Err.ensures.stop
