use Rattle.ec_front.proofs.source_lemmas.Trees.{pieces_told, no_pieces_told}
use Rattle.ec_front.proofs.source.tree.tree_of_text.Goals as goal

pub returns-in-Ok : goal.returns-in-Ok
returns-in-Ok c = pieces_told c.args.text.now c.in-Ok.pieces c.requires c.in-Ok.ensures.pieces c.tree_of_pieces.result c.tree_of_pieces.ensures

pub returns-in-Err : goal.returns-in-Err
returns-in-Err c = no_pieces_told c.args.text.now c.in-Err.stop c.requires c.in-Err.ensures.fault c.in-Err.ensures.no_limit
