use Rattle.ec_front.proofs.source_lemmas.Trees.{too_long_told}
use Rattle.ec_front.proofs.source.tree.read_tree.Goals as goal

pub returns-then-text-gt-MAX_TEXT-clause-answer : goal.returns-then-text-gt-MAX_TEXT-clause-answer
returns-then-text-gt-MAX_TEXT-clause-answer c = too_long_told c.args.text.now c.if-text-gt-MAX_TEXT.true
