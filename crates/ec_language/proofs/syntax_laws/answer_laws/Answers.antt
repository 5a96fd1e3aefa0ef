use Rattle.ec_language.proofs.SyntaxAnswers.{tree_exact, stop_exact, tree_or_else, answered as always_answered}
use Rattle.ec_language.proofs.syntax_laws.answer_laws.Goals as goal

pub returns : goal.returns
returns c = record { tree = tree_exact; stop = stop_exact; one_of_both = tree_or_else; answered = always_answered }
