use Rattle.ec_grammar.proofs.exact_lemmas.LimitsAside.{one_text_tree, read_as, read_within, within_read, no_fault, tree_aside}
use Rattle.ec_grammar.proofs.exact.laws.trees_are_read.Goals as goal

pub returns : goal.returns
returns c = record {
  single = one_text_tree;
  read = λ written text u a h is. read_as written text u h a is;
  no_fault = λ written text u kind line h is. no_fault written text u h kind line is;
  agree = λ written text u h. (within_read written text u h, read_within written text u h);
  aside = tree_aside;
}
