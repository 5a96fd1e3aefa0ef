use Rattle.ec_element_laws.proofs.Spaced.{all_placed}
use Rattle.ec_element_laws.proofs.laws.elements_lie_where_the_layout_has_them.Goals as goal

pub returns : goal.returns
returns h = λ structs t n e. all_placed structs t n e
