use Rattle.ec_ctypes.specs.views.Checked.{typed_view}
use Rattle.ec_front.proofs.translation_lemmas.BoundLists.{IsBinding}
use Rattle.ec_front.proofs.translation.binding.add_bounds.Given as goal

abbrev pub invariant-loop-number : goal.invariant-loop-number
invariant-loop-number l = IsBinding (typed_view l.binder) l.number l.bounds
