use Rattle.ec_ctypes.specs.views.Checked.{typed_view}
use Rattle.ec_front.proofs.translation_lemmas.BoundLists.{kept, stops}
use Rattle.ec_front.proofs.translation.binding.add_bounds.Goals as goal

pub returns-in-Err : goal.returns-in-Err
returns-in-Err c = stops (typed_view c.args.binder.now) c.loop-number.number c.loop-number.bounds c.add_bound.new.bounds c.in-Err.stop c.loop-number.invariant c.in-Err.ensures

pub loop-number-preserved : goal.loop-number-preserved
loop-number-preserved c = kept (typed_view c.args.binder.now) c.loop-number.number c.loop-number.bounds c.add_bound.new.bounds c.loop-number.invariant c.in-Ok.ensures
