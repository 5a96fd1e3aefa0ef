use Rattle.std.proofs.Common.{Err}
use Rattle.ec_ctypes.specs.views.Checked.{typed_view}
use Rattle.ec_front.proofs.source_lemmas.Wholes.{of_checked, of_refused, only, first}
use Rattle.ec_front.proofs.source.whole.read_source.Goals as goal

pub returns-in-Ok-clause-answer : goal.returns-in-Ok-clause-answer
returns-in-Ok-clause-answer c = of_checked c.args.text.now (typed_view c.in-Ok.program) c.with_bounds.result c.in-Ok.ensures.answer c.with_bounds.ensures

pub returns-in-Ok-clause-only : goal.returns-in-Ok-clause-only
returns-in-Ok-clause-only c =
    only c.args.text.now (c.sources_are_read.ensures.one c.args.text.now) c.with_bounds.result
    (of_checked c.args.text.now (typed_view c.in-Ok.program) c.with_bounds.result c.in-Ok.ensures.answer c.with_bounds.ensures)

pub returns-in-Ok-clause-first : goal.returns-in-Ok-clause-first
returns-in-Ok-clause-first c =
    first c.args.text.now c.with_bounds.result
    (of_checked c.args.text.now (typed_view c.in-Ok.program) c.with_bounds.result c.in-Ok.ensures.answer c.with_bounds.ensures)

pub returns-in-Err-clause-answer : goal.returns-in-Err-clause-answer
returns-in-Err-clause-answer c = of_refused c.args.text.now typed_view c.in-Err.stop c.in-Err.ensures.answer

pub returns-in-Err-clause-only : goal.returns-in-Err-clause-only
returns-in-Err-clause-only c =
    only c.args.text.now (c.sources_are_read.ensures.one c.args.text.now) (Err c.in-Err.stop)
    (of_refused c.args.text.now typed_view c.in-Err.stop c.in-Err.ensures.answer)

pub returns-in-Err-clause-first : goal.returns-in-Err-clause-first
returns-in-Err-clause-first c =
    first c.args.text.now (Err c.in-Err.stop)
    (of_refused c.args.text.now typed_view c.in-Err.stop c.in-Err.ensures.answer)
