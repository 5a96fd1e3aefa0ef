use Rattle.std.proofs.Common.{Err}
use Rattle.ec_ctypes.specs.views.Checked.{typed_view}
use Rattle.ec_front.proofs.translation_lemmas.Telling.{handlers_sorted, of_checked, of_refused, only}
use Rattle.ec_front.proofs.translation.translating.translate.Goals as goal

pub translate_checked-requires : goal.translate_checked-requires
translate_checked-requires c = handlers_sorted c.args.text.now c.statements_have_places.ensures.order (typed_view c.in-Ok.typed) c.in-Ok.ensures.answer

pub returns-in-Ok-clause-answer : goal.returns-in-Ok-clause-answer
returns-in-Ok-clause-answer c = of_checked c.args.text.now (typed_view c.in-Ok.typed) c.translate_checked.result c.in-Ok.ensures.answer c.translate_checked.ensures

pub returns-in-Ok-clause-only : goal.returns-in-Ok-clause-only
returns-in-Ok-clause-only c =
    only c.args.text.now (c.translations_are_single.ensures.one c.args.text.now) c.translate_checked.result
    (of_checked c.args.text.now (typed_view c.in-Ok.typed) c.translate_checked.result c.in-Ok.ensures.answer c.translate_checked.ensures)

pub returns-in-Err-clause-answer : goal.returns-in-Err-clause-answer
returns-in-Err-clause-answer c = of_refused c.args.text.now typed_view c.in-Err.stop c.in-Err.ensures.answer

pub returns-in-Err-clause-only : goal.returns-in-Err-clause-only
returns-in-Err-clause-only c =
    only c.args.text.now (c.translations_are_single.ensures.one c.args.text.now) (Err c.in-Err.stop)
    (of_refused c.args.text.now typed_view c.in-Err.stop c.in-Err.ensures.answer)
