use Rattle.std.proofs.Common.{Err}
use Rattle.ec_ctypes.specs.views.Checked.{typed_view}
use Rattle.ec_execute.proofs.Telling.{no_statements, no_violations, of_checked, of_refused, only}
use Rattle.ec_execute.proofs.reading.read_program.Goals as goal

pub resolve_checked-requires-clause-no_statements : goal.resolve_checked-requires-clause-no_statements
resolve_checked-requires-clause-no_statements c = no_statements c.args.text.now c.in-Ok.typed c.in-Ok.ensures.answer

pub resolve_checked-requires-clause-no_violations : goal.resolve_checked-requires-clause-no_violations
resolve_checked-requires-clause-no_violations c = no_violations c.args.text.now (typed_view c.in-Ok.typed) c.in-Ok.ensures.answer

pub returns-in-Ok-clause-answer : goal.returns-in-Ok-clause-answer
returns-in-Ok-clause-answer c = of_checked c.args.text.now (typed_view c.in-Ok.typed) c.resolve_checked.result c.in-Ok.ensures.answer c.resolve_checked.ensures

pub returns-in-Ok-clause-only : goal.returns-in-Ok-clause-only
returns-in-Ok-clause-only c =
    only c.args.text.now c.resolve_checked.result c.written_programs_are_single.ensures.one
    (of_checked c.args.text.now (typed_view c.in-Ok.typed) c.resolve_checked.result c.in-Ok.ensures.answer c.resolve_checked.ensures)

pub returns-in-Err-clause-answer : goal.returns-in-Err-clause-answer
returns-in-Err-clause-answer c = of_refused c.args.text.now c.in-Err.stop c.in-Err.ensures.answer

pub returns-in-Err-clause-only : goal.returns-in-Err-clause-only
returns-in-Err-clause-only c =
    only c.args.text.now (Err c.in-Err.stop) c.written_programs_are_single.ensures.one (of_refused c.args.text.now c.in-Err.stop c.in-Err.ensures.answer)
