use Rattle.ec_runtime.proofs.Takes.{marks_stop, marks_given}
use Rattle.ec_runtime.proofs.preparing.marked_text.Goals as goal

pub returns-in-Err : goal.returns-in-Err
returns-in-Err c = marks_stop c.args.given.now c.args.store.now c.in-Err.stop c.in-Err.ensures

pub returns-in-Ok-with_marks : goal.returns-in-Ok-with_marks
returns-in-Ok-with_marks c = marks_given c.args.given.now c.args.store.now c.in-Ok.text c.as_slice.result.now c.in-Ok-with_marks.text c.as_slice.ensures c.in-Ok-with_marks.ensures c.in-Ok.ensures
