use Rattle.std.proofs.Common.{Err}
use Rattle.ec_front.proofs.written_lemmas.Checks.{no_tree, only}
use Rattle.ec_front.proofs.written.reading.read_written.Goals as goal

pub returns-in-Err-clause-answer : goal.returns-in-Err-clause-answer
returns-in-Err-clause-answer c = no_tree c.args.text.now c.in-Err.stop c.in-Err.ensures.answer

pub returns-in-Err-clause-only : goal.returns-in-Err-clause-only
returns-in-Err-clause-only c = only c.args.text.now (Err c.in-Err.stop) c.written_is_read.ensures.one (no_tree c.args.text.now c.in-Err.stop c.in-Err.ensures.answer)
