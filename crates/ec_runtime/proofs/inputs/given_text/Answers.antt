use Rattle.ec_runtime.proofs.Texts.{word_given, held_given, held_trapped}
use Rattle.ec_runtime.proofs.inputs.given_text.Goals as goal

pub returns-in-Word : goal.returns-in-Word
returns-in-Word c = word_given c.args.text.now c.in-Word.bytes c.as_slice.result.now c.args.store.now c.kept.result c.in-Word.is c.as_slice.ensures c.kept.ensures.ok c.kept.ensures.err

pub returns-in-Ok : goal.returns-in-Ok
returns-in-Ok c = held_given c.args.text.now c.in-Held.at c.in-Ok.bytes.now c.args.store.now c.kept-in-Ok.result c.in-Held.is c.in-Ok.ensures c.kept-in-Ok.ensures.ok c.kept-in-Ok.ensures.err

pub returns-in-Err : goal.returns-in-Err
returns-in-Err c = held_trapped c.args.text.now c.in-Held.at c.in-Err.trap c.args.store.now c.in-Held.is c.in-Err.ensures
