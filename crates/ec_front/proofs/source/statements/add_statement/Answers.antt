use Rattle.ec_language.proofs.StatementTokens.{has_tokens}
use Rattle.ec_front.proofs.source_lemmas.Reading.{adds_stop}
use Rattle.ec_front.proofs.source.statements.add_statement.Goals as goal

pub returns-in-Ok-push : goal.returns-in-Ok-push
returns-in-Ok-push c =
    let t = has_tokens c.args.piece.now.line.0 c.args.piece.now.bytes c.requires.tokens in
    record { statement = c.in-Ok.statement; behind = c.in-Ok-push.ensures.ok; is = c.in-Ok.ensures.answer t.0 t.1 }

pub returns-in-Err : goal.returns-in-Err
returns-in-Err c =
    let t = has_tokens c.args.piece.now.line.0 c.args.piece.now.bytes c.requires.tokens in
    adds_stop c.args.piece.now c.args.place c.args.statements.now c.args.statements.now c.in-Err.stop (c.in-Err.ensures.answer t.0 t.1)
