use Rattle.std.proofs.Common.{arith}
use Rattle.ec_execute.proofs.source_lemmas.Telling.{bytes_are, executable_told, told_on}
use Rattle.ec_execute.proofs.source.reading.read_back.Goals as goal

pub returns-in-Ok : goal.returns-in-Ok
returns-in-Ok c =
    executable_told c.translations_are_single.ensures.one c.written_texts_are_run.ensures c.args.text.now c.args.written.now
    (bytes_are c.args.text.now (λ i. omega (arith, c.type_inv.text i))) c.requires c.in-Ok.executable c.in-Ok.ensures.answer

pub returns-in-Err : goal.returns-in-Err
returns-in-Err c =
    told_on c.translations_are_single.ensures.one c.written_texts_are_run.ensures c.args.text.now c.args.written.now
    (bytes_are c.args.text.now (λ i. omega (arith, c.type_inv.text i))) c.requires c.in-Err.stop c.in-Err.ensures.answer
