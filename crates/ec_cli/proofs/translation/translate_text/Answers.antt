use Rattle.std.proofs.Common.{◌≡◌, subst, sym, Ok, Err}
use Rattle.ec_base.specs.Putting.{Puts, PutsPart}
use Rattle.ec_execute.specs.source.Meanings.{KeepsMeaning}
use Rattle.ec_front.specs.translation.Answers.{TellsTranslation}
use Rattle.ec_phases_defs.specs.translation.Translations.{IsTranslation}
use Rattle.ec_cli.specs.Translating.{TranslatesText}
use Rattle.ec_cli.proofs.Translations.{text_refused}
use Rattle.ec_cli.proofs.translation.translate_text.Goals as goal

pub returns-in-Ok-put_text : goal.returns-in-Ok-put_text
returns-in-Ok-put_text g c =
    let text : c.as_slice.result.now ≡ c.args.text = cc (c.as_slice.ensures) in
    let written : c.as_slice-in-Ok.result.now ≡ c.in-Ok.written = cc (c.as_slice-in-Ok.ensures) in (
      c.in-Ok.written,
      subst (λ t. IsTranslation t (Ok c.in-Ok.written)) text c.in-Ok.ensures.answer,
      subst (λ t. KeepsMeaning t c.in-Ok.written) text c.in-Ok.ensures.means,
      subst (λ w. Puts g.O.Sink.held g.O.Sink.faults c.args.out.now c.put_text.new.out w) written c.in-Ok-put_text.ensures.ok,
    )

pub returns-in-Ok : goal.returns-in-Ok
returns-in-Ok g c =
    let text : c.as_slice.result.now ≡ c.args.text = cc (c.as_slice.ensures) in
    let written : c.as_slice-in-Ok.result.now ≡ c.in-Ok.written = cc (c.as_slice-in-Ok.ensures) in (
      c.in-Ok.written,
      subst (λ t. IsTranslation t (Ok c.in-Ok.written)) text c.in-Ok.ensures.answer,
      subst (λ w. PutsPart g.O.Sink.held g.O.Sink.faults c.args.out.now c.put_text.new.out w) written c.in-Err-put_text.ensures.part,
    )

pub returns : goal.returns
returns g c =
    let text : c.as_slice.result.now ≡ c.args.text = cc (c.as_slice.ensures) in
    subst (TranslatesText g.O.Sink.held g.O.Sink.faults c.args.text c.args.out.now c.args.out.now) (sym c.refusal.ensures)
    (text_refused g.O.Sink.held g.O.Sink.faults c.args.text c.args.out.now c.in-Err.stop
    (subst (λ t. TellsTranslation t (Err c.in-Err.stop)) text c.in-Err.ensures.answer))
