use Rattle.std.proofs.Common.{◌∙◌, Option, refl, drop, ap, subst, sym, arith}
use Rattle.std.specs.Prelude.{option_map}
use Rattle.ec_base.specs.declared.fault.FaultKind.TheVariants.{F4}
use Rattle.ec_language.specs.Letters.{Text}
use Rattle.ec_language.specs.Lexemes.{Class, word, number}
use Rattle.ec_language.specs.ReadTokens.{with_front, lexeme_item}
use Rattle.ec_clex.specs.Items.{Told, item_view, item_of}
use Rattle.ec_clex.proofs.ItemSteps.{match_told, word_ends, number_ends, comment_ends, comment_told, mark_ends}
use Rattle.ec_clex.proofs.items.lexeme.Goals as goal

pub returns-then-is_word_start-clause-is : goal.returns-then-is_word_start-clause-is
returns-then-is_word_start-clause-is c =
    let t = c.args.text.now in
    let at = c.args.at in
    let end = c.behind_all-end.result in
    let h = c.behind_all-end.ensures in
    rw c.with_end.ensures
    (match_told c.args.here.line t at end word _ c.word-tok.result (omega (arith, h.behind)) h.within (word_ends t at end c.requires (sym c.is_word_start.ensures ∙ c.if-is_word_start.true) h.rest) refl c.word-tok.ensures)

pub returns-then-is_digit-clause-is : goal.returns-then-is_digit-clause-is
returns-then-is_digit-clause-is c =
    let t = c.args.text.now in
    let at = c.args.at in
    let end = c.behind_all-end-then-is_digit.result in
    let h = c.behind_all-end-then-is_digit.ensures in
    rw c.with_end-then-is_digit.ensures
    (match_told c.args.here.line t at end number _ c.number-tok.result (omega (arith, h.behind)) h.within
    (number_ends t at end c.requires (sym c.is_word_start.ensures ∙ c.if-is_word_start.false) (sym c.is_digit.ensures ∙ c.if-is_digit.true) h.rest) refl c.number-tok.ensures)

pub returns-in-Some-clause-is : goal.returns-in-Some-clause-is
returns-in-Some-clause-is c =
    let t = c.args.text.now in
    let at = c.args.at in
    let end = c.in-Some.end in
    let h = c.in-Some.ensures in
    rw c.passed.ensures
    (comment_told c.args.here.line t at end (omega (arith, h.within)) h.within.1
    (comment_ends t at end c.requires (sym c.is_word_start.ensures ∙ c.if-is_word_start.false) (sym c.is_digit.ensures ∙ c.if-is_digit.false) (sym c.is_quote.ensures ∙ c.if-is_quote.false) h.is))

pub returns-in-None-clause-is : goal.returns-in-None-clause-is
returns-in-None-clause-is c =
    let t = c.args.text.now in
    let at = c.args.at in
    let ends = mark_ends t at c.requires (sym c.is_word_start.ensures ∙ c.if-is_word_start.false) (sym c.is_digit.ensures ∙ c.if-is_digit.false) (sym c.is_quote.ensures ∙ c.if-is_quote.false) c.in-None.ensures.is in
    subst (Told (item_view t at) c.mark.result)
    (ap (λ (o : Option (Class × Text)). item_of F4 c.args.here.line (option_map lexeme_item (option_map (with_front (drop at t)) o))) (sym ends)) c.mark.ensures.is
