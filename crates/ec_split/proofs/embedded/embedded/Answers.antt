use Rattle.std.proofs.Common.{Some, ◌∙◌, ap, drop, sym}
use Rattle.ec_language.specs.ReadPieces.{found}
use Rattle.ec_split.proofs.Walks.{typed, untyped, stated}
use Rattle.ec_split.proofs.embedded.embedded.Goals as goal

pub returns-then-is_type_word-clause-is : goal.returns-then-is_type_word-clause-is
returns-then-is_type_word-clause-is c =
    let t = c.args.text.now in
    c.declaration.ensures.is ∙ typed (drop c.args.from t) (drop c.gap_stop-first.result t) _ c.gap_stop-first.ensures.is c.unit_end-behind.ensures.word (sym c.is_type_word.ensures ∙ c.if-is_type_word.true)

pub returns-in-Some-clause-is : goal.returns-in-Some-clause-is
returns-in-Some-clause-is c =
    let t = c.args.text.now in
    let s = drop c.args.from t in
    let first = drop c.gap_stop-first.result t in
    let unit = c.unit_end-behind.ensures in
    ap (λ k. found k (drop c.in-Some.end t)) c.statement_kind.ensures
    ∙ stated s first _ (drop c.unit_end-behind.result t) (Some (drop c.in-Some.end t)) c.gap_stop-first.ensures.is unit.word unit.rest c.in-Some.ensures.is
    ∙ untyped s first _ c.gap_stop-first.ensures.is unit.word (sym c.is_type_word.ensures ∙ c.if-is_type_word.false)
