-- What stands from the first digit on are the digits.
use Rattle.std.proofs.Common.{◌≡◌, ◌∙◌, ◌++◌, ℕ, List, subst, OnOk}
use Rattle.std.proofs.lemmas.Int.{to_z-of_z}
use Rattle.ec_printf.specs.formats.Known.{field_view, style_view}
use Rattle.ec_meaning_defs.specs.functions.Printing.{base_of, digits_of, in_field, is_capital}
use Rattle.ec_stdlib.proofs.format.put_digits.Goals as goal

pub returns : goal.returns
returns c =
    let P : List ℕ → Type 0 = λ b. OnOk c.put_in_field.result (c.put_in_field.new.text ≡ c.args.text.now ++ in_field (field_view c.args.field) c.args.field.zeros c.args.width c.args.sign.now b) in
    let e : c.tail.result.now ≡ digits_of (base_of (style_view c.args.style)) (is_capital (style_view c.args.style)) c.args.amount =
    c.tail.ensures ∙ c.write_digits-at.ensures.digits ∙ (λ i. digits_of (c.base.ensures.value i) (c.is_capital.ensures i) c.args.amount) in
    let f = c.ranges.width in
    subst P e (simp to_z-of_z at c.put_in_field.ensures)
