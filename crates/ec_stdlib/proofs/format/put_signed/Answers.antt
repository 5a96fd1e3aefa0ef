-- The sign, and the digits of the amount.
use Rattle.std.proofs.Common.{◌≡◌, ◌++◌, ℕ, pos, Bool, true, false, List, [], ◌∷◌, ap, sym, subst, arith, OnOk}
use Rattle.std.specs.Prelude.{int_lt, unsigned_abs, if◌then◌else◌}
use Rattle.std.proofs.lemmas.Int.{ints, to_z-of_z}
use Rattle.ec_printf.specs.formats.Known.{field_view, style_view}
use Rattle.ec_meaning_defs.specs.functions.Printing.{base_of, digits_of, in_field, is_capital, sign_of}
use Rattle.ec_stdlib.proofs.format.put_signed.Goals as goal

abbrev sign_if : Bool → List ℕ
sign_if t = if t then 45 ∷ [] else []

pub returns-then-number-lt0 : goal.returns-then-number-lt0
returns-then-number-lt0 c =
    let f = c.ranges.width in let h = c.ranges.number in
    let n : c.unsigned_abs-amount.result ≡ unsigned_abs c.args.number = simp to_z-of_z at c.unsigned_abs-amount.ensures.value in
    let test : int_lt c.args.number (pos 0) ≡ true = grind (arith, ints) in
    let s : 45 ∷ [] ≡ sign_of c.args.number = sym (ap (λ t. sign_if t) test) in
    let P : List ℕ → Type 0 = λ x. OnOk c.put_digits.result (c.put_digits.new.text ≡ c.args.text.now ++ in_field (field_view c.args.field) c.args.field.zeros c.args.width x (digits_of (base_of (style_view c.args.style)) (is_capital (style_view c.args.style)) c.unsigned_abs-amount.result)) in
    let Q : ℕ → Type 0 = λ k. OnOk c.put_digits.result (c.put_digits.new.text ≡ c.args.text.now ++ in_field (field_view c.args.field) c.args.field.zeros c.args.width (sign_of c.args.number) (digits_of (base_of (style_view c.args.style)) (is_capital (style_view c.args.style)) k)) in
    subst Q n (subst P s (simp to_z-of_z at c.put_digits.ensures))

pub returns-else-number-lt0 : goal.returns-else-number-lt0
returns-else-number-lt0 c =
    let f = c.ranges.width in let h = c.ranges.number in
    let n : c.unsigned_abs-amount.result ≡ unsigned_abs c.args.number = simp to_z-of_z at c.unsigned_abs-amount.ensures.value in
    let test : int_lt c.args.number (pos 0) ≡ false = grind (arith, ints) in
    let s : [] ≡ sign_of c.args.number = sym (ap (λ t. sign_if t) test) in
    let P : List ℕ → Type 0 = λ x. OnOk c.put_digits-else-number-lt0.result (c.put_digits-else-number-lt0.new.text ≡ c.args.text.now ++ in_field (field_view c.args.field) c.args.field.zeros c.args.width x (digits_of (base_of (style_view c.args.style)) (is_capital (style_view c.args.style)) c.unsigned_abs-amount.result)) in
    let Q : ℕ → Type 0 = λ k. OnOk c.put_digits-else-number-lt0.result (c.put_digits-else-number-lt0.new.text ≡ c.args.text.now ++ in_field (field_view c.args.field) c.args.field.zeros c.args.width (sign_of c.args.number) (digits_of (base_of (style_view c.args.style)) (is_capital (style_view c.args.style)) k)) in
    subst Q n (subst P s (simp to_z-of_z at c.put_digits-else-number-lt0.ensures))
