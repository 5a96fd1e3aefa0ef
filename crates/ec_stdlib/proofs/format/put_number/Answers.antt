-- The number as the directive reads it.
use Rattle.std.proofs.Common.{◌≡◌, ◌++◌, ℤ, subst, rules, OnOk}
use Rattle.std.specs.Int.{w128}
use Rattle.std.proofs.lemmas.Int.{to_z-of_z}
use mir.Val.{SFits}
use Rattle.ec_printf.specs.formats.Known.{field_view, style_view}
use Rattle.ec_meaning_defs.specs.functions.Printing.{integer_bytes}
use Rattle.ec_stdlib.proofs.format.put_number.Goals as goal

pub returns : goal.returns
returns c =
    let f = c.ranges.width in let h = c.ranges.number in
    let g : SFits w128 c.converted_as.result = search rules in
    let P : ℤ → Type 0 = λ z. OnOk c.put_signed.result (c.put_signed.new.text ≡ c.args.text.now ++ integer_bytes (field_view c.args.field) c.args.width (style_view c.args.style) z) in
    subst P (simp to_z-of_z at c.converted_as.ensures.value) (simp to_z-of_z at c.put_signed.ensures)
