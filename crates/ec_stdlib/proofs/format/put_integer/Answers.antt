-- The width, and then the number.
use Rattle.std.proofs.Common.{rules}
use Rattle.std.specs.Prelude.{map}
use Rattle.std.specs.Int.{w128}
use Rattle.std.proofs.lemmas.Int.{to_z-of_z}
use mir.Val.{SFits}
use Rattle.ec_printf.specs.formats.Known.{field_view, style_view}
use Rattle.ec_values.specs.Words.{word_view}
use Rattle.ec_stdlib.proofs.Parts.{integer_put}
use Rattle.ec_stdlib.proofs.format.put_integer.Goals as goal

pub returns-in_ok-put_number-in-Some-take_number : goal.returns-in_ok-put_number-in-Some-take_number
returns-in_ok-put_number-in-Some-take_number c =
    let f : SFits w128 c.in-Some.width.number = search rules in
    let g : SFits w128 c.in-Some-take_number.value.number = search rules in
    integer_put (field_view c.args.field) c.args.wide (style_view c.args.style) (map word_view c.args.arguments.now) (map word_view c.in-Some.width.rest.now) (map word_view c.in-Some-take_number.value.rest.now) c.in-Some.width.number c.in-Some-take_number.value.number _ _
    c.in-Some.ensures.value c.in-Some-take_number.ensures.value (simp to_z-of_z at c.in_ok-put_number-in-Some-take_number.ensures)
