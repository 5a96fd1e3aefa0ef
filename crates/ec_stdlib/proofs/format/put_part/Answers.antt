-- What the part's function put, whatever the memory.
use Rattle.std.proofs.Common.{subst, sym, ap}
use Rattle.std.specs.Prelude.{map}
use Rattle.ec_printf.specs.formats.Known.{part_view}
use Rattle.ec_meaning_defs.specs.functions.Formats.{Part}
use Rattle.ec_meaning_defs.specs.functions.Printing.{part_put}
use Rattle.ec_values.specs.Words.{word_view}
use Rattle.ec_stdlib.specs.Does.{PutsPart}
use Rattle.ec_stdlib.proofs.format.put_part.Goals as goal

pub returns-in-Integer : goal.returns-in-Integer
returns-in-Integer c =
    let P : Part → Type 0 = λ p. PutsPart c.put_integer.result c.args.text.now c.put_integer.new.text (part_put c.args.store.now p (map word_view c.args.arguments.now)) in
    subst P (sym (ap part_view c.in-Integer.is)) (c.put_integer.ensures c.args.store.now)

pub returns-in-Character : goal.returns-in-Character
returns-in-Character c =
    let P : Part → Type 0 = λ p. PutsPart c.put_character.result c.args.text.now c.put_character.new.text (part_put c.args.store.now p (map word_view c.args.arguments.now)) in
    subst P (sym (ap part_view c.in-Character.is)) (c.put_character.ensures c.args.store.now)
