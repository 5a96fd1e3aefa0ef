-- A part that was put.
use Rattle.std.proofs.Common.{◌∙◌, sym, ap, drop, Ok, ◌+◌}
use Rattle.std.specs.Prelude.{map}
use Rattle.ec_printf.specs.formats.Known.{part_view}
use Rattle.ec_meaning_defs.specs.functions.Printing.{joined, printed}
use Rattle.ec_values.specs.Words.{word_view}
use Rattle.ec_stdlib.proofs.Parts.{drop_item, printed_more}
use Rattle.ec_stdlib.proofs.format.print.Goals as goal

pub loop-part-preserved : goal.loop-part-preserved
loop-part-preserved c =
    sym (printed_more c.args.store.now c.loop-part.text c.put_part.new.text (part_view c.part-item.result) (map part_view (drop (c.loop-part.part-index + 1) c.args.parts.now)) (map word_view c.loop-part.rest.now) _ c.in_ok-rest.ensures)
    ∙ ap (λ ps. joined (Ok c.loop-part.text) (printed c.args.store.now (map part_view ps) (map word_view c.loop-part.rest.now))) (sym (drop_item c.args.parts.now c.loop-part.part-index c.part-item.result c.loop-part-test.true c.part-item.is))
    ∙ c.loop-part.invariant
