use Rattle.std.proofs.Common.{◌≡◌, drop, Ok}
use Rattle.std.specs.Prelude.{map}
use Rattle.ec_meaning_defs.specs.functions.Printing.{joined, printed}
use Rattle.ec_values.specs.Words.{word_view}
use Rattle.ec_printf.specs.formats.Known.{part_view}
use Rattle.ec_stdlib.proofs.format.print.Given as goal

abbrev pub invariant-loop-part : goal.invariant-loop-part
invariant-loop-part l =
    joined (Ok l.text) (printed l.store (map part_view (drop l.part-index l.parts)) (map word_view l.rest))
    ≡ printed l.store (map part_view l.parts) (map word_view l.arguments)
