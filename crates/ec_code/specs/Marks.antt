-- Marks, as those of the definition.
use Rattle.std.specs.Prelude.{◌≡◌, pos, Option, Some, None}
use Rattle.ec_code.specs.declared.mark.Mark.{Mark}
use Rattle.ec_code.specs.declared.mark.Mark.TheVariants as mark
use Rattle.ec_meaning_defs.specs.resolved.Resolved as of
use Rattle.ec_memory_defs.specs.Memory.{ValueData, number, address}

abbrev pub mark_view : Mark → of.Mark
mark_view (mark.Named l) = of.named l
mark_view (mark.Signed z) = of.case z
mark_view (mark.Unsigned n) = of.case (pos n)
mark_view mark.Default = of.default

-- the case that an operand of this value goes to. A pointer is no operand of a `switch`
abbrev pub IsCaseOf : ValueData → Option Mark → Type 0
IsCaseOf (number z) (Some m) = mark_view m ≡ of.case z
IsCaseOf (number z) None = ⊥
IsCaseOf (address p) (Some m) = ⊥
IsCaseOf (address p) None = Unit {0}
