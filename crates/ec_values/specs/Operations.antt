-- The operations of code, as those of the definition.
use Rattle.ec_meaning_defs.specs.resolved.Operations as of
use Rattle.ec_values.specs.declared.operation.Operation.{Operation}
use Rattle.ec_values.specs.declared.operation.Operation.TheVariants.{Integers, ShiftLeft, ShiftRight, Compare, PointerPlus, PlusPointer, PointerMinus, PointersApart}
use Rattle.ec_values.specs.declared.operation.IntegerOperator.{IntegerOperator}
use Rattle.ec_values.specs.declared.operation.IntegerOperator.TheVariants.{Plus, Minus, Times, Divided, Remainder, BitsAnd, BitsOr, BitsXor}
use Rattle.ec_values.specs.declared.operation.Comparison.{Comparison}
use Rattle.ec_values.specs.declared.operation.Comparison.TheVariants.{Equal, Unequal, Less, Greater, AtMost, AtLeast}

abbrev pub operator_view : IntegerOperator → of.IntegerOperator
operator_view Plus = of.plus
operator_view Minus = of.minus
operator_view Times = of.times
operator_view Divided = of.divided
operator_view Remainder = of.remainder
operator_view BitsAnd = of.bits_and
operator_view BitsOr = of.bits_or
operator_view BitsXor = of.bits_xor

abbrev pub comparison_view : Comparison → of.Comparison
comparison_view Equal = of.equal
comparison_view Unequal = of.unequal
comparison_view Less = of.less
comparison_view Greater = of.greater
comparison_view AtMost = of.at_most
comparison_view AtLeast = of.at_least

abbrev pub operation_view : Operation → of.Operation
operation_view (Integers t op) = of.integers t (operator_view op)
operation_view (ShiftLeft t) = of.shift_left t
operation_view (ShiftRight t) = of.shift_right t
operation_view (Compare c) = of.compare (comparison_view c)
operation_view (PointerPlus size) = of.pointer_plus size
operation_view (PlusPointer size) = of.plus_pointer size
operation_view (PointerMinus size) = of.pointer_minus size
operation_view (PointersApart size) = of.pointers_apart size
