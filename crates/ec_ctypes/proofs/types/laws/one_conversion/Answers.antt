-- The definition follows the rule, and two values of a type that differ by a multiple of the modulus are one.
use Rattle.ec_ctypes.proofs.Conversions.{one_result, follows_rule}
use Rattle.ec_ctypes.proofs.types.laws.one_conversion.Goals as goal

pub returns : goal.returns
returns c = record { one = one_result; exists = follows_rule }
