-- What is loaded is a number that a word holds.
use Rattle.std.proofs.Common.{◌≡◌, ◌∙◌, sym, refl, ap, subst, ℕ, ◌-◌, ◌^◌, ℤ, pos, negsuc, ◌≤ℤ◌, List, Result, Ok, Err, arith}
use Rattle.std.proofs.lemmas.Int.{ints}
use Rattle.ec_base.specs.declared.stop.Trap.{Trap}
use Rattle.ec_ctypes.specs.Arithmetic.{converted, Converts, false_value, true_value, wraps, IsValue}
use Rattle.ec_ctypes.specs.declared.types.arith.Arith.{Arith}
use Rattle.ec_ctypes.specs.declared.types.arith.Arith.TheVariants.{Bool, Char, UChar, Short, UShort, Int, UInt, Long, ULong, LLong, ULLong}
use Rattle.ec_ctypes.proofs.Conversions.{follows_rule}
use Rattle.ec_memory_defs.specs.Memory.{Memory, ScalarType, integer_type, pointer_type, number, address, and_then, span, load, decoded, scalar_size, little_endian}
use Rattle.ec_values.specs.Words.{HasWord}

value_bounds : (t : Arith) (z : ℤ) → IsValue t z → HasWord z
value_bounds Bool z v = (omega (arith, ints, v.0), omega (arith, ints, v.1))
value_bounds Char z v = (omega (arith, ints, v.0), omega (arith, ints, v.1))
value_bounds UChar z v = (omega (arith, ints, v.0), omega (arith, ints, v.1))
value_bounds Short z v = (omega (arith, ints, v.0), omega (arith, ints, v.1))
value_bounds UShort z v = (omega (arith, ints, v.0), omega (arith, ints, v.1))
value_bounds Int z v = (omega (arith, ints, v.0), omega (arith, ints, v.1))
value_bounds UInt z v = (omega (arith, ints, v.0), omega (arith, ints, v.1))
value_bounds Long z v = (omega (arith, ints, v.0), omega (arith, ints, v.1))
value_bounds ULong z v = (omega (arith, ints, v.0), omega (arith, ints, v.1))
value_bounds LLong z v = (omega (arith, ints, v.0), omega (arith, ints, v.1))
value_bounds ULLong z v = (omega (arith, ints, v.0), omega (arith, ints, v.1))

rule_bounds : (t : Arith) (z r : ℤ) → Converts t z r → HasWord r
rule_bounds t z r false_value = (omega (arith, ints), omega (arith, ints))
rule_bounds t z r (true_value h) = (omega (arith, ints), omega (arith, ints))
rule_bounds t z r (wraps h v k e) = value_bounds t r v

pub converted_bounds : (t : Arith) (z : ℤ) → HasWord (converted t z)
converted_bounds t z = rule_bounds t z (converted t z) (follows_rule t z)

decoded_bounds : (s : ScalarType) (bytes : List ℕ) (n : ℤ) → number n ≡ decoded s bytes → HasWord n
decoded_bounds (integer_type t) bytes n e =
    let same : converted t (pos (little_endian bytes)) ≡ n = cc in
    subst HasWord same (converted_bounds t (pos (little_endian bytes)))
decoded_bounds pointer_type bytes n e = cc

spanned_bounds : (s : ScalarType) (n : ℤ) (r : Result (List ℕ) Trap) → Ok (number n) ≡ and_then r (λ bytes. Ok (decoded s bytes)) → HasWord n
spanned_bounds s n (Ok bytes) e = let same : number n ≡ decoded s bytes = cc in decoded_bounds s bytes n same
spanned_bounds s n (Err t) e = cc

pub loaded_bounds : (m : Memory) (p : ℕ) (s : ScalarType) (n : ℤ) → Ok (number n) ≡ load m p s → HasWord n
loaded_bounds m p s n e = spanned_bounds s n (span m p (scalar_size s)) e
