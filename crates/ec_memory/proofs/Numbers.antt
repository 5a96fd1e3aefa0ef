-- The numbers of eight bytes.
use Rattle.std.proofs.Common.{◌≡◌, rules, Some, ℕ, suc, negsuc, ◌-◌, ◌^◌, ◌<◌, ◌≤◌, ◌%◌, Bool, true, false, List, [], ◌∷◌, length, get_or, ℤ, pos, ◌-ℤ◌, int_le, refl, ap, ◌∙◌, arith, to_z, of_z, w64}
use Rattle.std.specs.Prelude.{if◌then◌else◌}
use Rattle.std.specs.Int.{from_le_bytes, w128}
use mir.Val.{SFits}
use Rattle.std.proofs.Math.Facts.{to_z-neg}
use Rattle.std.proofs.lemmas.Int.{ints}
use Rattle.ec_ctypes.specs.Arithmetic.{wrapped_signed}
use Rattle.ec_ctypes.specs.declared.types.arith.Arith.TheVariants.{Long, ULong, LLong, ULLong}
use Rattle.ec_ctypes.specs.declared.types.ty.Ty.{the_lemmas}
use Rattle.ec_ctypes.specs.declared.types.ty.Ty as Ty
use Rattle.ec_ctypes.specs.views.Types.{ty_view}
use Rattle.ec_memory_defs.specs.Memory.{scalar_type, ValueData, number, address, integer_type, Fits, little_endian}

-- the number of eight bytes, as std reads it
whole : (bytes : List ℕ) → length bytes ≡ 8 → from_le_bytes w64 bytes ≡ little_endian bytes
whole (a ∷ b ∷ c ∷ d ∷ e ∷ f ∷ g ∷ h ∷ []) all = omega arith
whole _ all = absurd (omega arith)

-- it is below 2 ^ 64
below : (bytes : List ℕ) → length bytes ≡ 8 → ((i : ℕ) → get_or bytes i 0 < 256) → little_endian bytes < 2 ^ 64
below (a ∷ b ∷ c ∷ d ∷ e ∷ f ∷ g ∷ h ∷ []) all small =
    let s0 = small 0 in let s1 = small 1 in let s2 = small 2 in let s3 = small 3 in
    let s4 = small 4 in let s5 = small 5 in let s6 = small 6 in let s7 = small 7 in omega arith
below _ all small = absurd (omega arith)

-- 64 bits as a signed number
wrapped : (n : ℕ) → n < 2 ^ 64 → to_z w64 n ≡ wrapped_signed 64 (pos n)
wrapped n fits =
    let same : n % 2 ^ 64 ≡ n = omega arith in
    either (int_le (pos (n % 2 ^ 64)) (pos (2 ^ 63 - 1))) refl
  where
    either : (b : Bool) → int_le (pos (n % 2 ^ 64)) (pos (2 ^ 63 - 1)) ≡ b → to_z w64 n ≡ (if b then pos (n % 2 ^ 64) else pos (n % 2 ^ 64) -ℤ pos (2 ^ 64))
    either true e = omega (arith, ints)
    either false e =
        let k = 2 ^ 64 - 1 - n in
        let above : 2 ^ 63 ≤ n = omega (arith, ints) in
        let is : n ≡ 2 ^ 64 - suc k = omega arith in
        let less : negsuc k ≡ pos (n % 2 ^ 64) -ℤ pos (2 ^ 64) = omega (arith, ints) in
        ap (to_z w64) is ∙ to_z-neg w64 k (omega arith) ∙ less

-- casts that lose nothing
widened : (z : ℤ) → SFits w64 z → to_z w128 (of_z w128 (to_z w64 (of_z w64 z))) ≡ z
widened z fits = omega (arith, ints)

-- eight bytes as a signed number
pub signed_8 : (bytes : List ℕ) (z : ℤ) → SFits w64 z → length bytes ≡ 8 → ((i : ℕ) → get_or bytes i 0 < 256) → z ≡ to_z w64 (from_le_bytes w64 bytes) → to_z w128 (of_z w128 (to_z w64 (of_z w64 z))) ≡ wrapped_signed 64 (pos (little_endian bytes))
signed_8 bytes z fits all small is = widened z fits ∙ is ∙ ap (to_z w64) (whole bytes all) ∙ wrapped (little_endian bytes) (below bytes all small)

-- long long has the values of long
pub as_long : (v : ValueData) → Fits (integer_type LLong) v → Fits (integer_type Long) v
as_long (number z) fits = fits
as_long (address a) fits = fits

pub as_ulong : (v : ValueData) → Fits (integer_type ULLong) v → Fits (integer_type ULong) v
as_ulong (number z) fits = fits
as_ulong (address a) fits = fits

-- the types of long long and unsigned long long
pub llong_type : scalar_type (ty_view Ty.LLong) ≡ Some (integer_type LLong)
llong_type = search (rules, the_lemmas)

pub ullong_type : scalar_type (ty_view Ty.ULLong) ≡ Some (integer_type ULLong)
ullong_type = search (rules, the_lemmas)
