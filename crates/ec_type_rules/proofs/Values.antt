-- Values of integer types: how large they are, and what their operations give.
use Rattle.std.proofs.Common.{◌≡◌, ◌≢◌, ℕ, ◌*◌, ◌%◌, ◌^◌, ◌<◌, ◌≤◌, Bool, true, false, None, ℤ, pos, int_le, nat_le, cond, lit≤, pow_pos, refl, ap, arith}
use Rattle.std.proofs.lemmas.Int.{ints}
use Rattle.std.proofs.lemmas.Nat.{mul-mod_first}
use Rattle.std.proofs.Math.Nat.{mul-le-mul_left, pow-le-pow_right}
use Rattle.ec_ctypes.specs.declared.types.arith.Arith.{Arith}
use Rattle.ec_ctypes.specs.declared.types.arith.Arith.TheVariants.{Bool as Boolean, Char, UChar, Short, UShort, Int, UInt, Long, ULong, LLong, ULLong}
use Rattle.ec_ctypes.specs.declared.tree.expr.BinOp.{BinOp}
use Rattle.ec_ctypes.specs.declared.tree.expr.BinOp.TheVariants.{Or, And, BitOr, BitXor, BitAnd, Eq, Ne, Lt, Gt, Le, Ge, Shl, Shr, Add, Sub, Mul, Div, Rem}
use Rattle.ec_ctypes.specs.Arithmetic.{is_signed, width, rank, greatest, promoted, common, mixed, represents_all, unsigned_type, usual_type, IsValue, converted, Converts}
use Rattle.ec_ctypes.specs.Arithmetic.Converts.{false_value, true_value, wraps}
use Rattle.ec_typing_defs.specs.Constants.{result_in, binary_value, common_operated}
use Rattle.ec_type_rules.specs.Values.{IsWide}

-- what a number converts to is a value of the type
pub value_of : {t : Arith} {value result : ℤ} → Converts t value result → IsValue t result
value_of false_value = (omega (arith, ints), omega (arith, ints))
value_of (true_value ne) = (omega (arith, ints), omega (arith, ints))
value_of (wraps ne is_value times is) = is_value

-- a product with a power of 2 is at least its first factor
grows : (x n : ℕ) → x ≤ x * 2 ^ n
grows x n = let h : 1 ≤ 2 ^ n = omega (arith, pow_pos n) in let k = mul-le-mul_left x h in omega arith

-- a number of at most 64 bits that is moved up by less than 64 is below 2 ^ 127
pub raised_small : (x n : ℕ) → x < 2 ^ 64 → n < 64 → x * 2 ^ n < 2 ^ 127
raised_small x n small below =
    let power : 2 ^ n ≤ 2 ^ 63 = pow-le-pow_right {n = 2} (omega arith) {i = n} {j = 63} (omega arith) in
    let product = mul-le-mul_left x power in
    omega arith

-- a number that is too large fits no signed type
unfit : (t : Arith) (m : ℕ) → is_signed t ≡ true → 2 ^ 64 ≤ m → None ≡ result_in t (pos m)
unfit Boolean m signed large = cc
unfit Char m signed large = let e : int_le (pos m) (greatest Char) ≡ false = grind (arith, ints) in rw e refl
unfit UChar m signed large = cc
unfit Short m signed large = let e : int_le (pos m) (greatest Short) ≡ false = grind (arith, ints) in rw e refl
unfit UShort m signed large = cc
unfit Int m signed large = let e : int_le (pos m) (greatest Int) ≡ false = grind (arith, ints) in rw e refl
unfit UInt m signed large = cc
unfit Long m signed large = let e : int_le (pos m) (greatest Long) ≡ false = grind (arith, ints) in rw e refl
unfit ULong m signed large = cc
unfit LLong m signed large = let e : int_le (pos m) (greatest LLong) ≡ false = grind (arith, ints) in rw e refl
unfit ULLong m signed large = cc

-- so a product with a power of 2 fits none where its first factor is too large
pub too_large : (t : Arith) (x n : ℕ) → is_signed t ≡ true → 2 ^ 64 ≤ x → None ≡ result_in t (pos (x * 2 ^ n))
too_large t x n signed large = let more = grows x n in unfit t (x * 2 ^ n) signed (omega arith)

-- the bits of an unsigned type that a number is moved up by are those of its low bits
pub low_moved : (t : Arith) (x p : ℕ) → IsWide t → is_signed t ≡ false → converted t (pos (x % 2 ^ width t * p)) ≡ converted t (pos (x * p))
low_moved Boolean x p wide unsigned = absurd (omega (arith, wide))
low_moved Char x p wide unsigned = cc
low_moved UChar x p wide unsigned = absurd (omega (arith, wide))
low_moved Short x p wide unsigned = cc
low_moved UShort x p wide unsigned = absurd (omega (arith, wide))
low_moved Int x p wide unsigned = cc
low_moved UInt x p wide unsigned = ap pos (mul-mod_first x p (2 ^ 32))
low_moved Long x p wide unsigned = cc
low_moved ULong x p wide unsigned = ap pos (mul-mod_first x p (2 ^ 64))
low_moved LLong x p wide unsigned = cc
low_moved ULLong x p wide unsigned = ap pos (mul-mod_first x p (2 ^ 64))

-- ---- the common type of two types is that of an operand as it is promoted

-- one of two types to which operands are promoted is such a type
wide_either : (t : Bool) (a b : Arith) → IsWide a → IsWide b → IsWide (cond t a b)
wide_either true a b wide-a wide-b = wide-a
wide_either false a b wide-a wide-b = wide-b

same_rank : (t : Arith) → rank (unsigned_type t) ≡ rank t
same_rank Boolean = refl
same_rank Char = refl
same_rank UChar = refl
same_rank Short = refl
same_rank UShort = refl
same_rank Int = refl
same_rank UInt = refl
same_rank Long = refl
same_rank ULong = refl
same_rank LLong = refl
same_rank ULLong = refl

pub promoted_wide : (t : Arith) → IsWide (promoted t)
promoted_wide Boolean = lit≤ tt
promoted_wide Char = lit≤ tt
promoted_wide UChar = lit≤ tt
promoted_wide Short = lit≤ tt
promoted_wide UShort = lit≤ tt
promoted_wide Int = lit≤ tt
promoted_wide UInt = lit≤ tt
promoted_wide Long = lit≤ tt
promoted_wide ULong = lit≤ tt
promoted_wide LLong = lit≤ tt
promoted_wide ULLong = lit≤ tt

unsigned_wide : (t : Arith) → IsWide t → IsWide (unsigned_type t)
unsigned_wide t wide = rw same_rank wide

mixed_wide : (u s : Arith) → IsWide u → IsWide s → IsWide (mixed u s)
mixed_wide u s wide-u wide-s =
    wide_either (nat_le (rank s) (rank u)) u _ wide-u (wide_either (represents_all s u) s _ wide-s (unsigned_wide s wide-s))

common_wide : (a b : Arith) → IsWide a → IsWide b → IsWide (common a b)
common_wide a b wide-a wide-b =
    let same = wide_either (nat_le (rank b) (rank a)) a b wide-a wide-b in
    wide_either (is_signed a) _ _
    (wide_either (is_signed b) _ _ same (mixed_wide b a wide-b wide-a))
    (wide_either (is_signed b) _ _ (mixed_wide a b wide-a wide-b) same)

pub usual_wide : (a b : Arith) → IsWide (usual_type a b)
usual_wide a b = common_wide (promoted a) (promoted b) (promoted_wide a) (promoted_wide b)

-- an operation that is no shift is made in the common type
pub unshifted : (op : BinOp) (a : Arith) (x : ℤ) (b : Arith) (y : ℤ) → op ≢ Shl → op ≢ Shr → binary_value op a x b y ≡ common_operated op (usual_type a b) x y
unshifted Or a x b y l r = refl
unshifted And a x b y l r = refl
unshifted BitOr a x b y l r = refl
unshifted BitXor a x b y l r = refl
unshifted BitAnd a x b y l r = refl
unshifted Eq a x b y l r = refl
unshifted Ne a x b y l r = refl
unshifted Lt a x b y l r = refl
unshifted Gt a x b y l r = refl
unshifted Le a x b y l r = refl
unshifted Ge a x b y l r = refl
unshifted Shl a x b y l r = absurd (l refl)
unshifted Shr a x b y l r = absurd (r refl)
unshifted Add a x b y l r = refl
unshifted Sub a x b y l r = refl
unshifted Mul a x b y l r = refl
unshifted Div a x b y l r = refl
unshifted Rem a x b y l r = refl
