-- The formats of printf and fprintf (ISO/IEC 9899:1999, 7.19.6.1, 3 to 8), in the subset that is taken.
use Rattle.std.specs.Prelude.{ℕ, zero, suc, Bool, true, false, ◌&&◌, ◌||◌, ◌==◌, nat_le, List, [], ◌∷◌, ◌++◌, length, Option, Some, None, option_map, option_and_then, if◌then◌else◌}
use Rattle.ec_ctypes.specs.declared.types.arith.Arith.TheVariants.{Int}
use Rattle.ec_ctypes.specs.trees.Types.{TyData, arithmetic, pointer}
use Rattle.ec_ctypes.specs.Arithmetic.{rank, promoted}
use Rattle.ec_language.specs.Letters.{Text}
use Rattle.ec_typing_defs.specs.Types.{same_arith, is_character}

-- what an argument of a format has to be
pub data NeedData : Type 0 where
  -- promoted, it is an int
  exact_int : NeedData
  -- promoted, it is an int, signed or not
  short_integer : NeedData
  -- it is a long or a long long, signed or not
  long_integer : NeedData
  -- it points to char or unsigned char
  text_need : NeedData

abbrev pub Needs : Type 0
Needs = List NeedData

-- ---- reading a format

abbrev pub is_digit : ℕ → Bool
is_digit b = nat_le 48 b && nat_le b 57

-- `-` and `0`
abbrev pub is_flag : ℕ → Bool
is_flag b = b == 45 || b == 48

abbrev pub front_by : (ℕ → Bool) → Text → Text
front_by test [] = []
front_by test (b ∷ bs) = if test b then b ∷ front_by test bs else []

abbrev pub behind_by : (ℕ → Bool) → Text → Text
behind_by test [] = []
behind_by test (b ∷ bs) = if test b then behind_by test bs else b ∷ bs

-- what stands behind this byte, if it comes first
abbrev pub behind : ℕ → Text → Option Text
behind c [] = None
behind c (b ∷ bs) = if b == c then Some bs else None

abbrev pub percent : ℕ
percent = 37

abbrev pub star : ℕ
star = 42

abbrev pub point : ℕ
point = 46

abbrev pub letter_c : ℕ
letter_c = 99

abbrev pub letter_l : ℕ
letter_l = 108

abbrev pub letter_s : ℕ
letter_s = 115

-- what a part of a conversion needs, and what stands behind it
abbrev pub Part : Type 0
Part = Option (Needs × Text)

-- these digits, if there are so many
abbrev pub digits_part : Bool → Text → Part
digits_part true bs = Some ([], behind_by is_digit bs)
digits_part false bs = None

-- the width: none, `*`, or at most three digits
abbrev pub width_part : Text → Part
width_part bs = elim (behind star bs) [
  | Some rest ↦ Some (exact_int ∷ [], rest)
  | None ↦ digits_part (nat_le (length (front_by is_digit bs)) 3) bs
]

-- behind the point of a precision: `*`, or one digit or more
abbrev pub precision_part : Text → Part
precision_part bs = elim (behind star bs) [
  | Some rest ↦ Some (exact_int ∷ [], rest)
  | None ↦ digits_part (nat_le 1 (length (front_by is_digit bs))) bs
]

-- `d`, `i`, `u`, `x`, `X` and `o`
abbrev pub is_integer_letter : ℕ → Bool
is_integer_letter b = b == 100 || b == 105 || b == 117 || b == 120 || b == 88 || b == 111

abbrev pub integer_part : NeedData → Text → Part
integer_part need [] = None
integer_part need (b ∷ bs) = if is_integer_letter b then Some (need ∷ [], bs) else None

-- `s`
abbrev pub text_part : Text → Part
text_part bs = option_map (λ rest. (text_need ∷ [], rest)) (behind letter_s bs)

-- `c`, `s` or a letter of an integer
abbrev pub plain_letter : Text → Part
plain_letter bs = elim (behind letter_c bs) [
  | Some rest ↦ Some (exact_int ∷ [], rest)
  | None ↦ elim (text_part bs) [ Some p ↦ Some p | None ↦ integer_part short_integer bs ]
]

-- behind an `l`: perhaps another one, and a letter of an integer
abbrev pub long_letter : Text → Part
long_letter bs = elim (behind letter_l bs) [
  | Some rest ↦ integer_part long_integer rest
  | None ↦ integer_part long_integer bs
]

abbrev pub letter_part : Text → Part
letter_part bs = elim (behind letter_l bs) [ Some rest ↦ long_letter rest | None ↦ plain_letter bs ]

abbrev pub after : Needs → Part → Part
after before None = None
after before (Some p) = Some (before ++ p.0, p.1)

-- a precision, which stands before `s` alone
abbrev pub precise_part : Text → Part
precise_part bs = option_and_then (λ p. after p.0 (text_part p.1)) (precision_part bs)

abbrev pub behind_width : Text → Part
behind_width bs = elim (behind point bs) [ Some rest ↦ precise_part rest | None ↦ letter_part bs ]

-- flags, a width, a precision and a letter
abbrev pub full_conversion : Text → Part
full_conversion bs =
    option_and_then (λ p. after p.0 (behind_width p.1)) (width_part (behind_by is_flag bs))

-- a conversion, behind its `%`
abbrev pub conversion : Text → Part
conversion bs = elim (behind percent bs) [ Some rest ↦ Some ([], rest) | None ↦ full_conversion bs ]

-- The needs of a format, of at most so many bytes. It ends at its first zero byte.
abbrev pub needs_within : ℕ → Text → Option Needs
needs_within zero bs = Some []
needs_within (suc n) [] = Some []
needs_within (suc n) (b ∷ bs) =
    if b == 0 then Some []
    else (if b == percent then option_and_then
    (λ p. option_map (λ more. p.0 ++ more) (needs_within n p.1)) (conversion bs)
    else needs_within n bs)

-- what the arguments of a format have to be, where it is one
abbrev pub needs_of : Text → Option Needs
needs_of format = needs_within (length format) format

-- ---- arguments

-- Whether a value of this type is what is needed.
abbrev pub meets : NeedData → TyData → Bool
meets exact_int (arithmetic a) = same_arith (promoted a) Int
meets short_integer (arithmetic a) = rank (promoted a) == rank Int
meets long_integer (arithmetic a) = nat_le (suc (rank Int)) (rank a)
meets text_need (pointer (arithmetic a)) = is_character a
meets _ _ = false

-- As many arguments as are needed, and each with a type is what is needed.
abbrev pub meet_all : Needs → List (Option TyData) → Bool
meet_all [] [] = true
meet_all [] (t ∷ ts) = false
meet_all (n ∷ ns) [] = false
meet_all (n ∷ ns) (None ∷ ts) = meet_all ns ts
meet_all (n ∷ ns) (Some t ∷ ts) = meets n t && meet_all ns ts

-- The format is one, and its arguments are what it needs.
abbrev pub is_format_of : Option Text → List (Option TyData) → Bool
is_format_of None ts = false
is_format_of (Some format) ts = elim (needs_of format) [ None ↦ false | Some ns ↦ meet_all ns ts ]
