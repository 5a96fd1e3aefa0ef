-- Words for the types of integer constants.
use Rattle.std.specs.Prelude.{Bool, List, [], ◌∷◌, if◌then◌else◌}
use Rattle.ec_ctypes.specs.declared.types.arith.Arith.{Arith}
use Rattle.ec_ctypes.specs.declared.types.arith.Arith.TheVariants.{Int, UInt, Long, ULong, LLong, ULLong}
use Rattle.ec_language.specs.Constants as constants
use Rattle.ec_clex.specs.declared.numbers.Suffix.{Suffix}

-- what a suffix says
abbrev pub suffix_view : Suffix → constants.Suffix
suffix_view s = record { unsigned = s.unsigned; longs = s.longs }

-- the types that a number without a suffix may have
abbrev pub plain_choices : Bool → List Arith
plain_choices decimal = if decimal then Int ∷ Long ∷ [] else Int ∷ UInt ∷ Long ∷ ULong ∷ []

-- the types that a signed number with one `l` may have
abbrev pub long_choices : Bool → List Arith
long_choices decimal = if decimal then Long ∷ [] else Long ∷ ULong ∷ []

-- the types that a signed number with two may have
abbrev pub long_long_choices : Bool → List Arith
long_long_choices decimal = if decimal then LLong ∷ [] else LLong ∷ ULLong ∷ []
