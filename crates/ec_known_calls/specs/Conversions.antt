-- What the code of conversions stands for.
use Rattle.std.specs.Prelude.{Bool, true, false, [], ◌∷◌, ◌++◌, Option, Some, None}
use Rattle.ec_language.specs.Letters.{Text}
use Rattle.ec_typing_defs.specs.Formats.{NeedData, exact_int, short_integer, long_integer, text_need, Needs}
use Rattle.ec_known_calls.specs.declared.conversions.Need.{Need}
use Rattle.ec_known_calls.specs.declared.conversions.Need.TheVariants.{ExactInt, ShortInteger, LongInteger, Text as Letters}
use Rattle.ec_known_calls.specs.declared.conversions.Front.{Front}
use Rattle.ec_known_calls.specs.declared.conversions.Letter.{Letter}
use Rattle.ec_known_calls.specs.declared.conversions.Precise.{Precise}
use Rattle.ec_known_calls.specs.declared.conversions.Conversion.{Conversion}

abbrev pub need_view : Need → NeedData
need_view ExactInt = exact_int
need_view ShortInteger = short_integer
need_view LongInteger = long_integer
need_view Letters = text_need

-- what a `*` takes
abbrev pub starred : Bool → Needs
starred true = exact_int ∷ []
starred false = []

abbrev pub optional_need : Option Need → Needs
optional_need None = []
optional_need (Some need) = need_view need ∷ []

abbrev pub front_view : Front → Needs × Text
front_view f = (starred f.starred, f.rest.now)

abbrev pub letter_view : Letter → Needs × Text
letter_view l = (need_view l.need ∷ [], l.rest.now)

abbrev pub precise_view : Precise → Needs × Text
precise_view p = (starred p.precision ++ need_view p.need ∷ [], p.rest.now)

abbrev pub needs_in : Conversion → Needs
needs_in c = starred c.width ++ (starred c.precision ++ optional_need c.need)

abbrev pub conversion_view : Conversion → Needs × Text
conversion_view c = (needs_in c, c.rest.now)
