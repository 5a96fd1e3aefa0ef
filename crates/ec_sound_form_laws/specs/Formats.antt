-- Formats: what the checks read in one, and what the meaning takes it apart into.
use Rattle.std.specs.Prelude.{◌≡◌, List, map, Some}
use Rattle.ec_language.specs.Letters.{Text}
use Rattle.ec_typing_defs.specs.Formats.{NeedData, exact_int, short_integer, long_integer, text_need, Needs, needs_of}
use Rattle.ec_meaning_defs.specs.functions.Formats.{Part, format_parts}
use Rattle.ec_sound_defs.specs.Sorts.{Sort, number_sort, address_sort, parts_need}

-- the sort of what is needed
abbrev pub need_sort : NeedData → Sort
need_sort exact_int = number_sort
need_sort short_integer = number_sort
need_sort long_integer = number_sort
need_sort text_need = address_sort

-- The format is one for the meaning, too, and takes values of the sorts that the checks ask for.
pub record IsTakenApart (format : Text) (needs : Needs) : Type 0 where
  pub parts : List Part
  pub are : format_parts format ≡ Some parts
  pub need : parts_need parts ≡ map need_sort needs

abbrev pub FormatsAreTakenApart : Type 0
FormatsAreTakenApart = (format : Text) (needs : Needs) → needs_of format ≡ Some needs
    → IsTakenApart format needs
