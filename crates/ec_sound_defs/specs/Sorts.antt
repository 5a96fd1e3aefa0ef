-- Of which sort the value of an expression is: all that keeps an operation on it from being stuck. A value that is loaded is of the sort of its type, whatever bytes memory has, so nothing is asked of memory.
use Rattle.std.specs.Prelude.{List, [], ◌∷◌}
use Rattle.ec_meaning_defs.specs.functions.Formats.{Amount, absent, given, from_argument, Part, plain, integer, character, text}
use Rattle.ec_meaning_defs.specs.functions.Functions.{Known, print, puts, putchar, strlen, strcmp, strncmp, memcmp, strcpy, strncpy, strcat, memcpy, memset, exit, sqlprint}
use Rattle.ec_memory_defs.specs.Memory.{ValueData, number, address, ScalarType, integer_type, pointer_type}
use Rattle.ec_meaning_defs.specs.resolved.Operations.{Operation, integers, shift_left, shift_right, compare, pointer_plus, plus_pointer, pointer_minus, pointers_apart}

-- a number, an address, or a value that nothing reads
pub data Sort : Type 0 where
  number_sort : Sort
  address_sort : Sort
  any_sort : Sort

abbrev pub OfSort : Sort → ValueData → Type 0
OfSort number_sort (number z) = Unit {0}
OfSort number_sort (address p) = ⊥
OfSort address_sort (number z) = ⊥
OfSort address_sort (address p) = Unit {0}
OfSort any_sort v = Unit {0}

-- as many values as sorts, each of its sort
abbrev pub OfSorts : List Sort → List ValueData → Type 0
OfSorts [] [] = Unit {0}
OfSorts [] (v ∷ vs) = ⊥
OfSorts (k ∷ ks) [] = ⊥
OfSorts (k ∷ ks) (v ∷ vs) = OfSort k v × OfSorts ks vs

-- a value of the second sort serves where one of the first is wanted
abbrev pub Takes : Sort → Sort → Type 0
Takes any_sort k = Unit {0}
Takes number_sort number_sort = Unit {0}
Takes number_sort address_sort = ⊥
Takes number_sort any_sort = ⊥
Takes address_sort number_sort = ⊥
Takes address_sort address_sort = Unit {0}
Takes address_sort any_sort = ⊥

abbrev pub sort_of : ScalarType → Sort
sort_of (integer_type t) = number_sort
sort_of pointer_type = address_sort

abbrev pub sort_of_value : ValueData → Sort
sort_of_value (number z) = number_sort
sort_of_value (address p) = address_sort

-- ---- operations: the sorts of their operands, where these are two numbers for a comparison, and of what they give

abbrev pub left_of : Operation → Sort
left_of (integers t op) = number_sort
left_of (shift_left t) = number_sort
left_of (shift_right t) = number_sort
left_of (compare c) = number_sort
left_of (pointer_plus size) = address_sort
left_of (plus_pointer size) = number_sort
left_of (pointer_minus size) = address_sort
left_of (pointers_apart size) = address_sort

abbrev pub right_of : Operation → Sort
right_of (integers t op) = number_sort
right_of (shift_left t) = number_sort
right_of (shift_right t) = number_sort
right_of (compare c) = number_sort
right_of (pointer_plus size) = number_sort
right_of (plus_pointer size) = address_sort
right_of (pointer_minus size) = number_sort
right_of (pointers_apart size) = address_sort

abbrev pub result_sort : Operation → Sort
result_sort (integers t op) = number_sort
result_sort (shift_left t) = number_sort
result_sort (shift_right t) = number_sort
result_sort (compare c) = number_sort
result_sort (pointer_plus size) = address_sort
result_sort (plus_pointer size) = address_sort
result_sort (pointer_minus size) = address_sort
result_sort (pointers_apart size) = number_sort

-- ---- known functions: what they take and give

abbrev pub amount_needs : Amount → List Sort → List Sort
amount_needs absent rest = rest
amount_needs (given n) rest = rest
amount_needs from_argument rest = number_sort ∷ rest

abbrev pub part_needs : Part → List Sort → List Sort
part_needs (plain bytes) rest = rest
part_needs (integer field wide style) rest = amount_needs field.width (number_sort ∷ rest)
part_needs (character field) rest = amount_needs field.width (number_sort ∷ rest)
part_needs (text field precision) rest =
    amount_needs field.width (amount_needs precision (address_sort ∷ rest))

abbrev pub parts_need : List Part → List Sort
parts_need [] = []
parts_need (part ∷ parts) = part_needs part (parts_need parts)

abbrev pub known_takes : Known → List Sort
known_takes (print channel parts) = parts_need parts
known_takes puts = address_sort ∷ []
known_takes putchar = number_sort ∷ []
known_takes strlen = address_sort ∷ []
known_takes strcmp = address_sort ∷ address_sort ∷ []
known_takes strncmp = address_sort ∷ address_sort ∷ number_sort ∷ []
known_takes memcmp = address_sort ∷ address_sort ∷ number_sort ∷ []
known_takes strcpy = address_sort ∷ address_sort ∷ []
known_takes strncpy = address_sort ∷ address_sort ∷ number_sort ∷ []
known_takes strcat = address_sort ∷ address_sort ∷ []
known_takes memcpy = address_sort ∷ address_sort ∷ number_sort ∷ []
known_takes memset = address_sort ∷ number_sort ∷ number_sort ∷ []
known_takes exit = number_sort ∷ []
known_takes sqlprint = []

abbrev pub known_gives : Known → Sort
known_gives (print channel parts) = number_sort
known_gives puts = number_sort
known_gives putchar = number_sort
known_gives strlen = number_sort
known_gives strcmp = number_sort
known_gives strncmp = number_sort
known_gives memcmp = number_sort
known_gives strcpy = address_sort
known_gives strncpy = address_sort
known_gives strcat = address_sort
known_gives memcpy = address_sort
known_gives memset = address_sort
known_gives exit = any_sort
known_gives sqlprint = any_sort
