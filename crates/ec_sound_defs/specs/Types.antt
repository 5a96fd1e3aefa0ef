-- Of which sort the values of a type are. A struct or an array is known by its address, and of a void expression nothing is read.
use Rattle.ec_ctypes.specs.trees.Types.{TyData, void, arithmetic, pointer, array, structure}
use Rattle.ec_sound_defs.specs.Sorts.{Sort, number_sort, address_sort, any_sort}

abbrev pub type_sort : TyData → Sort
type_sort void = any_sort
type_sort (arithmetic a) = number_sort
type_sort (pointer t) = address_sort
type_sort (array t n) = address_sort
type_sort (structure k) = address_sort
