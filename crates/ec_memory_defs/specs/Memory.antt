-- The memory of a C program: objects of cells, pointers into them, and accesses, which give what they read or leave, or trap (ISO/IEC 9899:1999, 6.2.4, 6.2.6, 6.5.3.2 and 6.5.6). An access through a pointer is tested in this order: Null, Dead, Outside, Unset.
use Rattle.std.specs.Prelude.{ℕ, zero, suc, ◌+◌, ◌-◌, ◌*◌, ◌/◌, ◌%◌, ◌^◌, ◌<◌, ◌&&◌, ℤ, pos, ◌+ℤ◌, ◌-ℤ◌, ◌*ℤ◌, int_le, int_div, ◌==◌, unsigned_abs, nat_lt, nat_le, List, [], ◌∷◌, ◌++◌, map, length, take, drop, slice_get, slice_set, Option, Some, None, Result, Ok, Err, if◌then◌else◌}
use Rattle.std.specs.Int.{int_rem_euclid}
use Rattle.std.specs.declared.cmp.Ordering.{Ordering}
use Rattle.std.specs.Ordering.{nat_cmp}
use Rattle.ec_base.specs.declared.stop.Trap.{Trap}
use Rattle.ec_base.specs.declared.stop.Trap.TheVariants.{Outside, Dead, Null, Unset, Spent}
use Rattle.ec_ctypes.specs.declared.types.arith.Arith.{Arith}
use Rattle.ec_ctypes.specs.trees.Types.{TyData, void, arithmetic, pointer, array, structure}
use Rattle.ec_ctypes.specs.Arithmetic.{IsValue, converted}
use Rattle.ec_ctypes.specs.Layout.{arith_size, pointer_size}
use Rattle.ec_memory_defs.specs.Cells.{Cell, bytes_of, part_of, written, set_cells, filled_cells, unset_cells}

-- an object: it is alive and has its cells, or it has ended
pub data ObjectData : Type 0 where
  alive : List Cell → ObjectData
  ended : ObjectData

-- the objects that were made, in order: the first has the number 1
abbrev pub Memory : Type 0
Memory = List ObjectData

-- what comes next, if there was no trap
abbrev pub and_then : {A B : Type 0} → Result A Trap → (A → Result B Trap) → Result B Trap
and_then (Ok a) next = next a
and_then (Err trap) next = Err trap

-- the number of a pointer: that of its object times 2 ^ 32, and the offset. The null pointer is 0
abbrev pub pointer_to : ℕ → ℕ → ℕ
pointer_to object offset = object * 2 ^ 32 + offset

abbrev pub object_of : ℕ → ℕ
object_of p = p / 2 ^ 32

abbrev pub offset_of : ℕ → ℕ
offset_of p = p % 2 ^ 32

-- the cells of what is found under an object's number
abbrev pub cells_found : Option ObjectData → Result (List Cell) Trap
cells_found None = Err Dead
cells_found (Some (alive cells)) = Ok cells
cells_found (Some ended) = Err Dead

-- the cells of the object with this number: 0 is no object, and one that was never made or has ended is dead
abbrev pub object_cells : Memory → ℕ → Result (List Cell) Trap
object_cells m zero = Err Null
object_cells m (suc n) = cells_found (slice_get m n)

-- the cells of an access to n bytes, which lie in the object
abbrev pub cells_at : Memory → ℕ → ℕ → Result (List Cell) Trap
cells_at m p n = and_then (object_cells m (object_of p)) (λ cells.
    if nat_le (offset_of p + n) (length cells) then Ok (part_of cells (offset_of p) n)
    else Err Outside)

-- what was read, or that a cell of it is unset
abbrev pub or_unset : {A : Type 0} → Option A → Result A Trap
or_unset None = Err Unset
or_unset (Some a) = Ok a

-- n bytes, read as one access
abbrev pub span : Memory → ℕ → ℕ → Result (List ℕ) Trap
span m p n = and_then (cells_at m p n) (λ cells. or_unset (bytes_of cells))

-- the bytes before the first zero byte, each read as an access of its own
abbrev pub text_of : List Cell → Result (List ℕ) Trap
text_of [] = Err Outside
text_of (None ∷ cells) = Err Unset
text_of (Some zero ∷ cells) = Ok []
text_of (Some (suc b) ∷ cells) = and_then (text_of cells) (λ bs. Ok (suc b ∷ bs))

abbrev pub text_at : Memory → ℕ → Result (List ℕ) Trap
text_at m p = and_then (object_cells m (object_of p)) (λ cells. text_of (drop (offset_of p) cells))

-- the bytes before the first zero byte, and at most so many: no byte behind these is read
abbrev pub front_of : ℕ → List Cell → Result (List ℕ) Trap
front_of zero cells = Ok []
front_of (suc n) [] = Err Outside
front_of (suc n) (None ∷ cells) = Err Unset
front_of (suc n) (Some zero ∷ cells) = Ok []
front_of (suc n) (Some (suc b) ∷ cells) = and_then (front_of n cells) (λ bs. Ok (suc b ∷ bs))

-- the same at a pointer, each byte read as an access of its own: so nothing is tested where none is read
abbrev pub text_up_to : Memory → ℕ → ℕ → Result (List ℕ) Trap
text_up_to m p zero = Ok []
text_up_to m p (suc n) =
    and_then (object_cells m (object_of p)) (λ cells. front_of (suc n) (drop (offset_of p) cells))

-- the memory with these cells from the pointer on, written as one access
abbrev pub with_cells : Memory → ℕ → List Cell → Result Memory Trap
with_cells m p piece = and_then (object_cells m (object_of p)) (λ cells.
    if nat_le (offset_of p + length piece) (length cells) then Ok
    (slice_set m (object_of p - 1) (alive (written cells (offset_of p) piece))) else Err Outside)

-- bytes are put
abbrev pub put : Memory → ℕ → List ℕ → Result Memory Trap
put m p bytes = with_cells m p (set_cells bytes)

-- n times a byte is put
abbrev pub fill : Memory → ℕ → ℕ → ℕ → Result Memory Trap
fill m p n byte = with_cells m p (filled_cells n byte)

-- n cells become unset
abbrev pub unset : Memory → ℕ → ℕ → Result Memory Trap
unset m p n = with_cells m p (unset_cells n)

-- n cells are copied, unset ones too. The source is tested before the destination
abbrev pub copy : Memory → ℕ → ℕ → ℕ → Result Memory Trap
copy m to from n = and_then (cells_at m from n) (λ cells. with_cells m to cells)

-- a pointer to `by` elements of this size further on. One past the end of the object is inside
abbrev pub moved : Memory → ℕ → ℤ → ℕ → Result ℕ Trap
moved m p by size = and_then (object_cells m (object_of p)) (λ cells.
    let offset = pos (offset_of p) +ℤ (by *ℤ pos size) in
    if int_le (pos 0) offset && int_le offset (pos (length cells))
    then Ok (pointer_to (object_of p) (unsigned_abs offset)) else Err Outside)

-- how many elements of this size lie between two pointers, cut towards zero (6.5.6). They are pointers into one object, and no more is tested
abbrev pub difference : ℕ → ℕ → ℕ → Result ℤ Trap
difference p from size = if object_of p == object_of from
    then Ok (int_div (pos (offset_of p) -ℤ pos (offset_of from)) (pos size)) else Err Outside

-- the order of two pointers is that of their numbers, whatever they lead to (6.5.8)
abbrev pub order : ℕ → ℕ → Ordering
order p q = nat_cmp p q

-- how many bytes are alive
abbrev pub live_bytes : Memory → ℕ
live_bytes [] = 0
live_bytes (alive cells ∷ m) = length cells + live_bytes m
live_bytes (ended ∷ m) = live_bytes m

-- an object of these cells is made, with the pointer to it. The numbers are below 2 ^ 32, and at most 2 ^ 28 bytes are alive
abbrev pub with_object : Memory → List Cell → Result (ℕ × Memory) Trap
with_object m cells =
    if nat_lt (suc (length m)) (2 ^ 32) && nat_le (live_bytes m + length cells) (2 ^ 28)
    then Ok (pointer_to (suc (length m)) 0, m ++ alive cells ∷ [])
    else Err Spent

-- an object of so many unset bytes
abbrev pub make : Memory → ℕ → Result (ℕ × Memory) Trap
make m size = with_object m (unset_cells size)

-- an object of so many zero bytes
abbrev pub make_zeroed : Memory → ℕ → Result (ℕ × Memory) Trap
make_zeroed m size = with_object m (filled_cells size 0)

-- the number of the object that was made last, or 0
abbrev pub last_number : Memory → ℕ
last_number m = length m

-- every object behind the first n has ended. Their numbers are not used again
abbrev pub end_to : Memory → ℕ → Memory
end_to m n = take n m ++ map (λ object. ended) (drop n m)

-- a value that is loaded or stored: a number, or a pointer by its number
pub data ValueData : Type 0 where
  number : ℤ → ValueData
  address : ℕ → ValueData

-- the types whose values are loaded and stored
pub data ScalarType : Type 0 where
  integer_type : Arith → ScalarType
  pointer_type : ScalarType

abbrev pub scalar_type : TyData → Option ScalarType
scalar_type void = None
scalar_type (arithmetic t) = Some (integer_type t)
scalar_type (pointer t) = Some pointer_type
scalar_type (array t n) = None
scalar_type (structure k) = None

abbrev pub scalar_size : ScalarType → ℕ
scalar_size (integer_type t) = arith_size t
scalar_size pointer_type = pointer_size

-- the value is one of the type
abbrev pub Fits : ScalarType → ValueData → Type 0
Fits (integer_type t) (number z) = IsValue t z
Fits (integer_type t) (address a) = ⊥
Fits pointer_type (number z) = ⊥
Fits pointer_type (address a) = a < 2 ^ 64

-- the number that bytes are, the least significant one first
abbrev pub little_endian : List ℕ → ℕ
little_endian [] = 0
little_endian (b ∷ bs) = b + 256 * little_endian bs

-- so many bytes of a number, the least significant one first
abbrev pub little_endian_bytes : ℕ → ℕ → List ℕ
little_endian_bytes zero n = []
little_endian_bytes (suc k) n = (n % 256) ∷ little_endian_bytes k (n / 256)

-- the value of bytes: a signed number is in two's complement, and any byte but 0 is a true bool
abbrev pub decoded : ScalarType → List ℕ → ValueData
decoded (integer_type t) bytes = number (converted t (pos (little_endian bytes)))
decoded pointer_type bytes = address (little_endian bytes)

-- the number of a value
abbrev pub number_of : ValueData → ℤ
number_of (number z) = z
number_of (address a) = pos a

-- the bytes of a value
abbrev pub encoded : ScalarType → ValueData → List ℕ
encoded s v = little_endian_bytes (scalar_size s)
    (unsigned_abs (int_rem_euclid (number_of v) (pos (2 ^ (8 * scalar_size s)))))

-- a value is loaded, or stored, as one access
abbrev pub load : Memory → ℕ → ScalarType → Result ValueData Trap
load m p s = and_then (span m p (scalar_size s)) (λ bytes. Ok (decoded s bytes))

abbrev pub store : Memory → ℕ → ScalarType → ValueData → Result Memory Trap
store m p s v = put m p (encoded s v)

-- how many bytes lie from the first byte of the first of `count` elements to the last byte of the last one, where each has `size` bytes and starts `step` bytes behind the one before it
abbrev pub extent : ℕ → ℕ → ℕ → ℕ
extent count step size = (count - 1) * step + size
