-- The communication area, which is the first object of every program: its members, and what the library writes into them. The bytes between the members are never written.
use Rattle.std.specs.Prelude.{◌≡◌, ℕ, zero, suc, ◌-◌, ℤ, pos, List, [], ◌∷◌, ◌++◌, length, take, replicate, codes}
use Rattle.std.specs.Fmt.{decimal}
use Rattle.ec_ctypes.specs.declared.types.arith.Arith.TheVariants.{Int, Long}
use Rattle.ec_memory_defs.specs.Cells.{written, set_cells}
use Rattle.ec_memory_defs.specs.Memory.{Memory, alive, ended}
use Rattle.ec_transfer_defs.specs.Conversion.{integer_bytes}

-- the first object is the area: it is alive, with 256 cells
abbrev pub IsArea : Memory → Type 0
IsArea [] = ⊥
IsArea (alive cells ∷ m) = length cells ≡ 256
IsArea (ended ∷ m) = ⊥

-- bytes of the area, from an offset on
pub record Member : Type 0 where
  pub offset : ℕ
  pub bytes : List ℕ

abbrev pub at : ℕ → List ℕ → Member
at offset bytes = record { offset = offset; bytes = bytes }

-- the memory with a member of its first object written
abbrev pub with_member : Memory → Member → Memory
with_member [] member = []
with_member (ended ∷ m) member = ended ∷ m
with_member (alive cells ∷ m) member =
    alive (written cells member.offset (set_cells member.bytes)) ∷ m

-- one member after the other
abbrev pub with_members : Memory → List Member → Memory
with_members m [] = m
with_members m (member ∷ members) = with_members (with_member m member) members

-- the members
abbrev pub sqlcaid : List ℕ → Member
sqlcaid = at 0

abbrev pub sqlabc : ℤ → Member
sqlabc z = at 8 (integer_bytes Long z)

abbrev pub sqlcode : ℤ → Member
sqlcode z = at 16 (integer_bytes Long z)

abbrev pub sqlerrml : ℕ → Member
sqlerrml n = at 24 (integer_bytes Int (pos n))

abbrev pub sqlerrmc : List ℕ → Member
sqlerrmc = at 28

abbrev pub sqlerrp : List ℕ → Member
sqlerrp = at 180

abbrev pub sqlerrd : List ℕ → Member
sqlerrd = at 192

abbrev pub sqlerrd_2 : ℤ → Member
sqlerrd_2 z = at 208 (integer_bytes Long z)

abbrev pub sqlwarn : List ℕ → Member
sqlwarn = at 240

abbrev pub sqlstate : List ℕ → Member
sqlstate = at 248

-- each member as it is when a statement begins
abbrev pub opening : List Member
opening =
    sqlcaid (codes "SQLCA   ")
    ∷ sqlabc (pos 256)
    ∷ sqlcode (pos 0)
    ∷ sqlerrml 0
    ∷ sqlerrmc (replicate 150 0)
    ∷ sqlerrp (codes "NOT SET ")
    ∷ sqlerrd (replicate 48 0)
    ∷ sqlwarn (replicate 8 0)
    ∷ sqlstate (codes "00000")
    ∷ []

-- the area as it is when a statement begins
abbrev pub area_reset : Memory → Memory
area_reset m = with_members m opening

-- a message with its line
abbrev pub message_on : List ℕ → ℕ → List ℕ
message_on message line = message ++ codes " on line " ++ decimal line

-- what stands in sqlerrmc: the first 149 bytes of a text, and zero bytes behind them
abbrev pub kept_front : List ℕ → List ℕ
kept_front text = take 149 text

abbrev pub in_sqlerrmc : List ℕ → List ℕ
in_sqlerrmc text = kept_front text ++ replicate (150 - length (kept_front text)) 0

-- how many bytes stand before the first zero byte
abbrev pub text_length : List ℕ → ℕ
text_length [] = 0
text_length (zero ∷ bytes) = 0
text_length (suc b ∷ bytes) = suc (text_length bytes)

-- behind a code, with its state and its message on a line
abbrev pub area_raised : Memory → ℤ → List ℕ → List ℕ → ℕ → Memory
area_raised m code state message line =
    let text = in_sqlerrmc (message_on message line) in
    with_members m
    (sqlcode code ∷ sqlerrml (text_length text) ∷ sqlerrmc text ∷ sqlstate state ∷ [])

-- behind a value that was cut: sqlwarn[0] and sqlwarn[1] are W
abbrev pub area_warned : Memory → Memory
area_warned m = with_members m (sqlwarn (codes "WW") ∷ [])

-- behind a notice of the server: sqlwarn[0] and sqlwarn[2] are W
abbrev pub area_noticed : Memory → Memory
area_noticed m = with_members m (at 240 (codes "W") ∷ at 242 (codes "W") ∷ [])

-- behind a number of rows, which sqlerrd[2] takes as a long, by its low 64 bits
abbrev pub area_counted : Memory → ℕ → Memory
area_counted m rows = with_members m (sqlerrd_2 (pos rows) ∷ [])
