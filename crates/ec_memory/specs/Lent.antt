-- The parts of bytes that are lent to be written.
use Rattle.std.specs.Prelude.{◌≡◌, ℕ}
use Rattle.std.specs.Borrow.{MutBor}
use Rattle.ec_memory_defs.specs.Memory.{Memory}
use Rattle.ec_memory.specs.declared.lent.LentBytes.{LentBytes}

-- the reference to the memory that the bytes lie in
abbrev pub lent_store : LentBytes → MutBor Memory
lent_store b = b.store

-- that memory
abbrev pub lent_memory : LentBytes → Memory
lent_memory b = b.store.now

-- the pointer to the first of them
abbrev pub lent_pointer : LentBytes → ℕ
lent_pointer b = b.ptr.0

-- how many there are
abbrev pub lent_count : LentBytes → ℕ
lent_count b = b.count

-- the same bytes of the same memory
abbrev pub IsSameBytes : LentBytes → LentBytes → Type 0
IsSameBytes b c = (c.store.ghost_name ≡ b.store.ghost_name)
    × (c.ptr.0 ≡ b.ptr.0) × (c.count ≡ b.count)
