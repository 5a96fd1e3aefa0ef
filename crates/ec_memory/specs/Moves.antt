-- A pointer that moves within an object of so many bytes.
use Rattle.std.specs.Prelude.{◌≡◌, ◌≤◌, ℕ, Bool, false, ℤ, pos, ◌+ℤ◌, ◌*ℤ◌, int_le, ◌&&◌, unsigned_abs, Result, Ok, Err, if◌then◌else◌}
use Rattle.ec_base.specs.declared.stop.Trap.{Trap}
use Rattle.ec_base.specs.declared.stop.Trap.TheVariants.{Outside}
use Rattle.ec_memory_defs.specs.Memory.{pointer_to, object_of, offset_of}

-- an offset lies in the object or one past its end
abbrev pub is_within : ℕ → ℤ → Bool
is_within len offset = int_le (pos 0) offset && int_le offset (pos len)

abbrev pub LiesOutside : ℕ → ℤ → Type 0
LiesOutside len offset = is_within len offset ≡ false

-- the same as a number
abbrev pub IsOffset : ℕ → ℤ → ℕ → Type 0
IsOffset len offset it = (offset ≡ pos it) × (it ≤ len)

-- the offset `by` elements of this size behind that of a pointer
abbrev pub offset_behind : ℕ → ℤ → ℕ → ℤ
offset_behind p by size = pos (offset_of p) +ℤ (by *ℤ pos size)

abbrev pub moved_within : ℕ → ℕ → ℤ → ℕ → Result ℕ Trap
moved_within len p by size =
    let offset = offset_behind p by size in
    if is_within len offset then Ok (pointer_to (object_of p) (unsigned_abs offset))
    else Err Outside
