-- What a deed is for.
use Rattle.std.specs.Prelude.{◌≡◌, ℕ}
use denote.RawPtr.{Ptr}
use Rattle.ec_raw.specs.declared.room.Deed.{Deed}

-- the deed is for the block of `len` places that begins at `at`, which `alloc` gave
abbrev pub IsDeedFor : {T A : Type 0} → Deed T A → Ptr → ℕ → A → Type 0
IsDeedFor deed at len alloc = (deed.at ≡ at) × (deed.len ≡ len) × (deed.alloc ≡ alloc)
