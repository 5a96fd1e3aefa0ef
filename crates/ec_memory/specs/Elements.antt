-- The parts of elements.
use Rattle.std.specs.Prelude.{◌≡◌, ℕ, ◌+◌, ◌*◌}
use Rattle.std.specs.Borrow.{MutBor}
use Rattle.ec_bytes.specs.declared.scalar.Scalar.{Ghosts}
use Rattle.ec_memory_defs.specs.Memory.{Memory}
use Rattle.ec_memory.specs.declared.elements.Elements.{Elements}

module _ {T : Type 0} {g : Ghosts T} where
  -- the reference to the memory that the elements lie in
  abbrev pub elements_store : Elements T g → MutBor Memory
  elements_store e = e.store

  -- that memory
  abbrev pub elements_memory : Elements T g → Memory
  elements_memory e = e.store.now

  -- how many elements there are
  abbrev pub elements_count : Elements T g → ℕ
  elements_count e = e.count

  -- the pointer to element i
  abbrev pub element_at : Elements T g → ℕ → ℕ
  element_at e i = e.ptr.0 + i * e.step

  -- the same elements of the same memory
  abbrev pub IsSameElements : Elements T g → Elements T g → Type 0
  IsSameElements e f = (f.store.ghost_name ≡ e.store.ghost_name)
      × (f.ptr.0 ≡ e.ptr.0) × (f.count ≡ e.count) × (f.step ≡ e.step)
