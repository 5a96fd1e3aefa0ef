-- Written C whose calls of the library serve: each list of arguments is a call, and each pointer among them that is evaluated with the call gives an address.
use Rattle.std.specs.Prelude.{◌≡◌, ℕ, zero, suc, Bool, true, List, [], ◌∷◌, slice_get, Option, Some, None, is_some}
use Rattle.ec_arguments.specs.Arguments.{Arg, symbol, literal, null, int_constant, long_constant, pointer, stray}
use Rattle.ec_arguments.specs.Rules.{cut}
use Rattle.ec_ctypes.specs.declared.checked.library.LibName.{LibName}
use Rattle.ec_meaning_defs.specs.resolved.Resolved.{Exp}
use Rattle.ec_sound_defs.specs.Sorts.{address_sort}
use Rattle.ec_sound_defs.specs.Sound.{Signature, Atoms, Has, no_atoms}

-- what is seen of arguments without their pointers
abbrev pub without_pointer : {A : Type 0} → Arg A → Arg (Unit {0})
without_pointer (symbol s) = symbol s
without_pointer (literal bytes) = literal bytes
without_pointer null = null
without_pointer (int_constant n) = int_constant n
without_pointer (long_constant n) = long_constant n
without_pointer (pointer a) = pointer tt
without_pointer stray = stray

abbrev pub shape : {A : Type 0} → List (Arg A) → List (Arg (Unit {0}))
shape [] = []
shape (a ∷ args) = without_pointer a ∷ shape args

abbrev pub any : {A : Type 0} → A → Bool
any a = true

-- the list is a call, whatever its pointers are
abbrev pub IsCall : {A : Type 0} → LibName → List (Arg A) → Type 0
IsCall name args = is_some (cut any name (shape args)) ≡ true

module _ (signatures : List Signature) where
  -- With so many objects in scope, and so many of the pointers evaluated before the call, the others give addresses. They hold no call of the library
  abbrev pub Serve : ℕ → ℕ → List (Arg Exp) → Type 0
  Serve n m [] = Unit {0}
  Serve n m (symbol s ∷ args) = Serve n m args
  Serve n m (literal bytes ∷ args) = Serve n m args
  Serve n m (null ∷ args) = Serve n m args
  Serve n m (int_constant z ∷ args) = Serve n m args
  Serve n m (long_constant z ∷ args) = Serve n m args
  Serve n zero (pointer e ∷ args) = Has signatures no_atoms n address_sort e × Serve n zero args
  Serve n (suc m) (pointer e ∷ args) = Serve n m args
  Serve n m (stray ∷ args) = ⊥

  abbrev pub CallServes : ℕ → ℕ → Option (LibName × List (Arg Exp)) → Type 0
  CallServes n m None = ⊥
  CallServes n m (Some call) = IsCall call.0 call.1 × Serve n m call.1

  -- what only the step of written C knows
  abbrev pub library_atoms : List (LibName × List (Arg Exp)) → Atoms
  library_atoms calls = record {
    embeds = λ a n. ⊥;
    calls = λ n i m. CallServes n m (slice_get calls i);
  }
