-- Binding the statements of a program, one after the other.
use Rattle.std.specs.Prelude.{◌≡◌, ⊤, ℕ, List, [], ◌∷◌, ◌++◌, slice_get, Some, Result, Ok, Err}
use Rattle.ec_base.specs.declared.stop.Stop.{Stop}
use Rattle.ec_base.specs.declared.stop.Stop.TheVariants.{Refused, Limit, OutOfMemory}
use Rattle.ec_ctypes.specs.declared.checked.bound.Bound.{Bound}
use Rattle.ec_ctypes.specs.trees.Checked.{BoundData, TypedData}
use Rattle.ec_ctypes.specs.trees.Embedded.{EmbData}
use Rattle.ec_ctypes.specs.views.Checked.{bound_view}
use Rattle.ec_host_defs.specs.Bound.{bound_answer}

-- the statement of this number is bound so, or has this fault
pub record IsBoundAs (t : TypedData) (number : ℕ) (answer : Result BoundData Stop) : Type 0 where
  pub statement : EmbData
  pub at : slice_get t.unit.embs number ≡ Some statement
  pub is : bound_answer t number statement ≡ answer

-- what is bound for a statement stands behind what was there
pub record IsNext (t : TypedData) (number : ℕ) (old new : List Bound) : Type 0 where
  pub bound : Bound
  pub behind : new ≡ old ++ bound ∷ []
  pub is : IsBoundAs t number (Ok (bound_view bound))

-- it is there, or the statement has this fault
abbrev pub AddsBound : TypedData → ℕ → List Bound → List Bound → Result (Unit {0}) Stop → Type 0
AddsBound t number old new (Ok done) = IsNext t number old new
AddsBound t number old new (Err (Refused kind line)) = IsBoundAs t number (Err (Refused kind line))
AddsBound t number old new (Err (Limit limit)) = IsBoundAs t number (Err (Limit limit))
AddsBound t number old new (Err OutOfMemory) = ⊤
