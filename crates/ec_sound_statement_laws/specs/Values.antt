-- Values that are returned, and values that initialize objects: where nothing is wrong by the rule, each is of the sort that is wanted.
use Rattle.std.specs.Prelude.{◌≡◌, ◌<◌, ℕ, [], List, Option, Some, replicate}
use Rattle.ec_ctypes.specs.trees.Exprs.{ExprData}
use Rattle.ec_ctypes.specs.trees.Types.{TyData}
use Rattle.ec_typing_defs.specs.Initializers as checked
use Rattle.ec_typing_defs.specs.Statements.{return_rule, return_nothing}
use Rattle.ec_typing_defs.specs.Worlds.{Place, World}
use Rattle.ec_meaning_defs.specs.resolved.Resolved.{slot, Exps}
use Rattle.ec_resolving_defs.specs.Conversions.{as_known_type}
use Rattle.ec_resolving_defs.specs.Initializers.{PartData, parts_stored, stored_at, Left, goal_of}
use Rattle.ec_resolving_defs.specs.Operands.{Found}
use Rattle.ec_resolving_defs.specs.Storage.{Storage}
use Rattle.ec_sound_defs.specs.Sorts.{any_sort}
use Rattle.ec_sound_defs.specs.Sound.{Signature, Atoms, Has, HasEach, count_of}
use Rattle.ec_sound_defs.specs.Types.{type_sort}
use Rattle.ec_sound_form_laws.specs.Fits.{IsValue}

-- a function without a result gives any
abbrev pub NothingIsReturned : Type 0
NothingIsReturned = (w : World) (at : Place) (s : TyData)
    → (return_nothing at (Some s) w).found ≡ [] → type_sort s ≡ any_sort

module _ (signatures : List Signature) (atoms : Atoms) (n : ℕ) where
  -- as the type of its function
  abbrev pub ReturnsFit : Type 0
  ReturnsFit = (w : World) (at : Place) (s : TyData) (f : Found) → IsValue signatures atoms n f
      → (return_rule at (Some s) f.operand w).found ≡ []
      → Has signatures atoms n (type_sort s) (as_known_type f.operand.type (Some s) f.exp)

  -- whatever they give, nothing reads it
  abbrev pub AllAreDone : Exps → Type 0
  AllAreDone es = HasEach signatures atoms n (replicate (count_of es) any_sort) es

  -- the parts of an object of a function
  abbrev pub AreStored : ℕ → List PartData → Type 0
  AreStored i ps = AllAreDone (parts_stored (slot i) ps)

  -- one expression initializes the object
  abbrev pub ValuesAreStored : Type 0
  ValuesAreStored = (s : Storage) (w z : World) (at : Place) (i : ℕ) (t : Option TyData)
      (e : ExprData) (f : Found) → i < n → IsValue signatures atoms n f
      → (checked.single_by at t f.operand z).found ≡ [] → AreStored i (stored_at 0 t e f s w).answer

  -- or a part of it
  abbrev pub PartsAreStored : Type 0
  PartsAreStored = (s : Storage) (w z : World) (at : Place) (i : ℕ) (l : Left) (e : ExprData)
      (f : Found) → i < n → IsValue signatures atoms n f
      → (checked.part_rule at l.frames f.operand z).found ≡ []
      → AreStored i (stored_at (goal_of f.operand l z).offset (goal_of f.operand l z).type e f s w).answer
