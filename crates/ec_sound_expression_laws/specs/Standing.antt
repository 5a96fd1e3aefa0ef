-- What stands where an expression does: each name in scope is that of an object in scope, or of a function that has its signature.
use Rattle.std.specs.Prelude.{◌≡◌, ◌⊎◌, ℕ, Bool, false, List, Some}
use Rattle.ec_ctypes.specs.trees.Types.{void}
use Rattle.ec_language.specs.Letters.{Text}
use Rattle.ec_typing_defs.specs.Known.{is_reserved}
use Rattle.ec_typing_defs.specs.Tables.{Named}
use Rattle.ec_typing_defs.specs.Worlds.{EntryData, World, look_up}
use Rattle.ec_resolving_defs.specs.Operands.{Found}
use Rattle.ec_resolving_defs.specs.Storage.{Storage, Site, LibraryCall}
use Rattle.ec_sim_program_laws.proofs.types_lemmas.Rules.{Sound}
use Rattle.ec_sound_defs.specs.Sorts.{any_sort}
use Rattle.ec_sound_defs.specs.Sound.{Signature, Has, no_atoms}
use Rattle.ec_sound_defs.specs.Written.{library_atoms}
use Rattle.ec_sound_form_laws.specs.Names.{EntryStands}
use Rattle.ec_sound_form_laws.specs.Fits.{IsValue, FoundFits}

-- ---- names

-- Each name that stands for something does so with so many objects in scope, and is not reserved.
pub record NamesStand (gs : List Signature) (n : ℕ) (sites : List Site) (defined : Named (Unit {0}))
    (w : World) : Type 0 where
  pub defined_there : w.defined ≡ defined
  pub stand : (name : Text) (entry : EntryData) → look_up name w ≡ Some entry
      → EntryStands gs n sites defined name entry
  pub free : (name : Text) (entry : EntryData) → look_up name w ≡ Some entry
      → is_reserved name ≡ false

-- All names have types, too, and all members of structs.
pub record IsStanding (gs : List Signature) (n : ℕ) (written : Bool) (s : Storage) (w : World) : Type 0 where
  pub is_written : w.written ≡ written
  pub sound : Sound w
  pub names : NamesStand gs n s.sites s.defined w

-- ---- what is found out

module _ (gs : List Signature) (calls : List LibraryCall) (n : ℕ) where
  -- It is done without a value: a call of the library, or what is cast to void.
  pub record IsDone (f : Found) : Type 0 where
    pub type : f.operand.type ≡ Some void
    pub no_place : f.operand.is_place ≡ false
    pub no_target : f.operand.is_target ≡ false
    pub no_address : f.is_address ≡ false
    pub form : Has gs (library_atoms gs calls) n any_sort f.exp

  -- It fits, and no call of the library is in it, or it is done without a value.
  abbrev pub Serves : Found → Type 0
  Serves f = FoundFits gs no_atoms n f ⊎ IsDone f

  abbrev pub ServesAsValue : Found → Type 0
  ServesAsValue f = IsValue gs no_atoms n f ⊎ IsDone f
