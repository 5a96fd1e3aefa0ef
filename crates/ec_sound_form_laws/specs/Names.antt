-- What names stand for: an object that has its place among those in scope, or a function that has its signature.
use Rattle.std.specs.Prelude.{◌≡◌, ◌<◌, ℕ, true, List, length, slice_get, Option, Some, None, is_some}
use Rattle.ec_ctypes.specs.trees.Types.{TyData}
use Rattle.ec_language.specs.Letters.{Text}
use Rattle.ec_typing_defs.specs.Tables.{Named, find}
use Rattle.ec_typing_defs.specs.Worlds.{EntryData, object, function}
use Rattle.ec_resolving_defs.specs.Operands.{place_in}
use Rattle.ec_resolving_defs.specs.Storage.{Site, numbered, slotted, nowhere}
use Rattle.ec_sound_defs.specs.Sorts.{Sort, any_sort}
use Rattle.ec_sound_defs.specs.Sound.{Signature}
use Rattle.ec_sound_defs.specs.Types.{type_sort}

-- the sort of what a function gives
abbrev pub gives_of : Option TyData → Sort
gives_of None = any_sort
gives_of (Some t) = type_sort t

abbrev pub signature_of : Option TyData → List (Option TyData) → Signature
signature_of r ps = record { takes = length ps; gives = gives_of r }

-- an object of the program, or one of so many that are in scope
abbrev pub SiteStands : ℕ → Option Site → Type 0
SiteStands n None = ⊥
SiteStands n (Some (numbered k)) = Unit {0}
SiteStands n (Some (slotted i)) = i < n
SiteStands n (Some nowhere) = ⊥

-- By the signatures, how many objects are in scope, where declarations are, and the functions that are defined: one of these has the signature of its parameters, which are known.
abbrev pub EntryStands : List Signature → ℕ → List Site → Named (Unit {0}) → Text → EntryData → Type 0
EntryStands gs n sites defined name (object k global t) = SiteStands n (slice_get sites k)
EntryStands gs n sites defined name (function k done r None) = ⊥
EntryStands gs n sites defined name (function k done r (Some ps)) =
    is_some (find name defined) ≡ true
    → slice_get gs (place_in name defined) ≡ Some (signature_of r ps)
