-- What is known grows, so types and listed structs stay.
use Rattle.std.proofs.Common.{◌≡◌, ◌∙◌, ℕ, Some, refl, slice_get}
use Rattle.ec_ctypes.specs.trees.Types.{TyData}
use Rattle.ec_typing_defs.specs.Worlds.{World}
use Rattle.ec_sim_world_laws.specs.growth.Growth.{is_unlisted, Grows}
use Rattle.ec_sim_world_laws.specs.place.Structs.{IsListed, ClosedAreListed, Stays, IsWithin}
use Rattle.ec_sim_world_laws.proofs.place_lemmas.Lists.{get_front}

module _ (w z : World) (g : Grows w z) where
  listed_stay : (k : ℕ) (h : IsListed w k) → Stays z k h.info
  listed_stay k h = record {
    there = h.info;
    is = g.structs k h.info h.is (λ j. is_unlisted (h.are j));
    members = refl;
    shape = refl;
  }

  types_stay : (k : ℕ) (t : TyData) → slice_get w.types k ≡ Some t → slice_get z.types k ≡ Some t
  types_stay k t e = (λ j. slice_get (g.types.same j) k) ∙ get_front w.types g.types.rest k e

  pub grown : ClosedAreListed w → ClosedAreListed z → IsWithin w z
  grown here there = record { types = types_stay; stay = listed_stay; here = here; there = there }
