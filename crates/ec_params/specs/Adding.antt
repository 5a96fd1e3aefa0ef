-- Places and texts that are put behind others, while the names of a statement are gone through.
use Rattle.std.specs.Prelude.{◌≡◌, ◌++◌, ℕ, List, map, drop}
use Rattle.ec_ctypes.specs.declared.checked.bound.Place.{Place}
use Rattle.ec_ctypes.specs.trees.Checked.{PlaceData}
use Rattle.ec_ctypes.specs.trees.Exprs.{ExprData}
use Rattle.ec_ctypes.specs.views.Checked.{place_view}
use Rattle.ec_host_defs.specs.Bound.{Made}
use Rattle.ec_host_defs.specs.Leaves.{Pair, paired}
use Rattle.ec_host_defs.specs.Programs.{Denoted}
use Rattle.ec_params.specs.declared.places.Leaves.{Leaves}
use Rattle.ec_leaves.specs.Seen.{leaf_view}

-- these places are put behind the others, and these names are left
pub record Adds (ds : Denoted) (at next : ℕ) (old new : List Place)
    (f : Denoted → Made (List PlaceData)) : Type 0 where
  pub places : map place_view new ≡ map place_view old ++ (f (drop at ds)).made
  pub left : drop next ds ≡ (f (drop at ds)).left

-- this is made, and these names are left
pub record MakesText (ds : Denoted) (at next : ℕ)
    (e : ExprData) (f : Denoted → Made ExprData) : Type 0 where
  pub text : e ≡ (f (drop at ds)).made
  pub left : drop next ds ≡ (f (drop at ds)).left

-- leaves with those of their indicators
abbrev pub pairs_in : Leaves → List Pair
pairs_in l = paired (map leaf_view l.own) (map leaf_view l.inner)
