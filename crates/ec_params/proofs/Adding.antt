-- Places that are put behind others.
use Rattle.std.proofs.Common.{◌≡◌, ℕ, List, [], ◌++◌, map, drop, refl, sym, ap, ◌∙◌, append_assoc}
use Rattle.std.proofs.lemmas.List.{append-nil}
use Rattle.ec_ctypes.specs.declared.checked.bound.Place.{Place}
use Rattle.ec_ctypes.specs.trees.Checked.{PlaceData}
use Rattle.ec_ctypes.specs.views.Checked.{place_view}
use Rattle.ec_host_defs.specs.Bound.{Made, made, then}
use Rattle.ec_host_defs.specs.Programs.{Denoted}
use Rattle.ec_params.specs.Adding.{Adds}

abbrev pub Makes : Type 0
Makes = Denoted → Made (List PlaceData)

abbrev pub behind : Makes → Makes → Makes
behind f g ds = then (λ a b. a ++ b) (f ds) g

pub nothing : {ds : Denoted} {at : ℕ} {ps : List Place} → Adds ds at at ps ps (λ ds. made [] ds)
nothing {ds} {at} {ps} = record { places = sym (append-nil (map place_view ps)); left = refl }

-- these, and then those
pub after : {ds : Denoted} {a b c : ℕ} {xs ys zs : List Place} {f g : Makes} → Adds ds a b xs ys f → Adds ds b c ys zs g → Adds ds a c xs zs (behind f g)
after {ds} {a} {b} {c} {xs} {ys} {zs} {f} {g} p q = record {
  places = q.places ∙ (λ i. p.places i ++ (g (p.left i)).made) ∙ append_assoc (map place_view xs) (f (drop a ds)).made (g (f (drop a ds)).left).made;
  left = q.left ∙ ap (λ es. (g es).left) p.left;
}

-- All these places were to be put behind, and those are left to be.
pub record Onward (ds : Denoted) (at now : ℕ) (old new : List Place) (all left : Makes) : Type 0 where
  pub places : map place_view new ++ (left (drop now ds)).made ≡ map place_view old ++ (all (drop at ds)).made
  pub end : (left (drop now ds)).left ≡ (all (drop at ds)).left

pub onward_start : {ds : Denoted} {at : ℕ} {ps : List Place} {f : Makes} → Onward ds at at ps ps f f
onward_start = record { places = refl; end = refl }

pub onward_step : {ds : Denoted} {at a b : ℕ} {xs ys zs : List Place} {all f g : Makes} → Onward ds at a xs ys all (behind f g) → Adds ds a b ys zs f → Onward ds at b xs zs all g
onward_step {ds} {at} {a} {b} {xs} {ys} {zs} {all} {f} {g} o p = record {
  places = (λ i. p.places i ++ (g (p.left i)).made) ∙ append_assoc (map place_view ys) (f (drop a ds)).made (g (f (drop a ds)).left).made ∙ o.places;
  end = ap (λ es. (g es).left) p.left ∙ o.end;
}

pub onward_end : {ds : Denoted} {at a : ℕ} {xs ys : List Place} {all : Makes} → Onward ds at a xs ys all (λ ds. made [] ds) → Adds ds at a xs ys all
onward_end {ds} {at} {a} {xs} {ys} {all} o = record { places = sym (append-nil (map place_view ys)) ∙ o.places; left = o.end }

pub ruleset adding = (nothing, after)
