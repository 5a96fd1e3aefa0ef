-- Facts on tests.
use Rattle.std.proofs.Common.{◌≡◌, Bool, true, false, refl, subst}
use Rattle.std.specs.Prelude.{◌&&◌}

abbrev clash : Bool → Type 0
clash true = ⊥
clash false = Unit {0}

-- false isn't true
pub no_clash : {A : Type 0} → false ≡ true → A
no_clash e = absurd (subst clash e tt)

pub left_true : (a b : Bool) → (a && b) ≡ true → a ≡ true
left_true true b e = refl
left_true false b e = no_clash e

pub right_true : (a b : Bool) → (a && b) ≡ true → b ≡ true
right_true true b e = e
right_true false b e = no_clash e
