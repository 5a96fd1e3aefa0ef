-- One more step.
use Rattle.std.proofs.Common.{◌≡◌, refl, List, [], ◌∷◌, ◌++◌}
use Rattle.std.specs.Prelude.{map}
use Rattle.ec_code.specs.Trees.{Step, stepped, walked}
use Rattle.ec_meaning_defs.specs.resolved.Resolved.{Exp}

pub walked_more : {A : Type 0} (f : A → Step) (e : Exp) (xs : List A) (y : A) → walked e (map f (xs ++ y ∷ [])) ≡ stepped (walked e (map f xs)) (f y)
walked_more f e [] y = refl
walked_more f e (x ∷ xs) y = walked_more f (stepped e (f x)) xs y
