-- Lists that grow.
use Rattle.std.proofs.Common.{◌≡◌, List, ◌++◌, append_assoc}

pub append_group : {A : Type 0} (xs ys zs : List A) → (xs ++ ys) ++ zs ≡ xs ++ (ys ++ zs)
append_group xs ys zs = append_assoc xs ys zs
