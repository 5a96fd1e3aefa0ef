-- What is left of a list after one more element.
use Rattle.std.proofs.Common.{◌≡◌, ◌+◌, ◌≤◌, ℕ, List, length, drop, sym, ap, ◌∙◌}
use Rattle.std.proofs.lemmas.List.{drop-drop, drop_all}

pub drop_next : {A : Type 0} (xs : List A) (given : ℕ) → drop (given + 1) xs ≡ drop 1 (drop given xs)
drop_next xs given = sym (drop-drop 1 given xs)

pub drop_end : {A : Type 0} (xs : List A) (given : ℕ) → length xs ≤ given → drop given xs ≡ drop 1 (drop given xs)
drop_end xs given le = drop_all given xs le ∙ sym (ap (drop 1) (drop_all given xs le))
