-- What a list ends as, where a `&mut` to one of its elements is handed out.
use Rattle.std.specs.Prelude.{ℕ, List, Option, ◌-◌, length, slice_set}
use Rattle.std.specs.Borrow.{LendsIf, Fml, RattleType, MutBor}
use Rattle.ec_base.specs.contracts.list.List.{the_row}

module _ (T : RattleType) (list : MutBor (List T.Denot)) where
  -- once the borrow ends, the place `at` has what was written last, and without one the list is as it was
  abbrev pub lends_item : ℕ → Option (MutBor T.Denot) → Fml
  lends_item at r = LendsIf (the_row T) T list r (slice_set list.now at) list.now

  -- the same for the last element
  abbrev pub lends_last : Option (MutBor T.Denot) → Fml
  lends_last r = lends_item (length list.now - 1) r
