-- An input that was not read.
use Rattle.std.proofs.Common.{◌≡◌, ℕ, List, [], sym, subst, arith, Option}
use Rattle.ec_base.proofs.Transfers.{Reads-none}
use Rattle.ec_meaning_defs.specs.observed.Headline.{ReadsWithin}

pub unread_within : {I : Type 0} (left : I → Option (List ℕ)) (reads : I → ℕ) (input input' : I) → input' ≡ input → ReadsWithin (left input) (left input')
unread_within left reads input input' same = subst (λ i. ReadsWithin (left input) (left i)) (sym same) (record { bytes = []; taken = (Reads-none {left = left} {faults = reads} input).taken; bounded = omega arith })
