-- What a rack shows of its slots, and what the exchanges of a log do to them.
use Rattle.std.specs.Prelude.{◌≡◌, ℕ, ◌+◌, Bool, true, false, if◌then◌else◌, nat_eq, Option, Some, None, option_map, List, [], ◌∷◌, slice_get, slice_set, position}
use Rattle.std.specs.Cmp.Lexicographic.{pointwise}
use Rattle.ec_link.specs.declared.logged.Logged.{Logged}
use Rattle.ec_link.specs.declared.request.Request.{Request}
use Rattle.ec_link.specs.declared.request.Request.TheVariants.{Connect, Close}
use Rattle.ec_link.specs.declared.reply.Reply.{Reply}
use Rattle.ec_link.specs.declared.reply.Reply.TheVariants.{NoTarget}
use Rattle.ec_link.specs.Reply.{is_connected}

-- a slot without its link: how it stands, and the name of its server
pub data SlotState : Type 0 where
  free : List ℕ → SlotState
  ready : List ℕ → SlotState
  taken : List ℕ → SlotState
  dropped : List ℕ → SlotState

-- whether a slot is free, and its server has that name
abbrev pub is_free : List ℕ → SlotState → Bool
is_free target (free name) = pointwise nat_eq name target
is_free target _ = false

-- the first slot that is free for that server
abbrev pub free_slot : List ℕ → List SlotState → Option ℕ
free_slot target slots = position (is_free target) slots

-- whether a slot is ready
abbrev pub is_ready : SlotState → Bool
is_ready (ready _) = true
is_ready _ = false

-- the first slot that is ready, with its name
abbrev pub ready_slot : List SlotState → Option (ℕ × List ℕ)
ready_slot [] = None
ready_slot (ready name ∷ slots) = Some (0, name)
ready_slot (_ ∷ slots) = option_map (λ found. (found.0 + 1, found.1)) (ready_slot slots)

-- slot i is taken
abbrev pub TakenAt : List SlotState → ℕ → Type 0
TakenAt slots i = (name : List ℕ) × (slice_get slots i ≡ Some (taken name))

-- What one exchange needs of the slots, and what it makes of them. A Connect stands at the first slot that is free for
-- its target, and takes it exactly where it is answered by Connected. It stands at no slot, and is answered by NoTarget,
-- exactly where no slot is free for its target. A Close stands at a taken slot and drops it. Every other exchange
-- stands at a taken slot and leaves the slots.
abbrev pub Exchanged : List SlotState → Option ℕ → Request → Reply → List SlotState → Type 0
Exchanged before None (Connect target _ _) reply after =
    (free_slot target before ≡ None) × (reply ≡ NoTarget) × (after ≡ before)
Exchanged before None _ _ _ = ⊥
Exchanged before (Some i) (Connect target _ _) reply after =
    (free_slot target before ≡ Some i)
    × (after ≡ (if is_connected reply then slice_set before i (taken target) else before))
Exchanged before (Some i) Close _ after =
    (name : List ℕ) × (slice_get before i ≡ Some (taken name))
    × (after ≡ slice_set before i (dropped name))
Exchanged before (Some i) _ _ after = TakenAt before i × (after ≡ before)

-- what a log needs of the slots, and what it makes of them, exchange by exchange
abbrev pub Slots : List SlotState → List Logged → List SlotState → Type 0
Slots before [] after = after ≡ before
Slots before (x ∷ log) after =
    (between : List SlotState) × Exchanged before x.slot x.request x.reply between
    × Slots between log after
