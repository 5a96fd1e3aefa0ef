-- What the links of a rack and of its connections tell, and what a log keeps of it.
use Rattle.std.specs.Prelude.{◌≡◌, ◌==◌, ℕ, if◌then◌else◌, Option, Some, IfSome, IsSomeAnd, List, [], ◌∷◌, ◌++◌, slice_get}
use Rattle.std.specs.declared.alloc.Global.{Global}
use Rattle.std.specs.declared.dyn_box.DynBox.{DynBox}
use Rattle.ec_link.specs.declared.connection.Conn.{Conn}
use Rattle.ec_link.specs.declared.logged.Logged.{Logged}
use Rattle.ec_link.specs.declared.slot.Slot.{Slot}
use Rattle.ec_link.specs.Conn.{slot_of, link_of}
use Rattle.ec_link.specs.Logged.{Talk, talk_of}
use Rattle.ec_link.specs.Slot.{talk_at}
use Rattle.ec_link.specs.SlotState.{SlotState, dropped}

-- the talk of the link of slot i, which is in one of the connections or in its slot
abbrev pub told_at : {X : Type 0} {F : X → Type 0} → (DynBox X Global F → Option Talk) →
    List (Slot X F) → List (Conn X F) → ℕ → Option Talk
told_at talk slots [] i = talk_at talk slots i
told_at talk slots (conn ∷ conns) i = if slot_of conn == i then talk (link_of conn)
    else told_at talk slots conns i

-- Given what the link of each slot told before and tells after: each link that is there after and tells its talk told
-- it before, and the talk grew by what the log grew by for its slot.
abbrev pub KeepsTalks : (ℕ → Option Talk) → (ℕ → Option Talk) → List Logged → Type 0
KeepsTalks before after growth =
    (i : ℕ) → IfSome (after i) (λ now. IsSomeAnd (before i) (λ was. now ≡ was ++ talk_of i growth))

-- each slot that was dropped before is dropped after, and the log grew by no exchange of it
abbrev pub SparesDropped : List SlotState → List SlotState → List Logged → Type 0
SparesDropped before after growth =
    (i : ℕ) (name : List ℕ) → slice_get before i ≡ Some (dropped name) →
    (slice_get after i ≡ Some (dropped name)) × (talk_of i growth ≡ [])
