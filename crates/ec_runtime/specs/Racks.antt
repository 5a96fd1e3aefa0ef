-- A rack and the connections of a library over it: whose slots are taken, and what was said over them.
use Rattle.std.specs.Prelude.{◌≡◌, ◌≢◌, ◌≤◌, ◌==◌, ◌⊎◌, ℕ, if◌then◌else◌, Option, Some, None, IfSome, IsSomeAnd, List, [], ◌∷◌, ◌++◌, map, filter, not, Contains, slice_get}
use Rattle.std.specs.declared.alloc.Global.{Global}
use Rattle.std.specs.declared.dyn_box.DynBox.{DynBox}
use Rattle.ec_base.specs.Causes.{Rose}
use Rattle.ec_link.specs.declared.connection.Conn.{Conn}
use Rattle.ec_link.specs.declared.logged.Logged.{Logged}
use Rattle.ec_link.specs.declared.rack.Rack.{Rack}
use Rattle.ec_link.specs.declared.reply.Reply.{Reply}
use Rattle.ec_link.specs.declared.reply.Reply.TheVariants.{Broken}
use Rattle.ec_link.specs.declared.request.Request.{Request}
use Rattle.ec_link.specs.declared.request.Request.TheVariants.{Connect, Close}
use Rattle.ec_link.specs.declared.slot.Slot.{Slot}
use Rattle.ec_link.specs.declared.slot.Slot.TheVariants.{Free}
use Rattle.ec_link.specs.Calls.{GivesBack}
use Rattle.ec_link.specs.Conn.{slot_of, link_of}
use Rattle.ec_link.specs.Link.{told_more}
use Rattle.ec_link.specs.Logged.{Talk, IsConnect, talk_of}
use Rattle.ec_link.specs.Rack.{slots_of, log_of}
use Rattle.ec_link.specs.Reply.{is_connected}
use Rattle.ec_link.specs.Slot.{states, link_at}
use Rattle.ec_link.specs.SlotState.{SlotState, Slots, TakenAt}

-- ---- the slots of connections that are open, by what was said

-- behind one exchange: a Connect that is answered by Connected opens its slot, and a Close closes it
abbrev pub open_behind : Option ℕ → Request → Reply → List ℕ → List ℕ
open_behind None request reply slots = slots
open_behind (Some i) (Connect target user password) reply slots =
    if is_connected reply then slots ++ i ∷ [] else slots
open_behind (Some i) Close reply slots = filter (λ k. not (k == i)) slots
open_behind (Some i) request reply slots = slots

-- behind a log, in the order in which they were opened
abbrev pub open_in : List ℕ → List Logged → List ℕ
open_in slots [] = slots
open_in slots (x ∷ log) = open_in (open_behind x.slot x.request x.reply slots) log

-- each exchange of a log asks for a connection, or is over the slot of one that is open
abbrev pub AllOwn : List ℕ → List Logged → Type 0
AllOwn slots [] = Unit {0}
AllOwn slots (x ∷ log) = (IsConnect x.request ⊎ IsSomeAnd x.slot (λ i. Contains slots i))
    × AllOwn (open_behind x.slot x.request x.reply slots) log

module _ {X : Type 0} {F : X → Type 0} where
  -- no connection has slot i
  abbrev pub Beside : ℕ → List (Conn X F) → Type 0
  Beside i [] = Unit {0}
  Beside i (conn ∷ conns) = (slot_of conn ≢ i) × Beside i conns

  -- the slot of each connection is taken, and no two connections have one slot
  abbrev pub AllTaken : List SlotState → List (Conn X F) → Type 0
  AllTaken slots [] = Unit {0}
  AllTaken slots (conn ∷ conns) =
      TakenAt slots (slot_of conn) × Beside (slot_of conn) conns × AllTaken slots conns

  -- the link of slot i, which is in one of the connections or in its slot
  abbrev pub link_for : List (Slot X F) → List (Conn X F) → ℕ → Option (DynBox X Global F)
  link_for slots [] i = link_at slots i
  link_for slots (conn ∷ conns) i =
      if slot_of conn == i then Some (link_of conn) else link_for slots conns i

  -- a slot that is free has another link
  pub record HasOther (old new : Option (Slot X F)) : Type 0 where
    pub name : List ℕ
    pub link : DynBox X Global F
    pub other : DynBox X Global F
    pub was : old ≡ Some (Free name link)
    pub now : new ≡ Some (Free name other)

  -- Connections were given back, one after the other: the slot of each is free again, with its link.
  abbrev pub GivesAll : List (Slot X F) → List (Conn X F) → List (Slot X F) → Type 0
  GivesAll before [] after = after ≡ before
  GivesAll before (conn ∷ conns) after =
      (between : List (Slot X F)) × GivesBack before between conn × GivesAll between conns after

  module _ (talk : DynBox X Global F → Option Talk) (faults : DynBox X Global F → ℕ) where
    -- A link was asked these requests and gave these replies: its talk grew by them, and where one was broken, its
    -- count of faults rose.
    pub record Grew (was now : DynBox X Global F) (said : Talk) : Type 0 where
      pub told : talk now ≡ told_more (talk was) said
      pub later : faults was ≤ faults now
      pub broken : Contains (map (λ x. x.1) said) Broken → Rose (faults was) (faults now)

    -- given the link of each slot before and after: each link that is there after is the one that was there before, or
    -- what became of it by what a log has for its slot
    abbrev pub KeepsLinks : (ℕ → Option (DynBox X Global F)) → (ℕ → Option (DynBox X Global F)) →
        List Logged → Type 0
    KeepsLinks before after growth =
        (i : ℕ) → IfSome (after i) (λ now. IsSomeAnd (before i)
        (λ was. Grew was now (talk_of i growth)))

    -- What calls of a library do to a rack and to the connections over it. The log grew by what was said, which asks for
    -- connections or is over those that are open, and the slots and links are what became of them by that. A slot of no connection, over which nothing was said, is as it was, with
    -- its link, and stays of no connection; but a free one's link may have been asked, where it had no memory to answer.
    pub record Moves (old : Rack X F) (was : List (Conn X F))
        (new : Rack X F) (now : List (Conn X F)) (growth : List Logged) : Type 0 where
      pub logged : log_of new ≡ log_of old ++ growth
      pub exchanged : Slots (states (slots_of old)) growth (states (slots_of new))
      pub opened : map slot_of now ≡ open_in (map slot_of was) growth
      pub own : AllOwn (map slot_of was) growth
      pub links : KeepsLinks (link_for (slots_of old) was) (link_for (slots_of new) now) growth
      pub others : (i : ℕ) → Beside i was → talk_of i growth ≡ [] → Beside i now
          × ((slice_get (slots_of new) i ≡ slice_get (slots_of old) i)
          ⊎ HasOther (slice_get (slots_of old) i) (slice_get (slots_of new) i))
