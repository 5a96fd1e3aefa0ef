-- What the calls of a rack do.
use Rattle.std.specs.Prelude.{◌≡◌, ◌≢◌, ◌≤◌, ℕ, Option, Some, None, List, [], ◌∷◌, ◌++◌, All, Contains, slice_get, slice_set, IfSome, IsSomeAnd, ◌⊎◌}
use Rattle.std.specs.declared.alloc.Global.{Global}
use Rattle.std.specs.declared.dyn_box.DynBox.{DynBox}
use Rattle.ec_base.specs.Causes.{Rose}
use Rattle.ec_link.specs.declared.connection.Conn.{Conn}
use Rattle.ec_link.specs.declared.logged.Logged.{Logged}
use Rattle.ec_link.specs.declared.rack.Rack.{Rack}
use Rattle.ec_link.specs.declared.reply.Reply.{Reply}
use Rattle.ec_link.specs.declared.reply.Reply.TheVariants.{Connected, NoTarget, Broken}
use Rattle.ec_link.specs.declared.request.Request.{Request}
use Rattle.ec_link.specs.declared.request.Request.TheVariants.{Close}
use Rattle.ec_link.specs.declared.slot.Slot.{Slot}
use Rattle.ec_link.specs.declared.slot.Slot.TheVariants.{Free, Ready, Taken, Dropped}
use Rattle.ec_link.specs.Conn.{slot_of, link_of}
use Rattle.ec_link.specs.Link.{told_more, talk_after}
use Rattle.ec_link.specs.Logged.{Talk, IsAsk, target_of, talk_of, replies_of}
use Rattle.ec_link.specs.Rack.{slots_of, log_of}
use Rattle.ec_link.specs.Slot.{states, link_at, talk_at}
use Rattle.ec_link.specs.SlotState.{free_slot, ready_slot}

module _ {X : Type 0} {F : X → Type 0} where
  -- the first ready slot becomes taken, and its link is that of the connection
  pub record TakesReady (old new : List (Slot X F)) (conn : Conn X F) : Type 0 where
    pub name : List ℕ
    pub first : ready_slot (states old) ≡ Some (slot_of conn, name)
    pub was : slice_get old (slot_of conn) ≡ Some (Ready name (link_of conn))
    pub now : new ≡ slice_set old (slot_of conn) (Taken name)

  -- the connection's slot was taken, and is free again, with the connection's link
  pub record GivesBack (old new : List (Slot X F)) (conn : Conn X F) : Type 0 where
    pub name : List ℕ
    pub was : slice_get old (slot_of conn) ≡ Some (Taken name)
    pub now : new ≡ slice_set old (slot_of conn) (Free name (link_of conn))

  -- the first slot that is free for a server becomes taken, and its link is that of the connection
  pub record TakesFree (target : List ℕ)
      (old new : List (Slot X F)) (conn : Conn X F) : Type 0 where
    pub first : free_slot target (states old) ≡ Some (slot_of conn)
    pub was : slice_get old (slot_of conn) ≡ Some (Free target (link_of conn))
    pub now : new ≡ slice_set old (slot_of conn) (Taken target)

  -- slot i was taken, and is dropped
  pub record DropsSlot (i : ℕ) (old new : List (Slot X F)) : Type 0 where
    pub name : List ℕ
    pub was : slice_get old i ≡ Some (Taken name)
    pub now : new ≡ slice_set old i (Dropped name)

  -- A Connect for a server that no slot is free for: NoTarget is logged without a slot, and no slot changes.
  pub record FindsNone (request : Request) (old new : Rack X F) : Type 0 where
    pub none : free_slot (target_of request) (states (slots_of old)) ≡ None
    pub logged : log_of new
        ≡ log_of old ++ record { slot = None; request = request; reply = NoTarget } ∷ []
    pub slots : slots_of new ≡ slots_of old

  module _ (talk : DynBox X Global F → Option Talk) (faults : DynBox X Global F → ℕ) where
    -- the connection's link answered the request, and the log and the link's talk grew by that exchange
    pub record AsksOnce (request : Request) (old : List Logged)
        (was : Conn X F) (new : List Logged) (now : Conn X F) : Type 0 where
      pub reply : Reply
      pub logged : new
          ≡ old ++ record { slot = Some (slot_of was); request = request; reply = reply } ∷ []
      pub told : talk (link_of now) ≡ talk_after (talk (link_of was)) request reply
      pub broken : reply ≡ Broken → Rose (faults (link_of was)) (faults (link_of now))

    -- Any number of asks of one connection, one after another: the log and the link's talk grew by the same exchanges,
    -- and where one was broken, the link's count of faults rose.
    pub record Asks (old : Rack X F) (was : Conn X F) (new : Rack X F)
        (now : Conn X F) (growth : List Logged) : Type 0 where
      pub slots : slots_of new ≡ slots_of old
      pub slot : slot_of now ≡ slot_of was
      pub logged : log_of new ≡ log_of old ++ growth
      pub asked : All (λ x. (x.slot ≡ Some (slot_of was)) × IsAsk x.request) growth
      pub told : talk (link_of now) ≡ told_more (talk (link_of was)) (talk_of (slot_of was) growth)
      pub later : faults (link_of was) ≤ faults (link_of now)
      pub broken : Contains (replies_of growth) Broken →
          Rose (faults (link_of was)) (faults (link_of now))

    -- a link answered a request with that reply, and the log, at slot i, and the link's talk grew by that exchange
    pub record Answers (i : ℕ) (request : Request) (reply : Reply) (old : List Logged)
        (was : DynBox X Global F) (new : List Logged) (now : DynBox X Global F) : Type 0 where
      pub logged : new ≡ old ++ record { slot = Some i; request = request; reply = reply } ∷ []
      pub told : talk now ≡ talk_after (talk was) request reply
      pub later : faults was ≤ faults now
      pub broken : reply ≡ Broken → Rose (faults was) (faults now)

    -- A Connect that opened a connection: the link that stood in the first slot that is free for the server answered
    -- Connected. It is that of the connection, and its slot, and no other, became taken.
    pub record Connects (request : Request) (old new : Rack X F) (conn : Conn X F) : Type 0 where
      pub link : DynBox X Global F
      pub first : free_slot (target_of request) (states (slots_of old)) ≡ Some (slot_of conn)
      pub was : slice_get (slots_of old) (slot_of conn) ≡ Some (Free (target_of request) link)
      pub answered : Answers (slot_of conn) request Connected
          (log_of old) link (log_of new) (link_of conn)
      pub now : slots_of new ≡ slice_set (slots_of old) (slot_of conn) (Taken (target_of request))

    -- A Connect that opened none: that link answered something else, and is back in its slot, which is free as before.
    pub record Declines (request : Request) (old new : Rack X F) : Type 0 where
      pub slot : ℕ
      pub link : DynBox X Global F
      pub back : DynBox X Global F
      pub reply : Reply
      pub first : free_slot (target_of request) (states (slots_of old)) ≡ Some slot
      pub was : slice_get (slots_of old) slot ≡ Some (Free (target_of request) link)
      pub answered : Answers slot request reply (log_of old) link (log_of new) back
      pub declined : reply ≢ Connected
      pub now : slots_of new ≡ slice_set (slots_of old) slot (Free (target_of request) back)

    -- A Connect that opened no connection: no slot was free for the server, or the link of the first one declined.
    abbrev pub OpensNone : Request → Rack X F → Rack X F → Type 0
    OpensNone request old new = FindsNone request old new ⊎ Declines request old new

    -- A Connect for which there was no memory: nothing was said, and the slots stand as before. Each but the first one
    -- that is free for the server has the same link.
    pub record Unsaid (request : Request) (old new : Rack X F) : Type 0 where
      pub log : log_of new ≡ log_of old
      pub slots : states (slots_of new) ≡ states (slots_of old)
      pub told : (i : ℕ) → talk_at talk (slots_of new) i ≡ talk_at talk (slots_of old) i
      pub later : (i : ℕ) → IfSome (link_at (slots_of new) i)
          (λ now. IsSomeAnd (link_at (slots_of old) i) (λ was. faults was ≤ faults now))
      pub others : (i : ℕ) → free_slot (target_of request) (states (slots_of old)) ≢ Some i →
          slice_get (slots_of new) i ≡ slice_get (slots_of old) i

    -- A connection was closed: its link, as it was when it was let go, answered Close, and its slot, which was taken, is
    -- dropped. No other slot changed.
    pub record Closes (old : Rack X F) (conn : Conn X F) (new : Rack X F) : Type 0 where
      pub link : DynBox X Global F
      pub reply : Reply
      pub answered : Answers (slot_of conn) Close reply
          (log_of old) (link_of conn) (log_of new) link
      pub dropped : DropsSlot (slot_of conn) (slots_of old) (slots_of new)
