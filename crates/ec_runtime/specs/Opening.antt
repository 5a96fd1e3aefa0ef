-- An open connection, and what a request over it does.
use Rattle.std.specs.Prelude.{◌≡◌, ℕ, List, [], ◌∷◌, Option, Some, None}
use Rattle.std.specs.declared.alloc.Global.{Global}
use Rattle.std.specs.declared.dyn_box.DynBox.{DynBox}
use Rattle.ec_link.specs.declared.logged.Logged.{Logged}
use Rattle.ec_link.specs.declared.rack.Rack.{Rack}
use Rattle.ec_link.specs.declared.reply.Reply.{Reply}
use Rattle.ec_link.specs.declared.reply.Tx.{Tx}
use Rattle.ec_link.specs.declared.request.Request.{Request}
use Rattle.ec_link.specs.Calls.{Asks}
use Rattle.ec_link.specs.Conn.{slot_of}
use Rattle.ec_link.specs.Logged.{Talk, last_reply_of}
use Rattle.ec_link.specs.Rack.{log_of}
use Rattle.ec_meaning_defs.specs.evaluation.State.{Connection}
use Rattle.ec_call_defs.specs.Connections.{told_by, with_told, exchange}
use Rattle.ec_runtime.specs.declared.open.Open.{Open}
use Rattle.ec_runtime.specs.Prepared.{prepared_views}

-- what was told last, behind a reply
abbrev pub told_or : Option Tx → Tx → Tx
told_or None told = told
told_or (Some now) told = now

abbrev pub told_behind : Option Reply → Tx → Tx
told_behind None told = told
told_behind (Some reply) told = told_or (told_by reply) told

-- behind the last reply of a log
abbrev pub told_after : List Logged → Tx → Tx
told_after log told = told_behind (last_reply_of log) told

module _ {X : Type 0} {F : X → Type 0} where
  -- a connection
  abbrev pub open_view : Open X F → Connection
  open_view o = record {
    name = o.name;
    slot = slot_of o.conn;
    autocommit = o.autocommit;
    told = o.told;
    prepared = prepared_views o.prepared;
  }

  module _ (talk : DynBox X Global F → Option Talk) (faults : DynBox X Global F → ℕ) where
    -- a request was answered: the log and the link's talk grew by the exchange, and the connection knows what the reply tells
    pub record Asked (request : Request) (old : Rack X F)
        (was : Open X F) (new : Rack X F) (now : Open X F) : Type 0 where
      pub reply : Reply
      pub last : last_reply_of (log_of new) ≡ Some reply
      pub asks : Asks talk faults old was.conn new now.conn
          (exchange (Some (slot_of was.conn)) request reply ∷ [])
      pub view : open_view now ≡ with_told (told_by reply) (open_view was)
