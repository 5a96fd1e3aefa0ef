-- A request over the open connection.
use Rattle.std.proofs.Common.{◌≡◌, ℕ, ◌≤◌, Option, Some, None, ap, ◌∙◌}
use Rattle.std.specs.declared.alloc.Global.{Global}
use Rattle.std.specs.declared.dyn_box.DynBox.{DynBox}
use Rattle.ec_link.specs.declared.connection.Conn.{Conn}
use Rattle.ec_link.specs.declared.rack.Rack.{Rack}
use Rattle.ec_link.specs.declared.reply.Tx.{Tx}
use Rattle.ec_link.specs.declared.request.Request.{Request}
use Rattle.ec_link.specs.Calls.{AsksOnce}
use Rattle.ec_link.specs.Conn.{slot_of, link_of}
use Rattle.ec_link.specs.Logged.{Talk, IsAsk, last_reply_of}
use Rattle.ec_link.specs.Rack.{slots_of, log_of}
use Rattle.ec_link.proofs.Runs.{Asks-AsksOnce, last_reply_of-append}
use Rattle.ec_call_defs.specs.Connections.{told_by, with_told}
use Rattle.ec_runtime.specs.declared.open.Open.{Open}
use Rattle.ec_runtime.specs.Opening.{told_or, told_behind, told_after, open_view, Asked}

module _ {X : Type 0} {F : X → Type 0} (talk : DynBox X Global F → Option Talk) (faults : DynBox X Global F → ℕ) where
  -- a connection that knows what a reply told
  told_view : (o : Option Tx) (was : Open X F) (conn : Conn X F) (told : Tx) → slot_of conn ≡ slot_of was.conn → told ≡ told_or o was.told
      → open_view (record was { conn = conn; told = told }) ≡ with_told o (open_view was)
  told_view None was conn told slot e = λ j. record (open_view was) { slot = slot j; told = e j }
  told_view (Some now) was conn told slot e = λ j. record (open_view was) { slot = slot j; told = e j }

  pub asked_from : (request : Request) (old new : Rack X F) (was : Open X F) (conn : Conn X F) (told : Tx)
      → slots_of new ≡ slots_of old → slot_of conn ≡ slot_of was.conn → IsAsk request → faults (link_of was.conn) ≤ faults (link_of conn)
      → AsksOnce talk faults request (log_of old) was.conn (log_of new) conn → told ≡ told_after (log_of new) was.told
      → Asked talk faults request old was new (record was { conn = conn; told = told })
  asked_from request old new was conn told slots slot asks later once e = record {
    reply = once.reply;
    last = last;
    asks = Asks-AsksOnce talk faults request old new was.conn conn slots slot asks later once;
    view = told_view (told_by once.reply) was conn told slot (e ∙ ap (λ r. told_behind r was.told) last);
  }
    where
      last : last_reply_of (log_of new) ≡ Some once.reply
      last = ap last_reply_of once.logged ∙ last_reply_of-append (log_of old) (record { slot = Some (slot_of was.conn); request = request; reply = once.reply })
