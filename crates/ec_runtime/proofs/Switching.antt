-- Autocommit over the open connection.
use Rattle.std.proofs.Common.{◌≡◌, ℕ, Bool, [], Ok, Err, refl, sym, ap, ◌∙◌, arith}
use Rattle.std.specs.Prelude.{Option}
use Rattle.std.specs.declared.alloc.Global.{Global}
use Rattle.std.specs.declared.dyn_box.DynBox.{DynBox}
use Rattle.ec_link.specs.declared.rack.Rack.{Rack}
use Rattle.ec_link.specs.declared.request.Request.{Request}
use Rattle.ec_link.specs.Conn.{slot_of}
use Rattle.ec_link.specs.Logged.{Talk}
use Rattle.ec_link.proofs.Runs.{Asks-nil}
use Rattle.ec_memory_defs.specs.Memory.{Memory}
use Rattle.ec_meaning_defs.specs.evaluation.State.{Connection, State}
use Rattle.ec_call_defs.specs.Autocommit.{with_autocommit, switched}
use Rattle.ec_call_defs.specs.Connections.{changed_at}
use Rattle.ec_call_defs.specs.Growth.{Grows}
use Rattle.ec_call_defs.specs.Outcomes.{Outcome, gives}
use Rattle.ec_runtime.specs.declared.open.Open.{Open}
use Rattle.ec_runtime.specs.declared.stop.Stop.{Stop}
use Rattle.ec_runtime.specs.Does.{among, placed, seen, Over}
use Rattle.ec_runtime.specs.Opening.{open_view}
use Rattle.ec_runtime.specs.Resuming.{over_done, request_controlled}
use Rattle.ec_runtime.specs.declared.waiting.Behind.TheVariants as behinds
use Rattle.ec_runtime.proofs.Grows.{same_front}
use Rattle.ec_runtime.proofs.Joining.{quiet, same_action, changed_among, over_next, over_stop}

switched_grows : (on : Bool) (c : Connection) → Grows (switched on c)
switched_grows on c s = same_front s.conversation

module _ {X : Type 0} {F : X → Type 0} (talk : DynBox X Global F → Option Talk) (faults : DynBox X Global F → ℕ) where
  -- the connection of this slot is switched
  switched_over : (on : Bool) (c : Connection) (m : Memory) (rack : Rack X F) (o : Open X F) → c.slot ≡ slot_of o.conn → Over talk faults (switched on c) m rack o m rack (record o { autocommit = on }) (Ok (tt {0}))
  switched_over on c m rack o e = record {
    growth = [];
    asks = Asks-nil talk faults rack rack o.conn o.conn refl refl refl refl (omega arith);
    named = refl;
    does = λ around apart.
        same_action (switched on c) (λ s. gives tt s) (seen around m o) (seen around m (record o { autocommit = on })) (seen around m (record o { autocommit = on })) [] (Ok tt)
        (λ s answers j. gives tt (record (placed (seen around m o) answers s) {
          connections = (ap (λ n. changed_at n (with_autocommit on) (among around (open_view o))) e ∙ changed_among (with_autocommit on) (open_view o) around.before around.behind apart) j;
        }))
        (quiet (λ s. gives tt s) (seen around m (record o { autocommit = on })) m (Ok tt) (λ s. same_front s.conversation) (λ s. refl));
  }

  -- `commit` was carried out, or it wasn't
  module _ (line : ℕ) (on : Bool) (r : Request) (m m' : Memory) (old new : Rack X F) (was now : Open X F) where
    abbrev first : State → Outcome (Unit {0})
    first s = request_controlled line (slot_of was.conn) r s

    pub commit_behind : Over talk faults first m old was m' new now (Ok (tt {0})) → Over talk faults (over_done line (slot_of was.conn) r (behinds.Committed on)) m old was m' new (record now { autocommit = on }) (Ok (tt {0}))
    commit_behind p = over_next talk faults first (λ _ t. switched on (open_view was) t) m m' m' old was new now new (record now { autocommit = on }) tt (Ok tt) p (switched_over on (open_view was) m' new now (sym p.asks.slot))

    pub commit_not : (stop : Stop) → Over {X = X} {F = F} talk faults {A = Unit {0}} first m old was m' new now (Err stop) → Over {X = X} {F = F} talk faults {A = Unit {0}} (over_done line (slot_of was.conn) r (behinds.Committed on)) m old was m' new now (Err stop)
    commit_not stop p = over_stop talk faults first (λ _ t. switched on (open_view was) t) m m' old was new now stop (λ _. switched_grows on (open_view was)) p
