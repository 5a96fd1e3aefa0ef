-- PREPARE and DEALLOCATE over the open connection.
use Rattle.std.proofs.Common.{◌≡◌, ℕ, List, [], Option, Result, Ok, Err, refl, sym, ap, ◌∙◌, arith}
use Rattle.std.specs.declared.alloc.Global.{Global}
use Rattle.std.specs.declared.dyn_box.DynBox.{DynBox}
use Rattle.ec_link.specs.declared.rack.Rack.{Rack}
use Rattle.ec_link.specs.declared.request.Request.{Request}
use Rattle.ec_link.specs.Conn.{slot_of}
use Rattle.ec_link.specs.Logged.{Talk}
use Rattle.ec_link.proofs.Runs.{Asks-nil}
use Rattle.ec_memory_defs.specs.Memory.{Memory}
use Rattle.ec_meaning_defs.specs.evaluation.State.{Connection, State}
use Rattle.ec_call_defs.specs.Answers.{taken}
use Rattle.ec_call_defs.specs.Connections.{asked, changed_at}
use Rattle.ec_call_defs.specs.Growth.{Grows}
use Rattle.ec_call_defs.specs.Inputs.{given_read}
use Rattle.ec_call_defs.specs.Marks.{with_marks}
use Rattle.ec_call_defs.specs.Outcomes.{Text, Outcome, gives, next, with_memory}
use Rattle.ec_call_defs.specs.Preparing.{prepared_anew}
use Rattle.ec_runtime.specs.declared.inputs.GivenText.{GivenText}
use Rattle.ec_runtime.specs.declared.open.Open.{Open}
use Rattle.ec_runtime.specs.declared.prepared.Prepared.{Prepared}
use Rattle.ec_runtime.specs.declared.stop.Stop.{Stop}
use Rattle.ec_runtime.specs.declared.stop.Stop.TheVariants as stops
use Rattle.ec_runtime.specs.Does.{among, placed, seen, Over}
use Rattle.ec_runtime.specs.Opening.{open_view}
use Rattle.ec_runtime.specs.Prepared.{prepared_views}
use Rattle.ec_runtime.specs.Reading.{given_view}
use Rattle.ec_runtime.specs.Says.{Quiet}
use Rattle.ec_runtime.specs.Statements.{request_taken, changed_behind, marks_read}
use Rattle.ec_runtime.proofs.Grows.{same_front, next_grows, asked_grows, taken_grows}
use Rattle.ec_runtime.proofs.Joining.{quiet, same_action, changed_among, no_memory, over_next, over_stop}
use Rattle.ec_runtime.proofs.Targets.{stopped_next}

-- ---- what only adds

pub taken_request_grows : (line : ℕ) (asks : Request) (slot : ℕ) → Grows (request_taken line asks slot)
taken_request_grows line asks slot = next_grows (asked slot asks) (λ reply t. taken line reply t) (asked_grows slot asks) (λ reply. taken_grows line reply)

abbrev Change : Type 0
Change = List (Text × Text) → List (Text × Text)

-- the prepared statements of a slot are changed
abbrev pub changing : ℕ → Change → State → Outcome (Unit {0})
changing slot change s = gives tt (prepared_anew slot change s)

changing_grows : (slot : ℕ) (change : Change) → Grows (changing slot change)
changing_grows slot change s = same_front s.conversation

-- ---- what is sent for the text of PREPARE

module _ (given : GivenText) (m : Memory) where
  pub marks_stop : (stop : Stop) → Quiet {A = Text} (Err stop) (given_read (given_view given)) m m → Quiet {A = Text} (Err stop) (marks_read given) m m
  marks_stop stop q s = stopped_next stop (given_read (given_view given) (with_memory m s)) (with_memory m s) (λ bytes t. gives (with_marks bytes) t) (q s)

  pub marks_given : (bytes lent made : Text) → lent ≡ bytes → made ≡ with_marks lent → Quiet (Ok bytes) (given_read (given_view given)) m m → Quiet (Ok made) (marks_read given) m m
  marks_given bytes lent made e is q s = (λ j. next (q s j) (λ b t. gives (with_marks b) t)) ∙ (λ j. gives ((ap with_marks (sym e) ∙ sym is) j) (with_memory m s))

-- ---- over the open connection

module _ {X : Type 0} {F : X → Type 0} (talk : DynBox X Global F → Option Talk) (faults : DynBox X Global F → ℕ) where
  -- the connection of this slot has other prepared statements
  changed_over : (change : Change) (slot : ℕ) (m : Memory) (rack : Rack X F) (o : Open X F) (ps : List Prepared) → slot ≡ slot_of o.conn → prepared_views ps ≡ change (prepared_views o.prepared)
      → Over talk faults (changing slot change) m rack o m rack (record o { prepared = ps }) (Ok (tt {0}))
  changed_over change slot m rack o ps e is = record {
    growth = [];
    asks = Asks-nil talk faults rack rack o.conn o.conn refl refl refl refl (omega arith);
    named = refl;
    does = λ around apart.
        same_action (changing slot change) (λ s. gives tt s) (seen around m o) (seen around m (record o { prepared = ps })) (seen around m (record o { prepared = ps })) [] (Ok tt)
        (λ s answers j. gives tt (record (placed (seen around m o) answers s) {
          connections = (ap (λ n. changed_at n anew (among around (open_view o))) e ∙ changed_among anew (open_view o) around.before around.behind apart
              ∙ (λ k. among around (record (open_view o) { prepared = sym is k }))) j;
        }))
        (quiet (λ s. gives tt s) (seen around m (record o { prepared = ps })) m (Ok tt) (λ s. same_front s.conversation) (λ s. refl));
  }
    where
      anew : Connection → Connection
      anew c = record c { prepared = change c.prepared }

  -- there was no memory to change them
  unchanged_over : (change : Change) (slot : ℕ) (m : Memory) (rack : Rack X F) (o : Open X F) (ps : List Prepared)
      → Over {X = X} {F = F} talk faults {A = Unit {0}} (changing slot change) m rack o m rack (record o { prepared = ps }) (Err stops.OutOfMemory)
  unchanged_over change slot m rack o ps = record {
    growth = [];
    asks = Asks-nil talk faults rack rack o.conn o.conn refl refl refl refl (omega arith);
    named = refl;
    does = λ around apart. no_memory (changing slot change) (seen around m o) (seen around m (record o { prepared = ps })) (changing_grows slot change);
  }

  module _ (line : ℕ) (asks : Request) (change : Change) (m m' : Memory) (old new : Rack X F) (was now : Open X F) where
    abbrev Taken : Result (Unit {0}) Stop → Type 0
    Taken r = Over talk faults (request_taken line asks (slot_of was.conn)) m old was m' new now r

    pub change_stops : (stop : Stop) → Taken (Err stop) → Over {X = X} {F = F} talk faults {A = Unit {0}} (changed_behind line asks change (open_view was)) m old was m' new now (Err stop)
    change_stops stop p =
        over_stop talk faults (request_taken line asks (slot_of was.conn)) (λ _ t. changing (slot_of was.conn) change t) m m' old was new now stop (λ _. changing_grows (slot_of was.conn) change) p

    pub change_kept : (ps : List Prepared) → prepared_views ps ≡ change (prepared_views now.prepared) → Taken (Ok tt)
        → Over talk faults (changed_behind line asks change (open_view was)) m old was m' new (record now { prepared = ps }) (Ok (tt {0}))
    change_kept ps is p =
        over_next talk faults (request_taken line asks (slot_of was.conn)) (λ _ t. changing (slot_of was.conn) change t) m m' m' old was new now new (record now { prepared = ps }) tt (Ok tt) p
        (changed_over change (slot_of was.conn) m' new now ps (sym p.asks.slot) is)

    pub change_unkept : (ps : List Prepared) → Taken (Ok tt)
        → Over {X = X} {F = F} talk faults {A = Unit {0}} (changed_behind line asks change (open_view was)) m old was m' new (record now { prepared = ps }) (Err stops.OutOfMemory)
    change_unkept ps p =
        over_next talk faults (request_taken line asks (slot_of was.conn)) (λ _ t. changing (slot_of was.conn) change t) m m' m' old was new now new (record now { prepared = ps }) tt (Err stops.OutOfMemory) p
        (unchanged_over change (slot_of was.conn) m' new now ps)
