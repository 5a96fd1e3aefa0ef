-- A call from one request to the next, or to its end.
use Rattle.std.proofs.Common.{◌≡◌, ◌∙◌, ◌⊎◌, inl, inr, ◌<◌, ◌≤◌, ℕ, List, [], ◌∷◌, ◌++◌, length, Option, Some, None, Result, Ok, Err, refl, sym, subst, ap, append-nil}
use Rattle.std.specs.Prelude.{take, IfOk, IsSome}
use Rattle.std.specs.declared.alloc.Global.{Global}
use Rattle.std.specs.declared.dyn_box.DynBox.{DynBox}
use Rattle.ec_base.specs.declared.line.Line.{Line}
use Rattle.ec_call_defs.specs.Growth.{Grows}
use Rattle.ec_call_defs.specs.Outcomes.{next}
use Rattle.ec_call_defs.specs.Steps.{settled}
use Rattle.ec_interp.specs.declared.running.library.Progress.TheVariants as progress
use Rattle.ec_interp.specs.running.Sessions.{AsksOnce, Going, Leads, Resumed, holding, placed, saying}
use Rattle.ec_link.specs.declared.logged.Logged.{Logged}
use Rattle.ec_link.specs.declared.rack.Rack.{Rack}
use Rattle.ec_link.specs.declared.request.Request.{Request}
use Rattle.ec_link.specs.Logged.{Talk}
use Rattle.ec_link.specs.Rack.{log_of}
use Rattle.ec_machine.specs.declared.stop.Stop.TheVariants as stop
use Rattle.ec_meaning_defs.specs.evaluation.State.{Answer, State}
use Rattle.ec_meaning_defs.specs.observed.Observed.{answers_in}
use Rattle.ec_memory_defs.specs.Memory.{Memory}
use Rattle.ec_runtime.proofs.Grows.{front_next, same_front}
use Rattle.ec_runtime.proofs.Moving.{moves_not}
use Rattle.ec_runtime.proofs.Whole.{some_waits}
use Rattle.ec_runtime.specs.Calling.{connections_of, conns_of, placed_by}
use Rattle.ec_runtime.specs.Proceeding.{IsAsked, IsOnce, Nears, Resumes, StoppedAt, asked_of, waiting_in, waiting_of}
use Rattle.ec_runtime.specs.Racks.{Moves}
use Rattle.ec_runtime.specs.declared.library.Library.{Library}
use Rattle.ec_runtime.specs.declared.library.Progress.{Progress as Far}
use Rattle.ec_runtime.specs.declared.library.Progress.TheVariants as far
use Rattle.ec_runtime.specs.declared.stop.CallStop.{CallStop}
use Rattle.ec_runtime.specs.declared.stop.CallStop.TheVariants as calls
use Rattle.ec_runtime.specs.declared.waiting.UnderWay.{UnderWay}
use Rattle.ec_stopping_defs.proofs.Growing.{residual_front}
use Rattle.ec_stopping_defs.proofs.Parts.{stepped_so}
use Rattle.ec_stopping_defs.specs.Places.{AllWithin, at_places}
use Rattle.ec_stopping_defs.specs.Resuming.{Asking, going, stepped}
use Rattle.ec_stopping_defs.specs.Saying.{exchange_of}
use Rattle.ec_calling.specs.Laws.{calls_add, settled_state}
use Rattle.ec_calling.specs.Leading.{Moved, places_of}
use Rattle.ec_calling.specs.Making.{answer_of, going_by, going_in, going_of, known_at, known_of}
use Rattle.ec_calling.proofs.Carrying.{From, IsFurther, idle_going, leads_so}
use Rattle.ec_calling.proofs.Noting.{heard_so, noted_so, within_so}

going_grows : (n : ℕ) (u : Option Asking) → Grows (going n u)
going_grows n None s = same_front s.conversation
going_grows n (Some u) s = residual_front n u s

-- one exchange was made, or none
pub said_once : (u : Asking) (r : Result Far CallStop) (growth : List Logged) → IsOnce u r growth → (growth ≡ []) ⊎ (x : Logged) × (growth ≡ x ∷ [])
said_once u (Ok p) growth o = inr (exchange_of u o.0, o.1)
said_once u (Err (calls.Trapped trap)) growth o = inr (exchange_of u o.0, o.1)
said_once u (Err calls.OutOfMemory) growth (inl e) = inl e
said_once u (Err calls.OutOfMemory) growth (inr o) = inr (exchange_of u o.0, o.1)

module _ {X : Type 0} {F : X → Type 0} (talk : DynBox X Global F → Option Talk) (faults : DynBox X Global F → ℕ) where
  module _ (line : Line) (n : ℕ) (u : Asking) (m m' : Memory) (old new : Rack X F) (was now : Library X F) (before after : List ℕ) (r : Result Far CallStop) (p : Resumes talk faults n u m old was m' new now r)
      (said : at_places (log_of new) after ≡ at_places (log_of old) before ++ p.growth) where
    -- after want of memory
    left_so : (r' : Result Far CallStop) → StoppedAt (stepped n u) (placed_by m was) p.growth r' → (s : State) (rest : List Answer) → r' ≡ Err calls.OutOfMemory
        → IsFurther (From line n (stepped n u (placed_by m was (answers_in p.growth ++ rest) s))) (placed_by m' now rest (saying p.growth s))
    left_so (Ok x) l s rest e = absurd (cc (e))
    left_so (Err (calls.Trapped trap)) l s rest e = absurd (cc (e))
    left_so (Err calls.OutOfMemory) l s rest e =
        let part = stepped n u (placed_by m was (answers_in p.growth ++ rest) s) in
        let front = front_next (s.conversation ++ p.growth) part (going n) (l s rest) (going_grows n) in
        (front.rest, ap (λ (t : State). t.conversation) (sym (settled_state line.0 (next part (going n)))) ∙ front.same)

    by_it : Resumed (going_by (n, u)) line.0 m (known_of old was before) m' (known_of new now after) (going_of now) (answer_of line r)
    by_it = record {
      growth = p.growth;
      carried = λ turns. record {
        said = said;
        does = λ w first s rest.
            let t : State = record s { turns = turns } in
            let from : State = placed_by m was (answers_in p.growth ++ rest) t in
            let to : State = placed_by m' now rest (saying p.growth t) in
            subst (λ o. Leads line.0 (answer_of line r) (going_of now) o to) (sym (ap (settled line.0) (stepped_so n u from)))
            (leads_so line n r (waiting_of now) (stepped n u from) to (p.proceeds t rest) (left_so r p.left t rest));
      };
    }

    abbrev Goes : Option Going → Type 0
    Goes None = Unit {0}
    Goes (Some g) = Resumed g line.0 m (known_of old was before) m' (known_of new now after) (going_of now) (answer_of line r)

    pub resumed_so : waiting_of was ≡ Some (n, u) → (g : Going) → going_of was ≡ Some g → Resumed g line.0 m (known_of old was before) m' (known_of new now after) (going_of now) (answer_of line r)
    resumed_so is g e = subst Goes (sym (ap going_in is) ∙ e) by_it

    asked_so : IsAsked u p.growth → (e : Logged) × (at_places (log_of new) after ≡ at_places (log_of old) before ++ e ∷ [])
    asked_so o = (exchange_of u o.0, said ∙ ap (λ g. at_places (log_of old) before ++ g) o.1)

    once_so : (r' : Result Far CallStop) → IsOnce u r' p.growth → AsksOnce (answer_of line r') (known_of old was before) (known_of new now after)
    once_so (Ok x) o = asked_so o
    once_so (Err (calls.Trapped trap)) o = asked_so o
    once_so (Err calls.OutOfMemory) (inl e) = inr (said ∙ ap (λ g. at_places (log_of old) before ++ g) e ∙ append-nil (at_places (log_of old) before))
    once_so (Err calls.OutOfMemory) (inr o) = inl (asked_so o)

    pub once_of : AsksOnce (answer_of line r) (known_of old was before) (known_of new now after)
    once_of = once_so r p.once

-- fewer requests are left
pub nearer : (line : Line) (r : Result Far CallStop) (before after : ℕ) → Nears r before after → IfOk (answer_of line r) (λ p. p ≡ progress.Asks → after < before)
nearer line (Ok far.Asks) before after h = λ e. h
nearer line (Ok far.Done) before after h = λ e. absurd (cc (e))
nearer line (Err (calls.Trapped trap)) before after h = tt
nearer line (Err calls.OutOfMemory) before after h = tt

-- ---- nothing was asked, for want of memory

pub still_at : {X : Type 0} {F : X → Type 0} (log : List Logged) (was now : Library X F) → now.connections ≡ was.connections → now.areas ≡ was.areas → known_at log now ≡ known_at log was
still_at log was now links areas = λ j. Some (record { connections = connections_of (links j); current = (links j).current; descriptors = areas j; log = log })

module _ {X : Type 0} {F : X → Type 0} (rack : Rack X F) (was now : Library X F) (before after : List ℕ) (links : now.connections ≡ was.connections) (areas : now.areas ≡ was.areas) (idle : now.under_way ≡ None) (same : after ≡ before) where
  still_known : known_of rack now after ≡ known_of rack was before
  still_known = λ j. Some (record { connections = connections_of (links j); current = (links j).current; descriptors = areas j; log = at_places (log_of rack) (same j) })

  pub unasked : (line : ℕ) (m : Memory) (g : Going) → going_of was ≡ Some g → Resumed g line m (known_of rack was before) m (known_of rack now after) (going_of now) (Err stop.OutOfMemory)
  unasked line m g e =
      subst (λ x. Resumed g line m (known_of rack was before) m x (going_of now) (Err stop.OutOfMemory)) (sym still_known)
      (record {
        growth = [];
        carried = λ turns. record {
          said = sym (append-nil (at_places (log_of rack) before));
          does = λ w first s rest.
              let from : State = holding m turns (placed (known_of rack was before) rest s) in
              let a = calls_add (waiting_of was) g e line from in
              subst (λ k. Leads line (Err stop.OutOfMemory) k (g line from) (holding m turns (placed (known_of rack was before) rest (saying [] s)))) (sym (idle_going now idle))
              (a.said.0, a.said.1 ∙ ap (λ c. c ++ a.said.0) (sym (append-nil s.conversation)));
        };
      })

  pub unasked_once : AsksOnce (Err stop.OutOfMemory) (known_of rack was before) (known_of rack now after)
  unasked_once = inr (λ j. at_places (log_of rack) (same j))

  pub unasked_moved : (talk : DynBox X Global F → Option Talk) (faults : DynBox X Global F → ℕ) → Moved talk faults rack was before rack now after
  unasked_moved talk faults = record {
    growth = [];
    moves = subst (λ it. Moves talk faults rack (conns_of was.connections) rack (conns_of it) []) (sym links) (moves_not talk faults rack rack (conns_of was.connections) refl refl);
    noted = same ∙ sym (append-nil before);
  }

-- ---- whether one waits

module _ {X : Type 0} {F : X → Type 0} (it : Library X F) where
  pub waits_there : (a : Option ℕ × Request) → Some a ≡ asked_of (waiting_of it) → IsSome it.under_way
  waits_there a e = go it.under_way e
    where
      go : (o : Option UnderWay) → Some a ≡ asked_of (waiting_in (connections_of it.connections) o) → IsSome o
      go None e = absurd (cc (e))
      go (Some w) e = refl

-- ---- the request was made, and its place noted

module _ {X : Type 0} {F : X → Type 0} (talk : DynBox X Global F → Option Talk) (faults : DynBox X Global F → ℕ) (line : Line) (m m' : Memory) (old new : Rack X F) (was now : Library X F) (before among after : List ℕ) (at later count : ℕ) (r : Result Far CallStop)
    (waits : IsSome was.under_way) (resumes : (n : ℕ) (u : Asking) → waiting_of was ≡ Some (n, u) → Resumes talk faults n u m old was m' new now r) (within : AllWithin (length (log_of old)) before)
    (here : at ≡ length (log_of old)) (there : later ≡ length (log_of new)) (many : count ≡ length before) (pushed : among ≡ before ++ at ∷ []) (said : at < later → after ≡ among) (unsaid : later ≤ at → after ≡ take count among) where
  abbrev asking : Asking
  asking = (some_waits was waits).1

  abbrev number : ℕ
  number = (some_waits was waits).0

  part : Resumes talk faults number asking m old was m' new now r
  part = resumes number asking (some_waits was waits).2

  noted : after ≡ before ++ places_of (length (log_of old)) part.growth
  noted =
      noted_so (log_of old) (log_of new) part.growth before among after at count here many pushed part.moves.logged
      (λ h. said (subst (λ n. at < n) (sym there) h)) (λ h. unsaid (subst (λ n. n ≤ at) (sym there) h)) (said_once asking r part.growth part.once)

  heard_there : at_places (log_of new) after ≡ at_places (log_of old) before ++ part.growth
  heard_there = heard_so (log_of old) (log_of new) part.growth before after within part.moves.logged noted

  pub asked_resumed : (g : Going) → going_of was ≡ Some g → Resumed g line.0 m (known_of old was before) m' (known_of new now after) (going_of now) (answer_of line r)
  asked_resumed = resumed_so talk faults line number asking m m' old new was now before after r part heard_there (some_waits was waits).2

  pub asked_once : AsksOnce (answer_of line r) (known_of old was before) (known_of new now after)
  asked_once = once_of talk faults line number asking m m' old new was now before after r part heard_there

  pub asked_moved : Moved talk faults old was before new now after
  asked_moved = record { growth = part.growth; moves = part.moves; noted = noted }

  pub asked_within : AllWithin (length (log_of new)) after
  asked_within = within_so (log_of old) (log_of new) part.growth before after within part.moves.logged noted
