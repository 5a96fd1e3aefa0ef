-- A whole call, from its start and its requests.
use Rattle.std.proofs.Common.{◌≡◌, ℕ, List, [], ◌++◌, Option, Some, None, Result, Ok, Err, refl, sym, subst, ap, ◌∙◌, append-nil, append_assoc}
use Rattle.std.specs.Prelude.{IsSome}
use Rattle.std.specs.declared.alloc.Global.{Global}
use Rattle.std.specs.declared.dyn_box.DynBox.{DynBox}
use Rattle.ec_link.specs.declared.logged.Logged.{Logged}
use Rattle.ec_link.specs.declared.rack.Rack.{Rack}
use Rattle.ec_link.specs.Logged.{Talk}
use Rattle.ec_memory_defs.specs.Memory.{Memory}
use Rattle.ec_meaning_defs.specs.observed.Observed.{answers_in}
use Rattle.ec_meaning_defs.specs.observed.Run.{IsFront}
use Rattle.ec_meaning_defs.specs.evaluation.State.{Answer, State}
use Rattle.ec_meaning_defs.specs.evaluation.Results.{on}
use Rattle.ec_meaning_defs.specs.evaluation.Agree.{state_of as state_of_run}
use Rattle.ec_arguments.specs.Arguments.{Cut}
use Rattle.ec_call_defs.specs.Growth.{Grows, state_of}
use Rattle.ec_call_defs.specs.Library.{cut_done}
use Rattle.ec_call_defs.proofs.library_step_lemmas.Keeping.{cut_grows}
use Rattle.ec_call_defs.specs.Outcomes.{Outcome, finished, gives, next, over}
use Rattle.ec_call_defs.specs.Steps.{settled}
use Rattle.ec_stopping_defs.specs.Resuming.{Asking, going, residual, started, stepped}
use Rattle.ec_stopping_defs.proofs.Growing.{residual_front}
use Rattle.ec_stopping_defs.proofs.Parts.{cut_so, stepped_so}
use Rattle.ec_runtime.specs.declared.library.Library.{Library}
use Rattle.ec_runtime.specs.declared.library.Progress.{Progress}
use Rattle.ec_runtime.specs.declared.library.Progress.TheVariants as progress
use Rattle.ec_runtime.specs.declared.stop.CallStop.{CallStop}
use Rattle.ec_runtime.specs.declared.stop.CallStop.TheVariants as calls
use Rattle.ec_runtime.specs.declared.waiting.UnderWay.{UnderWay}
use Rattle.ec_runtime.specs.Calling.{Answers, Stopped, Carries, Called, Stays, connections_of, conns_of, placed_by}
use Rattle.ec_runtime.specs.Does.{Placing, saying}
use Rattle.ec_runtime.specs.Proceeding.{waiting_in, waiting_of, IsEnd, Proceeds, Resumes, Starts, StoppedAt}
use Rattle.ec_runtime.specs.Racks.{Moves}
use Rattle.ec_runtime.specs.Waiting.{asking_of}
use Rattle.ec_runtime.proofs.Calls.{asking_or, nowhere_yet}
use Rattle.ec_runtime.proofs.Grows.{front_next, same_front}
use Rattle.ec_runtime.proofs.Joining.{answers-append, said_both, said_nothing}
use Rattle.ec_runtime.proofs.Moving.{moves_both, moves_not}

-- how a call answers that asks no further
abbrev ended_by : Result Progress CallStop → Result (Unit {0}) CallStop
ended_by (Ok p) = Ok tt
ended_by (Err stop) = Err stop

module _ (line : ℕ) where
  at_end : (o : Outcome (Option Asking)) (s : State) → IsEnd o s → (here : ℕ) → settled here (next o (going line)) ≡ on s
  at_end (gives None t) s e here = ap on e
  at_end (gives (Some u) t) s e here = absurd e
  at_end (finished t) s e here = ap on e
  at_end (over halt t) s e here = absurd e

  -- from where it is no further request
  answers_end : (result : Result Progress CallStop) (kept : Option (ℕ × Asking)) (o : Outcome (Option Asking)) (s : State) → (result ≡ Ok progress.Asks → ⊥) → Proceeds result kept line o s → Answers (ended_by result) (next o (going line)) s
  answers_end (Ok progress.Asks) kept o s never h = absurd (never refl)
  answers_end (Ok progress.Done) kept o s never h = at_end o s h.1
  answers_end (Err (calls.Trapped trap)) kept o s never h = λ here j. settled here (next (h.1 j) (going line))
  answers_end (Err calls.OutOfMemory) kept o s never h = tt

  -- the request that it asks is the same from every state
  pub asked_same : (kept : Option (ℕ × Asking)) (u : Asking) (o : Outcome (Option Asking)) (s : State) → kept ≡ Some (line, u) → Proceeds (Ok progress.Asks) kept line o s → o ≡ gives (Some u) s
  asked_same kept u o s e h =
      let both : Some (line, h.0) ≡ Some (line, u) = sym h.1 ∙ e in
      let same : h.0 ≡ u = ap (asking_or u) both in
      h.2 ∙ (λ j. gives (Some (same j)) s)

-- a call only adds to what was said
settled_state : (o : Outcome (Unit {0})) → state_of o ≡ state_of_run (settled 0 o)
settled_state (gives x s) = refl
settled_state (finished s) = refl
settled_state (over halt s) = refl

call_grows : (c : Cut ℕ) → Grows (cut_done c)
call_grows c s = let g = (cut_grows 0 c s).said in record { rest = g.0; same = ap (λ (t : State). t.conversation) (settled_state (cut_done c s)) ∙ g.1 }

going_grows : (line : ℕ) (u : Option Asking) → Grows (going line u)
going_grows line None s = same_front s.conversation
going_grows line (Some u) s = residual_front line u s

-- after want of memory
stopped_so : (action : State → Outcome (Unit {0})) (part : State → Outcome (Option Asking)) (line : ℕ) (from : Placing) (growth : List Logged) (result : Result Progress CallStop) → ((s : State) → action s ≡ next (part s) (going line))
    → StoppedAt part from growth result → Stopped action from growth (ended_by result)
stopped_so action part line from growth (Ok p) e l = tt
stopped_so action part line from growth (Err (calls.Trapped trap)) e l = tt
stopped_so action part line from growth (Err calls.OutOfMemory) e l = λ s rest.
    subst (λ o. IsFront (s.conversation ++ growth) (state_of o).conversation) (sym (e (from (answers_in growth ++ rest) s)))
    (front_next (s.conversation ++ growth) (part (from (answers_in growth ++ rest) s)) (going line) (l s rest) (going_grows line))

-- one part, and then what is called behind it
stopped_next : (action behind : State → Outcome (Unit {0})) (from mid : Placing) (g h : List Logged) (result : Result (Unit {0}) CallStop)
    → ((s : State) (rest : List Answer) → action (from (answers_in (g ++ h) ++ rest) s) ≡ behind (mid (answers_in h ++ rest) (saying g s))) → Stopped behind mid h result → Stopped action from (g ++ h) result
stopped_next action behind from mid g h (Ok x) e l = tt
stopped_next action behind from mid g h (Err (calls.Trapped trap)) e l = tt
stopped_next action behind from mid g h (Err calls.OutOfMemory) e l = λ s rest.
    subst (λ c. IsFront c (state_of (action (from (answers_in (g ++ h) ++ rest) s))).conversation) (append_assoc s.conversation g h)
    (subst (λ o. IsFront ((s.conversation ++ g) ++ h) (state_of o).conversation) (sym (e s rest)) (l (saying g s) rest))

carries_next : (action behind : State → Outcome (Unit {0})) (from mid to : Placing) (g h : List Logged) (result : Result (Unit {0}) CallStop)
    → ((s : State) (rest : List Answer) → action (from (answers_in (g ++ h) ++ rest) s) ≡ behind (mid (answers_in h ++ rest) (saying g s))) → Carries behind mid to h result → Carries action from to (g ++ h) result
carries_next action behind from mid to g h result e p = record {
  says = λ s rest.
      subst (λ o. Answers result o (to rest (saying (g ++ h) s))) (sym (e s rest))
      (subst (λ t. Answers result (behind (mid (answers_in h ++ rest) (saying g s))) (to rest t)) (said_both g h s) (p.says (saying g s) rest));
  left = stopped_next action behind from mid g h result e p.left;
}

module _ {X : Type 0} {F : X → Type 0} (talk : DynBox X Global F → Option Talk) (faults : DynBox X Global F → ℕ) where
  module _ (line : ℕ) (u : Asking) (m m1 m' : Memory) (old mid new : Rack X F) (was between now : Library X F) where
    -- it asks no further
    pub resumed_end : (result : Result Progress CallStop) → (result ≡ Ok progress.Asks → ⊥) → Resumes talk faults line u m old was m1 mid between result → Called talk faults (residual line u) m old was m1 mid between (ended_by result)
    resumed_end result never p = record {
      growth = p.growth;
      moves = p.moves;
      carries = record {
        says = λ s rest.
            subst (λ o. Answers (ended_by result) o (placed_by m1 between rest (saying p.growth s))) (sym (stepped_so line u (placed_by m was (answers_in p.growth ++ rest) s)))
            (answers_end line result (waiting_of between) (stepped line u (placed_by m was (answers_in p.growth ++ rest) s)) (placed_by m1 between rest (saying p.growth s)) never (p.proceeds s rest));
        left = stopped_so (residual line u) (stepped line u) line (placed_by m was) p.growth result (stepped_so line u) p.left;
      };
    }

    -- it asks this next
    pub resumed_on : (v : Asking) (r : Result (Unit {0}) CallStop) → waiting_of between ≡ Some (line, v) → Resumes talk faults line u m old was m1 mid between (Ok progress.Asks)
        → Called talk faults (residual line v) m1 mid between m' new now r → Called talk faults (residual line u) m old was m' new now r
    resumed_on v r e p q = record {
      growth = p.growth ++ q.growth;
      moves = moves_both talk faults old mid new (conns_of was.connections) (conns_of between.connections) (conns_of now.connections) p.growth q.growth p.moves q.moves;
      carries = carries_next (residual line u) (residual line v) (placed_by m was) (placed_by m1 between) (placed_by m' now) p.growth q.growth r
          (λ s rest.
          (λ j. residual line u (placed_by m was (answers-append p.growth q.growth rest j) s))
          ∙ stepped_so line u (placed_by m was (answers_in p.growth ++ (answers_in q.growth ++ rest)) s)
          ∙ (λ j. next (asked_same line (waiting_of between) v (stepped line u (placed_by m was (answers_in p.growth ++ (answers_in q.growth ++ rest)) s)) (placed_by m1 between (answers_in q.growth ++ rest) (saying p.growth s)) e (p.proceeds s (answers_in q.growth ++ rest)) j) (going line)))
          q.carries;
    }

  module _ (c : Cut ℕ) (m m1 m' : Memory) (old new : Rack X F) (was mid now : Library X F) (stays : Stays was.connections mid.connections) where
    stayed : Moves talk faults old (conns_of was.connections) old (conns_of mid.connections) []
    stayed = subst (λ cs. Moves talk faults old (conns_of was.connections) old cs []) (sym stays.links) (moves_not talk faults old old (conns_of was.connections) refl refl)

    -- it asks nothing
    pub started_end : (result : Result Progress CallStop) → (result ≡ Ok progress.Asks → ⊥) → Starts c m was m1 mid result → Called talk faults (cut_done c) m old was m1 old mid (ended_by result)
    started_end result never p = record {
      growth = [];
      moves = stayed;
      carries = record {
        says = λ s rest.
            subst (λ t. Answers (ended_by result) (cut_done c (placed_by m was rest s)) (placed_by m1 mid rest t)) (sym (said_nothing s))
            (subst (λ o. Answers (ended_by result) o (placed_by m1 mid rest s)) (sym (cut_so c (placed_by m was rest s)))
            (answers_end c.line result (waiting_of mid) (started c (placed_by m was rest s)) (placed_by m1 mid rest s) never (p s rest)));
        left = unsaid result;
      };
    }
      where
        unsaid : (result : Result Progress CallStop) → Stopped (cut_done c) (placed_by m was) [] (ended_by result)
        unsaid (Ok x) = tt
        unsaid (Err (calls.Trapped trap)) = tt
        unsaid (Err calls.OutOfMemory) = λ s rest. subst (λ xs. IsFront xs (state_of (cut_done c (placed_by m was rest s))).conversation) (sym (append-nil s.conversation)) (call_grows c (placed_by m was rest s))

    -- it asks this first
    pub started_on : (u : Asking) (r : Result (Unit {0}) CallStop) → waiting_of mid ≡ Some (c.line, u) → Starts c m was m1 mid (Ok progress.Asks)
        → Called talk faults (residual c.line u) m1 old mid m' new now r → Called talk faults (cut_done c) m old was m' new now r
    started_on u r e p q = record {
      growth = q.growth;
      moves = moves_both talk faults old old new (conns_of was.connections) (conns_of mid.connections) (conns_of now.connections) [] q.growth stayed q.moves;
      carries = carries_next (cut_done c) (residual c.line u) (placed_by m was) (placed_by m1 mid) (placed_by m' now) [] q.growth r
          (λ s rest.
          cut_so c (placed_by m was (answers_in q.growth ++ rest) s)
          ∙ (λ j. next (asked_same c.line (waiting_of mid) u (started c (placed_by m was (answers_in q.growth ++ rest) s)) (placed_by m1 mid (answers_in q.growth ++ rest) s) e (p s (answers_in q.growth ++ rest)) j) (going c.line))
          ∙ (λ j. residual c.line u (placed_by m1 mid (answers_in q.growth ++ rest) (sym (said_nothing s) j))))
          q.carries;
    }

    -- what it asks
    pub started_asks : Starts c m was m1 mid (Ok progress.Asks) → (u : Asking) × (waiting_of mid ≡ Some (c.line, u))
    started_asks p = let h = p nowhere_yet [] in (h.0, h.1)

  module _ (line : ℕ) (u : Asking) (m m1 : Memory) (old mid : Rack X F) (was between : Library X F) where
    pub resumed_asks : Resumes talk faults line u m old was m1 mid between (Ok progress.Asks) → (v : Asking) × (waiting_of between ≡ Some (line, v))
    resumed_asks p = let h = p.proceeds nowhere_yet [] in (h.0, h.1)

module _ {X : Type 0} {F : X → Type 0} (it : Library X F) where
  -- what waits
  pub some_waits : IsSome it.under_way → (line : ℕ) × (u : Asking) × (waiting_of it ≡ Some (line, u))
  some_waits h = go it.under_way h
    where
      go : (o : Option UnderWay) → IsSome o → (line : ℕ) × (u : Asking) × (waiting_in (connections_of it.connections) o ≡ Some (line, u))
      go None h = absurd (cc (h))
      go (Some w) h = (w.line.0, asking_of (connections_of it.connections) w.waiting, refl)

  pub waits_some : (line : ℕ) (u : Asking) → waiting_of it ≡ Some (line, u) → IsSome it.under_way
  waits_some line u e = go it.under_way e
    where
      go : (o : Option UnderWay) → waiting_in (connections_of it.connections) o ≡ Some (line, u) → IsSome o
      go None e = absurd (cc (e))
      go (Some w) e = refl

-- answers that ask no further
abbrev pub NoMore : Result Progress CallStop → Type 0
NoMore result = result ≡ Ok progress.Asks → ⊥

pub err_no : (stop : CallStop) → NoMore (Err stop)
err_no stop e = cc (e)

pub done_no : NoMore (Ok progress.Done)
done_no e = cc (e)
