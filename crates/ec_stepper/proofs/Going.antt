-- Steps one behind the other.
use Rattle.std.proofs.Common.{◌≡◌, ◌∙◌, subst, ℕ, List, ◌++◌, map, Option}
use Rattle.std.specs.declared.alloc.Global.{Global}
use Rattle.std.specs.declared.dyn_box.DynBox.{DynBox}
use Rattle.ec_call_defs.specs.Steps.{library_step}
use Rattle.ec_calling.specs.Laws.{noted_both}
use Rattle.ec_calling.specs.Views.{call_view}
use Rattle.ec_code.specs.Views.{program_view}
use Rattle.ec_interp.proofs.Stepping.{shown_all, shows_then}
use Rattle.ec_interp.specs.declared.end.Step.{Step}
use Rattle.ec_interp.specs.declared.end.Step.TheVariants as step
use Rattle.ec_interp.specs.Ends.{halt_of}
use Rattle.ec_interp.specs.Stepping.{Shows}
use Rattle.ec_interp.specs.running.LibraryRuns.{Nears}
use Rattle.ec_link.specs.declared.logged.Logged.{Logged}
use Rattle.ec_link.specs.declared.rack.Rack.{Rack}
use Rattle.ec_link.specs.Logged.{Talk}
use Rattle.ec_link.specs.Rack.{log_of}
use Rattle.ec_link.specs.declared.request.Request.{Request}
use Rattle.ec_meaning_defs.specs.evaluation.Whole.{Observed, program_meaning}
use Rattle.ec_meaning_defs.specs.observed.Observed.{answers_in}
use Rattle.ec_memory_defs.specs.Memory.{Memory}
use Rattle.ec_runtime.proofs.Moving.{moves_both}
use Rattle.ec_runtime.specs.Calling.{conns_of}
use Rattle.ec_runtime.specs.Proceeding.{asked_of, waiting_of}
use Rattle.ec_stepper.specs.declared.machine.Machine.{Machine}
use Rattle.ec_stepper.specs.declared.standing.Standing.{Standing}
use Rattle.ec_stepper.specs.declared.standing.Standing.TheVariants as standing
use Rattle.ec_stepper.specs.Advancing.{Nearer, Reaches, RunsSame, before}
use Rattle.ec_stepper.specs.Ready.{ready_view}
use Rattle.ec_stepper.proofs.Others.{others_stay, others_were}
use Rattle.ec_stepper.specs.Running.{meaning_over, requests_of, said_in}

-- ---- what is shown behind a request

-- of what means the same
further : {O E : Type 0} (held : O → Option (List ℕ)) (puts : O → ℕ) (told : E → Option (List ℕ)) (tells : E → ℕ) (out out' : O) (err err' : E) (z : Standing) (mean mean' : List Logged → Observed) (said all : List Logged) (store : Memory) (asking : Option (Option ℕ × Request)) (result : Step)
    → z ≡ standing.Asks → ((l : List Logged) → mean l ≡ mean' l)
    → Shows held puts told tells out out' err err' (before z (mean said).output) (before z (mean said).errors) (mean all) all store asking result
    → Shows held puts told tells out out' err err' (mean' said).output (mean' said).errors (mean' all) all store asking result
further held puts told tells out out' err err' z mean mean' said all store asking result e same s =
    subst (λ (x : Observed). Shows held puts told tells out out' err err' (mean' said).output (mean' said).errors x all store asking result) (same all)
    (subst (λ (x : Observed). Shows held puts told tells out out' err err' x.output x.errors (mean all) all store asking result) (same said)
    (subst (λ w. Shows held puts told tells out out' err err' (before w (mean said).output) (before w (mean said).errors) (mean all) all store asking result) e s))

-- ---- one step behind the other

module _ {X : Type 0} {F : X → Type 0} where
  means_same : (m m' : Machine X F) → RunsSame m m' → (said : List Logged) → meaning_over m' said ≡ meaning_over m said
  means_same m m' s said = λ j. program_meaning (library_step (map call_view (s.calls j))) (program_view (s.program j)) (s.turns j) (ready_view (s.ready j)) (answers_in said)

  module _ (talk : DynBox X Global F → Option Talk) (faults : DynBox X Global F → ℕ) {O E : Type 0} (held : O → Option (List ℕ)) (puts : O → ℕ) (told : E → Option (List ℕ)) (tells : E → ℕ)
      (m₁ m₂ m₃ : Machine X F) (r₁ r₂ r₃ : Rack X F) (o₁ o₂ o₃ : O) (e₁ e₂ e₃ : E) (result : Step) where
    pub reaches_then : Reaches talk faults held puts told tells m₁ r₁ m₂ r₂ o₁ o₂ e₁ e₂ step.Asks → Reaches talk faults held puts told tells m₂ r₂ m₃ r₃ o₂ o₃ e₂ e₃ result
        → Reaches talk faults held puts told tells m₁ r₁ m₃ r₃ o₁ o₃ e₁ e₃ result
    reaches_then a b =
        let first = meaning_over m₁ (said_in (log_of r₁) m₁) in
        let said = said_in (log_of r₂) m₂ in
        let all = said_in (log_of r₃) m₃ in
        let moves = moves_both talk faults r₁ r₂ r₃ (conns_of m₁.library.connections) (conns_of m₂.library.connections) (conns_of m₃.library.connections) a.growth b.growth a.moves b.moves in
        let s = shown_all held puts told tells o₁ o₂ e₁ e₂ (before m₁.standing first.output) (before m₁.standing first.errors) (meaning_over m₁ said) said m₂.run.frames.store (asked_of (waiting_of m₂.library)) a.shows in
        record {
          growth = a.growth ++ b.growth;
          noted = noted_both (log_of r₁) (log_of r₂) a.growth b.growth m₁.places m₂.places m₃.places a.moves.logged a.noted b.noted;
          moves = moves;
          spares = record {
            stay = others_stay talk faults r₁ r₃ (conns_of m₁.library.connections) (conns_of m₃.library.connections) (a.growth ++ b.growth) moves;
            were = others_were talk faults r₁ r₃ (conns_of m₁.library.connections) (conns_of m₃.library.connections) (a.growth ++ b.growth) moves;
          };
          shows =
              shows_then held puts told tells o₁ o₂ o₃ e₁ e₂ e₃ (before m₁.standing first.output) (before m₁.standing first.errors) (meaning_over m₁ said) said s.0 m₂.run.frames.store s.1 (meaning_over m₁ all) all m₃.run.frames.store (asked_of (waiting_of m₃.library)) result
              (further held puts told tells o₂ o₃ e₂ e₃ m₂.standing (meaning_over m₂) (meaning_over m₁) said all m₃.run.frames.store (asked_of (waiting_of m₃.library)) result a.standing (means_same m₁ m₂ a.same) b.shows);
          same = record {
            program = b.same.program ∙ a.same.program;
            calls = b.same.calls ∙ a.same.calls;
            turns = b.same.turns ∙ a.same.turns;
            ready = b.same.ready ∙ a.same.ready;
          };
          standing = b.standing;
          of = b.of;
          fits = b.fits;
          holds = b.holds;
        }

-- ---- how many steps may come

module _ {X : Type 0} {F : X → Type 0} (m m' : Machine X F) (result : Step) where
  -- from a request on
  pub nears_so : m.standing ≡ standing.Asks → Nearer m.standing result m m' → Nears (halt_of result) m.run.frames.turns m'.run.frames.turns (requests_of m) (requests_of m')
  nears_so e n = subst (λ z. Nearer z result m m') e n
