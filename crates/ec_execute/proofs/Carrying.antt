-- A program over the first ready slot of a rack.
use Rattle.std.proofs.Common.{◌≡◌, ◌∙◌, refl, sym, subst, ℕ, List, [], ◌∷◌, ◌++◌, map, Option, None}
use Rattle.std.specs.Prelude.{reverse}
use Rattle.std.specs.declared.alloc.Global.{Global}
use Rattle.std.specs.declared.dyn_box.DynBox.{DynBox}
use Rattle.ec_link.proofs.Runs.{TakenAt-TakesReady}
use Rattle.ec_link.specs.declared.connection.Conn.{Conn}
use Rattle.ec_link.specs.declared.logged.Logged.{Logged}
use Rattle.ec_link.specs.declared.rack.Rack.{Rack}
use Rattle.ec_link.specs.declared.request.Request.{Request}
use Rattle.ec_link.specs.declared.slot.Slot.{Slot}
use Rattle.ec_link.specs.Calls.{GivesBack, TakesReady}
use Rattle.ec_link.specs.Logged.{Talk}
use Rattle.ec_link.specs.Rack.{slots_of, log_of}
use Rattle.ec_link.specs.Slot.{states}
use Rattle.ec_link.specs.SlotState.{ready_slot}
use Rattle.ec_call_defs.specs.Steps.{library_step}
use Rattle.ec_calling.proofs.Noting.{heard_so}
use Rattle.ec_calling.specs.Views.{call_view}
use Rattle.ec_code.specs.Views.{program_view}
use Rattle.ec_meaning_defs.specs.evaluation.Whole.{Observed, program_meaning}
use Rattle.ec_execution_defs.specs.Programs.{Executable, meaning}
use Rattle.ec_interp.specs.declared.end.RunEnd.{RunEnd as MachineEnd}
use Rattle.ec_interp.specs.declared.end.Step.TheVariants as step
use Rattle.ec_interp.specs.Stepping.{Shows}
use Rattle.ec_memory_defs.specs.Memory.{Memory}
use Rattle.ec_meaning_defs.specs.observed.Observed.{answers_in}
use Rattle.ec_runtime.specs.Calling.{TakesFirst, conns_of}
use Rattle.ec_runtime.specs.Proceeding.{asked_of, waiting_of}
use Rattle.ec_runtime.specs.Racks.{GivesAll}
use Rattle.ec_runtime.proofs.Moving.{moves_not}
use Rattle.ec_stepper.specs.declared.machine.Machine.{Machine}
use Rattle.ec_stepper.specs.declared.standing.Standing.{Standing}
use Rattle.ec_stepper.specs.declared.standing.Standing.TheVariants as standing
use Rattle.ec_stepper.specs.Advancing.{Reaches, before}
use Rattle.ec_stepper.specs.Ready.{ready_view}
use Rattle.ec_stepper.specs.Running.{IsOf, meaning_over, said_in}
use Rattle.ec_stepper.proofs.Stepped.{is_begun}
use Rattle.ec_stopping_defs.specs.Places.{at_places}
use Rattle.ec_execute.specs.declared.running.RunEnd.{RunEnd}
use Rattle.ec_execute.specs.declared.running.RunEnd.TheVariants as ends
use Rattle.ec_execute.specs.Ends.{Performs, end_of}
use Rattle.ec_execute.specs.Runs.{Connects, Ran}
use Rattle.ec_execute.proofs.Ending.{nothing_done, performed}

-- what a run showed from its beginning is what is performed
shown_performs : {O E : Type 0} (held : O → Option (List ℕ)) (puts : O → ℕ) (told : E → Option (List ℕ)) (tells : E → ℕ) (mean : List Logged → Observed) (meant : Observed) (said growth : List Logged) (z : Standing) (shown : Observed) (out out' : O) (err err' : E) (store : Memory) (asking : Option (Option ℕ × Request)) (end : MachineEnd) (result : RunEnd)
    → said ≡ growth → mean growth ≡ meant → z ≡ standing.Begun → result ≡ end_of end
    → Shows held puts told tells out out' err err' (before z shown.output) (before z shown.errors) (mean said) said store asking (step.Ended end)
    → Performs held puts told tells meant growth out out' err err' result
shown_performs held puts told tells mean meant said growth z shown out out' err err' store asking end result heard means begun is s =
    subst (λ r. Performs held puts told tells meant growth out out' err err' r) (sym is)
    (performed held puts told tells meant growth out out' err err' store asking end
    (subst (λ o. Shows held puts told tells out out' err err' [] [] o growth store asking (step.Ended end)) means
    (subst (λ l. Shows held puts told tells out out' err err' [] [] (mean l) l store asking (step.Ended end)) heard
    (subst (λ w. Shows held puts told tells out out' err err' (before w shown.output) (before w shown.errors) (mean said) said store asking (step.Ended end)) begun s))))

module _ {X : Type 0} {F : X → Type 0} (talk : DynBox X Global F → Option Talk) (faults : DynBox X Global F → ℕ) where
  -- ---- the first ready slot

  -- a library without a connection gives none back
  pub nothing_given : (opened last : List (Slot X F)) (conns : List (Conn X F)) → conns ≡ [] → GivesAll opened (reverse conns) last → last ≡ opened
  nothing_given opened last [] e g = g
  nothing_given opened last (conn ∷ conns) e g = absurd (cc (e))

  -- it is freed, and nothing is asked
  pub freed : (first opened last : Rack X F) (conn : Conn X F) → TakesReady (slots_of first) (slots_of opened) conn → log_of opened ≡ log_of first
      → GivesBack (slots_of opened) (slots_of last) conn → log_of last ≡ log_of opened → Connects talk faults first last []
  freed first opened last conn t e g f = record {
    opened = opened;
    was = conn ∷ [];
    taken = t;
    logged = e;
    given_back = record {
      closing = opened;
      now = conn ∷ [];
      moves = moves_not talk faults opened opened (conn ∷ []) refl refl;
      held = (TakenAt-TakesReady (slots_of first) (slots_of opened) conn t, tt, tt);
      given = (slots_of last, g, refl);
      logged = f;
    };
  }

  -- there is none
  pub none_ready : (first last : Rack X F) → (ready_slot (states (slots_of first)) ≡ None) × (slots_of last ≡ slots_of first) → log_of last ≡ log_of first → Connects talk faults first last []
  none_ready first last t e = record {
    opened = last;
    was = [];
    taken = t;
    logged = e;
    given_back = record { closing = last; now = []; moves = moves_not talk faults last last [] refl refl; held = tt; given = refl; logged = refl };
  }

  -- ---- a program

  module _ {O E : Type 0} (held : O → Option (List ℕ)) (puts : O → ℕ) (told : E → Option (List ℕ)) (tells : E → ℕ) (x : Executable) (turns : ℕ) where
    -- the run of a machine, and its connections given back
    pub over_machine : (out out' : O) (err err' : E) (begun over : Machine X F) (first opened closing last : Rack X F) (end : MachineEnd) (result : RunEnd)
        → IsOf (log_of opened) begun → begun.standing ≡ standing.Begun → ready_view begun.ready ≡ ready_slot (states (slots_of first)) → TakesFirst (slots_of first) (conns_of begun.library.connections) (slots_of opened) → log_of opened ≡ log_of first
        → program_view begun.run.program.now ≡ x.program → map call_view begun.calls.now ≡ x.calls → begun.turns ≡ turns
        → Reaches talk faults held puts told tells begun opened over closing out out' err err' (step.Ended end)
        → GivesAll (slots_of closing) (reverse (conns_of over.library.connections)) (slots_of last) → log_of last ≡ log_of closing → result ≡ end_of end
        → Ran talk faults held puts told tells x turns out out' err err' first last result
    unfolding meaning
    over_machine out out' err err' begun over first opened closing last end result of stands ready taken same program calls many r given logged is =
        let b = is_begun begun (log_of opened) stands of.stands in
        let heard : said_in (log_of closing) over ≡ r.growth =
        heard_so (log_of opened) (log_of closing) r.growth begun.places over.places of.within r.moves.logged r.noted ∙ (λ j. at_places (log_of opened) (b.unsaid j) ++ r.growth) in
        let means : meaning_over begun r.growth ≡ meaning x turns (ready_slot (states (slots_of first))) (answers_in r.growth) =
        λ j. program_meaning (library_step (calls j)) (program j) (many j) (ready j) (answers_in r.growth) in
        record {
          growth = r.growth;
          connects = record {
            opened = opened;
            was = conns_of begun.library.connections;
            taken = taken;
            logged = same;
            given_back = record { closing = closing; now = conns_of over.library.connections; moves = r.moves; held = r.holds.taken; given = given; logged = logged };
          };
          performs = shown_performs held puts told tells (meaning_over begun) (meaning x turns (ready_slot (states (slots_of first))) (answers_in r.growth)) (said_in (log_of closing) over) r.growth begun.standing (meaning_over begun (said_in (log_of opened) begun)) out out' err err' over.run.frames.store (asked_of (waiting_of over.library)) end result heard means stands is r.shows;
        }

    -- it isn't run, and the slot is freed
    pub unrun : (out : O) (err : E) (first between last : Rack X F) → slots_of between ≡ slots_of first → log_of between ≡ log_of first → Connects talk faults between last []
        → Ran talk faults held puts told tells x turns out out err err first last ends.OutOfMemory
    unrun out err first between last slots log c = record {
      growth = [];
      connects = record {
        opened = c.opened;
        was = c.was;
        taken = subst (λ w. TakesFirst w c.was (slots_of c.opened)) slots c.taken;
        logged = c.logged ∙ log;
        given_back = c.given_back;
      };
      performs = nothing_done held puts told tells (meaning x turns (ready_slot (states (slots_of first))) (answers_in [])) out err;
    }
