-- A step of a run, from where the machine was left to where it is left again.
use Rattle.std.proofs.Common.{◌≡◌, ◌∙◌, refl, sym, ap, subst, arith, inl, inr, ℕ, suc, ◌<◌, ◌≤◌, ◌+◌, ◌*◌, ◌^◌, List, [], ◌++◌, append_assoc, append-nil, Option, Some, None, Ok, Err}
use Rattle.std.specs.Prelude.{◌⊎◌, reverse, slice_get}
use Rattle.ec_base.specs.Causes.{Rose}
use Rattle.ec_base.proofs.Transfers.{Puts-then, Took-then}
use Rattle.ec_base.specs.declared.stop.Trap.TheVariants as traps
use Rattle.ec_code.specs.declared.program.Program.{Program as Coded}
use Rattle.ec_code.specs.Views.{program_view}
use Rattle.ec_link.specs.declared.logged.Logged.{Logged}
use Rattle.ec_link.specs.declared.request.Request.{Request}
use Rattle.ec_meaning_defs.specs.observed.Observed.{answers_in}
use Rattle.ec_meaning_defs.specs.observed.Run.{IsFront}
use Rattle.ec_meaning_defs.specs.evaluation.Agree.{CountsTurns, Grows, state_of}
use Rattle.ec_meaning_defs.specs.evaluation.Evaluate.{Step as Knowing}
use Rattle.ec_meaning_defs.specs.evaluation.Results.{over, without_answer}
use Rattle.ec_meaning_defs.specs.evaluation.State.{Answer, Ending, State, exited, stuck, trapped, turns_spent, waits}
use Rattle.ec_meaning_defs.specs.evaluation.Whole.{Observed, main_run, observed, opening_state, program_meaning, seen, whole}
use Rattle.ec_meaning_defs.proofs.evaluation_lemmas.WholeRuns.{enough_turns}
use Rattle.ec_machine.specs.declared.machine.Machine.{Machine as Frames}
use Rattle.ec_machine.specs.declared.stop.End.{End}
use Rattle.ec_machine.specs.declared.stop.End.TheVariants as ends
use Rattle.ec_machine.specs.Frames.{resume}
use Rattle.ec_machine.specs.Goes.{at, ending_view, env_of, tasks}
use Rattle.ec_machine.proofs.Moves.{resume_over}
use Rattle.ec_memory.specs.declared.store.MakeStop.{MakeStop}
use Rattle.ec_memory.specs.declared.store.MakeStop.TheVariants as makes
use Rattle.ec_memory_defs.specs.Memory.{Memory}
use Rattle.ec_interp.specs.opening.Opens.{Opens}
use Rattle.ec_meaning_defs.specs.resolved.Programs.{opening_objects}
use Rattle.ec_interp.specs.declared.running.halt.Halt.{Halt}
use Rattle.ec_interp.specs.declared.running.halt.Halt.TheVariants as halt
use Rattle.ec_interp.specs.running.LibraryRuns.{AsksWith, BeginsWith, GoesWith, HaltsWith, Idle, IsFaultWith, IsLeftWith, IsOverWith, Nears, TakesTurn, grown}
use Rattle.ec_interp.specs.running.Printing.{Prints}
use Rattle.ec_interp.specs.running.Runs.{Run, answer_going}
use Rattle.ec_interp.specs.running.Sessions.{Going, Said, Session, WaitsFor, placed}
use Rattle.ec_interp.proofs.running_lemmas.Leading.{answers_twice, grown_none, grown_twice, prints_none, said_none, said_twice}
use Rattle.ec_interp.specs.declared.end.RunEnd.{RunEnd}
use Rattle.ec_interp.specs.declared.end.RunEnd.TheVariants as end
use Rattle.ec_interp.specs.declared.end.Step.{Step}
use Rattle.ec_interp.specs.declared.end.Step.TheVariants as step
use Rattle.ec_interp.specs.Ends.{halt_of, stopped}
use Rattle.ec_interp.specs.Stepping.{Begins, IsAsking, Shows, ShowsAll, ShowsFault, ShowsFront, Steps, run_of}
use Rattle.ec_interp.proofs.Whole.{begun_so, seen_conversation, seen_errors, seen_output, seen_placed, spent_run}

-- ---- runs that do the same

module _ {O E : Type 0} (held : O → Option (List ℕ)) (faults : O → ℕ) (held' : E → Option (List ℕ)) (faults' : E → ℕ) (turns : ℕ) (run run' : Run) (same : (k : ℕ) (s : State) → run k s ≡ run' k s) (x y : Option Session) (out out' : O) (err err' : E) (new : Frames) where
  pub halts_same : (knowing : Knowing) (p : Coded) (going : Option Going) (h : Halt) → HaltsWith held faults held' faults' turns run' x y out out' err err' new knowing p.functions going h → HaltsWith held faults held' faults' turns run x y out out' err err' new knowing p.functions going h
  halts_same knowing p going halt.Asks r = record {
    printed = r.printed;
    complained = r.complained;
    growth = r.growth;
    said = r.said;
    prints = r.prints;
    asks = r.asks;
    is = r.is;
    goes = λ k s rest l. same k (placed x (answers_in r.growth ++ rest) s) ∙ r.goes k s rest l;
    fewer = r.fewer;
  }
  halts_same knowing p going (halt.Over e) r = record {
    printed = r.printed;
    complained = r.complained;
    growth = r.growth;
    said = r.said;
    prints = r.prints;
    ends = λ k s rest l. same k (placed x (answers_in r.growth ++ rest) s) ∙ r.ends k s rest l;
  }
  halts_same knowing p going halt.WriteFault r = record {
    printed = r.printed;
    complained = r.complained;
    growth = r.growth;
    said = r.said;
    prints = r.prints;
    begins = λ k s rest l. subst (λ o. Grows (grown r.printed r.complained r.growth s) (state_of o)) (sym (same k (placed x (answers_in r.growth ++ rest) s))) (r.begins k s rest l);
  }
  halts_same knowing p going halt.OutOfMemory r = record {
    printed = r.printed;
    complained = r.complained;
    growth = r.growth;
    said = r.said;
    prints = r.prints;
    begins = λ k s rest l. subst (λ o. Grows (grown r.printed r.complained r.growth s) (state_of o)) (sym (same k (placed x (answers_in r.growth ++ rest) s))) (r.begins k s rest l);
  }

-- ---- the first `main`

module _ {O E : Type 0} (held : O → Option (List ℕ)) (faults : O → ℕ) (held' : E → Option (List ℕ)) (faults' : E → ℕ) (x : Option Session) (out : O) (err : E) where
  -- a run that is over before anything is printed or said
  pub over_first : (turns : ℕ) (run : Run) (new : Frames) (e : End) → ((k : ℕ) (s : State) → run k s ≡ over (ending_view e) (at s new)) → IsOverWith held faults held' faults' turns run x x out out err err new e
  over_first turns run new e is = record {
    printed = [];
    complained = [];
    growth = [];
    said = said_none x;
    prints = prints_none held faults held' faults' out err;
    ends = λ k s rest l. is k (placed x rest s) ∙ ap (λ t. over (ending_view e) (at (placed x rest t) new)) (sym (grown_none s));
  }

  pub without_main : (knowing : Knowing) (p : Coded) (m : Frames) → slice_get (program_view p).functions p.main ≡ None
      → IsOverWith held faults held' faults' m.turns (λ k s. main_run knowing (tasks knowing p.functions k) (slice_get (program_view p).functions p.main) (at s m)) x x out out err err m ends.Stuck
  without_main knowing p m e =
      over_first m.turns (λ k s. main_run knowing (tasks knowing p.functions k) (slice_get (program_view p).functions p.main) (at s m)) m ends.Stuck (λ k s. ap (λ f. main_run knowing (tasks knowing p.functions k) f (at s m)) e)

-- ---- where a call waits

-- with its request, where there is no answer
waiting_run : (knowing : Knowing) (p : Coded) (k : ℕ) (m : Frames) (x : Session) (y : Option Session) (said : List Logged) (g : Going) (a : Option ℕ × Request) → Said (Some x) y said → WaitsFor (Some g) (Some a) → (t : State)
    → answer_going knowing p.functions k m g (placed y [] t) ≡ over (waits a.0 a.1) (at (placed y [] t) m)
waiting_run knowing p k m x None said g a is w t = absurd is
waiting_run knowing p k m x (Some y) said g a is w t =
    ap (λ o. resume knowing (tasks knowing p.functions k) (env_of m) (reverse m.frames) (without_answer o)) (w m.line.0 (at (placed (Some y) [] t) m))
    ∙ resume_over knowing (tasks knowing p.functions k) (env_of m) (reverse m.frames) (waits a.0 a.1) (at (placed (Some y) [] t) m)

-- ---- what is seen

module _ (knowing : Knowing) (counts : CountsTurns knowing) (p : Coded) (turns : ℕ) where
  abbrev pub run : Run
  run = run_of knowing (program_view p) turns

  abbrev meaning : Option (ℕ × List ℕ) → List Answer → Observed
  meaning ready answers = program_meaning knowing (program_view p) turns ready answers

  more : turns < suc turns
  more = omega arith

  enough : (ready : Option (ℕ × List ℕ)) (answers : List Answer) → run (suc turns) (opening_state ready answers turns) ≡ whole knowing (program_view p) (opening_state ready answers turns)
  enough ready answers = enough_turns knowing counts (program_view p) (suc turns) (opening_state ready answers turns) (omega arith)

  module _ (x : Session) (ready : Option (ℕ × List ℕ)) (begins : Begins (Some x) ready) (said : List Logged) where
    abbrev start : State
    start = opening_state ready (answers_in said ++ []) turns

    -- the run from where the library knows it to begin, over just these answers
    abbrev begun : State
    begun = placed (Some x) (answers_in said ++ []) start

    from_start : run (suc turns) begun ≡ whole knowing (program_view p) start
    from_start = ap (run (suc turns)) (begun_so (Some x) ready (answers_in said ++ []) turns begins) ∙ enough ready (answers_in said ++ [])

    just_these : meaning ready (answers_in said) ≡ observed (run (suc turns) begun)
    just_these = ap (meaning ready) (sym (append-nil (answers_in said))) ∙ ap observed (sym from_start)

    seen_over : (e : Ending) (z : Option Session) (t : State) (new : Frames) → run (suc turns) begun ≡ over e (at (placed z [] t) new) → meaning ready (answers_in said) ≡ seen e (at t new)
    seen_over e z t new h = just_these ∙ ap observed h ∙ seen_placed z [] e t new

    module _ {O E : Type 0} (held : O → Option (List ℕ)) (faults : O → ℕ) (held' : E → Option (List ℕ)) (faults' : E → ℕ) (out out' : O) (err err' : E) (output errors : List ℕ) where
      -- it is over
      shows_all : (e : Ending) (z : Option Session) (t : State) (new : Frames) (printed complained : List ℕ) → run (suc turns) begun ≡ over e (at (placed z [] t) new)
          → t.output ≡ output ++ printed → t.errors ≡ errors ++ complained → t.conversation ≡ said → Prints held faults held' faults' out out' err err' printed complained
          → ShowsAll held faults held' faults' out out' err err' output errors (meaning ready (answers_in said)) said new.store e
      shows_all e z t new printed complained h i j k prints =
          let is = seen_over e z t new h in
          record {
            printed = printed;
            complained = complained;
            output_rest = ap (λ (m : Observed). m.output) is ∙ i;
            errors_rest = ap (λ (m : Observed). m.errors) is ∙ j;
            prints = prints;
            conversation = ap (λ (m : Observed). m.conversation) is ∙ k;
            memory = ap (λ (m : Observed). m.memory) (sym is);
            ends = ap (λ (m : Observed). m.ending) is;
          }

      -- a front of it
      module _ (t : State) (printed complained : List ℕ) (i : t.output ≡ output ++ printed) (j : t.errors ≡ errors ++ complained) (k : t.conversation ≡ said) (g : Grows t (state_of (run (suc turns) begun))) where
        output_front : IsFront (output ++ printed) (meaning ready (answers_in said)).output
        output_front = record { rest = g.printed.0; same = ap (λ (m : Observed). m.output) just_these ∙ seen_output (run (suc turns) begun) ∙ g.printed.1 ∙ ap (λ o. o ++ g.printed.0) i }

        errors_front : IsFront (errors ++ complained) (meaning ready (answers_in said)).errors
        errors_front = record { rest = g.complained.0; same = ap (λ (m : Observed). m.errors) just_these ∙ seen_errors (run (suc turns) begun) ∙ g.complained.1 ∙ ap (λ o. o ++ g.complained.0) j }

        conversation_front : IsFront said (meaning ready (answers_in said)).conversation
        conversation_front = record { rest = g.said.0; same = ap (λ (m : Observed). m.conversation) just_these ∙ seen_conversation (run (suc turns) begun) ∙ g.said.1 ∙ ap (λ o. o ++ g.said.0) k }

  -- ---- a step behind which the run stands so

  -- where the machine stood: `printed` and `complained` were printed before, `said` was said, and the run is this from there on
  pub record Stood (x : Session) (y : Option Session) (said : List Logged) (printed complained : List ℕ) (left : ℕ) (from : Run) : Type 0 where
    pub is_said : Said (Some x) y said
    pub leads : (k : ℕ) (s : State) (rest : List Answer) → turns < k → run k (placed (Some x) (answers_in said ++ rest) s) ≡ from k (placed y rest (grown printed complained said s))
    pub fewer : left ≤ turns

  module _ {O E : Type 0} (held : O → Option (List ℕ)) (faults : O → ℕ) (held' : E → Option (List ℕ)) (faults' : E → ℕ) (out out' : O) (err err' : E) (x : Session) (y z : Option Session) (said : List Logged) (printed complained : List ℕ) (left : ℕ) (from : Run) (stood : Stood x y said printed complained left from) (output errors : Option (ℕ × List ℕ) → List ℕ) (before : (ready : Option (ℕ × List ℕ)) → Begins (Some x) ready → (output ready ≡ printed) × (errors ready ≡ complained)) (new : Frames) (going : Option Going) (asking : Option (Option ℕ × Request)) (asks_so : WaitsFor going asking) where
    -- over the answers so far, and then those of what was said in the step
    onward : (h : List Logged) (k : ℕ) (s : State) (rest : List Answer) → turns < k → run k (placed (Some x) (answers_in (said ++ h) ++ rest) s) ≡ from k (placed y (answers_in h ++ rest) (grown printed complained said s))
    onward h k s rest l = ap (λ answers. run k (placed (Some x) answers s)) (answers_twice said h rest) ∙ stood.leads k s (answers_in h ++ rest) l

    module _ (ready : Option (ℕ × List ℕ)) (begins : Begins (Some x) ready) (q d : List ℕ) (h : List Logged) where
      abbrev first : State
      first = opening_state ready (answers_in (said ++ h) ++ []) turns

      abbrev behind : State
      behind = grown q d h (grown printed complained said first)

      output_so : behind.output ≡ output ready ++ q
      output_so = ap (λ o. o ++ q) (sym (before ready begins).0)

      errors_so : behind.errors ≡ errors ready ++ d
      errors_so = ap (λ o. o ++ d) (sym (before ready begins).1)

      ends_so : (e : Ending) → from (suc turns) (placed y (answers_in h ++ []) (grown printed complained said first)) ≡ over e (at (placed z [] behind) new) → Prints held faults held' faults' out out' err err' q d
          → ShowsAll held faults held' faults' out out' err err' (output ready) (errors ready) (meaning ready (answers_in (said ++ h))) (said ++ h) new.store e
      ends_so e i prints =
          shows_all x ready begins (said ++ h) held faults held' faults' out out' err err' (output ready) (errors ready) e z behind new q d
          (onward h (suc turns) first [] more ∙ i) output_so errors_so refl prints

      grows_so : Grows behind (state_of (from (suc turns) (placed y (answers_in h ++ []) (grown printed complained said first)))) → Grows behind (state_of (run (suc turns) (placed (Some x) (answers_in (said ++ h) ++ []) first)))
      grows_so g = subst (λ o. Grows behind (state_of o)) (sym (onward h (suc turns) first [] more)) g

    enough_left : left < suc turns
    enough_left = omega (arith, stood.fewer)

    abbrev Made : Step → Type 0
    Made result = Steps held faults held' faults' knowing p turns x said output errors z going asking out out' err err' new result

    never_asks : (e : RunEnd) → step.Ended e ≡ step.Asks → ⊥
    never_asks e i = cc

    -- it is over
    over_made : (e : End) (result : RunEnd) → ((ready : Option (ℕ × List ℕ)) (h : List Logged) → ShowsAll held faults held' faults' out out' err err' (output ready) (errors ready) (meaning ready (answers_in (said ++ h))) (said ++ h) new.store (ending_view e)
        → Shows held faults held' faults' out out' err err' (output ready) (errors ready) (meaning ready (answers_in (said ++ h))) (said ++ h) new.store asking (step.Ended result))
        → IsOverWith held faults held' faults' left from y z out out' err err' new e → Made (step.Ended result)
    over_made e result shows r = record {
      growth = r.growth;
      is_said = said_twice (Some x) y z said r.growth stood.is_said r.said;
      shows = λ ready begins. shows ready r.growth (ends_so ready begins r.printed r.complained r.growth (ending_view e)
          (r.ends (suc turns) (grown printed complained said (opening_state ready (answers_in (said ++ r.growth) ++ []) turns)) [] enough_left) r.prints);
      stands = λ i. absurd (never_asks result i);
    }

    left_made : (r : IsLeftWith held faults held' faults' left from y z out out' err err' new) → Made (step.Ended end.OutOfMemory)
    left_made r = record {
      growth = r.growth;
      is_said = said_twice (Some x) y z said r.growth stood.is_said r.said;
      shows = λ ready begins.
          let first = opening_state ready (answers_in (said ++ r.growth) ++ []) turns in
          let t = grown r.printed r.complained r.growth (grown printed complained said first) in
          let g = grows_so ready begins r.printed r.complained r.growth (r.begins (suc turns) (grown printed complained said first) [] enough_left) in
          let i = output_so ready begins r.printed r.complained r.growth in
          let j = errors_so ready begins r.printed r.complained r.growth in
          record {
            printed = r.printed;
            complained = r.complained;
            prints = r.prints;
            output_front = output_front x ready begins (said ++ r.growth) held faults held' faults' out out' err err' (output ready) (errors ready) t r.printed r.complained i j refl g;
            errors_front = errors_front x ready begins (said ++ r.growth) held faults held' faults' out out' err err' (output ready) (errors ready) t r.printed r.complained i j refl g;
            conversation = conversation_front x ready begins (said ++ r.growth) held faults held' faults' out out' err err' (output ready) (errors ready) t r.printed r.complained i j refl g;
          };
      stands = λ i. absurd (never_asks end.OutOfMemory i);
    }

    fault_made : (r : IsFaultWith held faults held' faults' left from y z out out' err err' new) → Made (step.Ended end.WriteFault)
    fault_made r = record {
      growth = r.growth;
      is_said = said_twice (Some x) y z said r.growth stood.is_said r.said;
      shows = λ ready begins.
          let first = opening_state ready (answers_in (said ++ r.growth) ++ []) turns in
          let t = grown r.printed r.complained r.growth (grown printed complained said first) in
          let g = grows_so ready begins r.printed r.complained r.growth (r.begins (suc turns) (grown printed complained said first) [] enough_left) in
          let i = output_so ready begins r.printed r.complained r.growth in
          let j = errors_so ready begins r.printed r.complained r.growth in
          record {
            printed = r.printed;
            complained = r.complained;
            prints = r.prints;
            output_front = output_front x ready begins (said ++ r.growth) held faults held' faults' out out' err err' (output ready) (errors ready) t r.printed r.complained i j refl g;
            errors_front = errors_front x ready begins (said ++ r.growth) held faults held' faults' out out' err err' (output ready) (errors ready) t r.printed r.complained i j refl g;
            conversation = conversation_front x ready begins (said ++ r.growth) held faults held' faults' out out' err err' (output ready) (errors ready) t r.printed r.complained i j refl g;
          };
      stands = λ i. absurd (never_asks end.WriteFault i);
    }

    -- a request waits
    waits_so : (r : AsksWith held faults held' faults' left from y z out out' err err' new knowing p.functions going) (a : Option (Option ℕ × Request)) → WaitsFor (Some r.asks) a → (ready : Option (ℕ × List ℕ)) → Begins (Some x) ready
        → Shows held faults held' faults' out out' err err' (output ready) (errors ready) (meaning ready (answers_in (said ++ r.growth))) (said ++ r.growth) new.store a step.Asks
    waits_so r None w ready begins = absurd w
    waits_so r (Some a) w ready begins =
        let first = opening_state ready (answers_in (said ++ r.growth) ++ []) turns in
        ends_so ready begins r.printed r.complained r.growth (waits a.0 a.1)
        (r.goes (suc turns) (grown printed complained said first) [] enough_left
        ∙ waiting_run knowing p (suc turns) new x z (said ++ r.growth) r.asks a (said_twice (Some x) y z said r.growth stood.is_said r.said) w (grown r.printed r.complained r.growth (grown printed complained said first)))
        r.prints

    asks_made : (r : AsksWith held faults held' faults' left from y z out out' err err' new knowing p.functions going) → Made step.Asks
    asks_made r = record {
      growth = r.growth;
      is_said = said_twice (Some x) y z said r.growth stood.is_said r.said;
      shows = λ ready begins. waits_so r asking (subst (λ g. WaitsFor g asking) r.is asks_so) ready begins;
      stands = λ i. record {
        printed = printed ++ r.printed;
        complained = complained ++ r.complained;
        is_said = said_twice (Some x) y z said r.growth stood.is_said r.said;
        asks = r.asks;
        is = r.is;
        goes = λ k s rest l.
            onward r.growth k s rest l ∙ r.goes k (grown printed complained said s) rest (omega (arith, stood.fewer, l))
            ∙ ap (λ t. answer_going knowing p.functions k new r.asks (placed z rest t)) (grown_twice printed complained said r.printed r.complained r.growth s);
        fewer = omega (arith, r.fewer, stood.fewer);
      };
    }

    -- how the machine was left says how the step was made
    pub made_so : (result : Step) → HaltsWith held faults held' faults' left from y z out out' err err' new knowing p.functions going (halt_of result) → Made result
    made_so step.Asks r = asks_made r
    made_so (step.Ended (end.Exited n)) r = over_made (ends.Exited n) (end.Exited n) (λ ready h s. s) r
    made_so (step.Ended (end.Trapped trap line)) r = over_made (ends.Trapped trap line) (end.Trapped trap line) (λ ready h s. s) r
    made_so (step.Ended end.TurnsSpent) r = over_made ends.TurnsSpent end.TurnsSpent (λ ready h s. s) r
    made_so (step.Ended end.Stuck) r = over_made ends.Stuck end.Stuck (λ ready h s. s) r
    made_so (step.Ended end.WriteFault) r = fault_made r
    made_so (step.Ended end.OutOfMemory) r = left_made r

  -- ---- the first step

  -- nothing was printed or said yet
  pub stands_first : (x : Session) → Stood x (Some x) [] [] [] turns run
  stands_first x = record {
    is_said = said_none (Some x);
    leads = λ k s rest l. ap (λ t. run k (placed (Some x) rest t)) (sym (grown_none s));
    fewer = omega arith;
  }

  -- ---- a further step

  pub stands_there : (x : Session) (y : Option Session) (said : List Logged) (going : Option Going) (m : Frames) (r : IsAsking knowing p turns x said y going m)
      → Stood x y said r.printed r.complained m.turns (λ k s. answer_going knowing p.functions k m r.asks s)
  stands_there x y said going m r = record { is_said = r.is_said; leads = r.goes; fewer = r.fewer }

  -- what was printed before is what the run prints until it waits
  module _ (x : Session) (y : Option Session) (said : List Logged) (going : Option Going) (m : Frames) (r : IsAsking knowing p turns x said y going m) (ready : Option (ℕ × List ℕ)) (begins : Begins (Some x) ready) where
    shown_so : (asking : Option (Option ℕ × Request)) → WaitsFor (Some r.asks) asking → ((meaning ready (answers_in said)).output ≡ r.printed) × ((meaning ready (answers_in said)).errors ≡ r.complained)
    shown_so None w = absurd w
    shown_so (Some a) w =
        let first = opening_state ready (answers_in said ++ []) turns in
        let is = seen_over x ready begins said (waits a.0 a.1) y (grown r.printed r.complained said first) m
        (r.goes (suc turns) first [] more ∙ waiting_run knowing p (suc turns) m x y said r.asks a r.is_said w (grown r.printed r.complained said first)) in
        (ap (λ (o : Observed). o.output) is, ap (λ (o : Observed). o.errors) is)

    pub shown : (asking : Option (Option ℕ × Request)) → WaitsFor going asking → ((meaning ready (answers_in said)).output ≡ r.printed) × ((meaning ready (answers_in said)).errors ≡ r.complained)
    shown asking w = shown_so asking (subst (λ g. WaitsFor g asking) r.is w)

-- ---- objects that could not be made

module _ (knowing : Knowing) (counts : CountsTurns knowing) (p : Coded) (turns : ℕ) {O E : Type 0} (held : O → Option (List ℕ)) (faults : O → ℕ) (held' : E → Option (List ℕ)) (faults' : E → ℕ) (x : Session) (out : O) (err : E) (new : Frames) (going : Option Going) (asking : Option (Option ℕ × Request)) (asks_so : WaitsFor going asking) where
  abbrev Opened : RunEnd → Type 0
  Opened e = Steps held faults held' faults' knowing p turns x [] (λ ready. []) (λ ready. []) (Some x) going asking out out err err new (step.Ended e)

  unopened_so : (why : MakeStop) → new.turns ≡ turns → Opens (opening_objects (program_view p)) (Err why) [] new.store → Opened (stopped why)
  unopened_so makes.Spent e o =
      made_so knowing counts p turns held faults held' faults' out out err err x (Some x) (Some x) [] [] [] turns (run knowing counts p turns) (stands_first knowing counts p turns x)
      (λ ready. []) (λ ready. []) (λ ready begins. (refl, refl)) new going asking asks_so (step.Ended (stopped makes.Spent))
      (over_first held faults held' faults' (Some x) out err turns (run knowing counts p turns) new (ends.Trapped traps.Spent (record { 0 = 1 }))
      (λ k s. ap (λ n. run_of knowing (program_view p) n k s) (sym e) ∙ spent_run knowing p new o k s))
  unopened_so makes.OutOfMemory e o = record {
    growth = [];
    is_said = said_none (Some x);
    shows = λ ready begins. record {
      printed = [];
      complained = [];
      prints = prints_none held faults held' faults' out err;
      output_front = record { rest = (program_meaning knowing (program_view p) turns ready []).output; same = refl };
      errors_front = record { rest = (program_meaning knowing (program_view p) turns ready []).errors; same = refl };
      conversation = record { rest = (program_meaning knowing (program_view p) turns ready []).conversation; same = refl };
    };
    stands = λ i. absurd (let j : step.Ended end.OutOfMemory ≡ step.Asks = i in cc);
  }

  pub unopened_made : (why : MakeStop) (e : RunEnd) → new.turns ≡ turns → e ≡ stopped why → Opens (opening_objects (program_view p)) (Err why) [] new.store → Opened e
  unopened_made why e t is o = subst Opened (sym is) (unopened_so why t o)

-- ---- one step behind the other

module _ {O E : Type 0} (held : O → Option (List ℕ)) (faults : O → ℕ) (held' : E → Option (List ℕ)) (faults' : E → ℕ) (out₁ out₂ out₃ : O) (err₁ err₂ err₃ : E) (output errors : List ℕ) (seen : Observed) (said : List Logged) (ending : Ending) (store : Memory) (a : ShowsAll held faults held' faults' out₁ out₂ err₁ err₂ output errors seen said store ending) (whole : Observed) (all : List Logged) (now : Memory) where
  all_then : (e : Ending) → ShowsAll held faults held' faults' out₂ out₃ err₂ err₃ seen.output seen.errors whole all now e → ShowsAll held faults held' faults' out₁ out₃ err₁ err₃ output errors whole all now e
  all_then e b = record {
    printed = a.printed ++ b.printed;
    complained = a.complained ++ b.complained;
    output_rest = b.output_rest ∙ ap (λ o. o ++ b.printed) a.output_rest ∙ append_assoc output a.printed b.printed;
    errors_rest = b.errors_rest ∙ ap (λ o. o ++ b.complained) a.errors_rest ∙ append_assoc errors a.complained b.complained;
    prints = record { output = Puts-then a.prints.output b.prints.output; errors = Puts-then a.prints.errors b.prints.errors };
    conversation = b.conversation;
    memory = b.memory;
    ends = b.ends;
  }

  -- fronts of what is shown
  output_further : (printed : List ℕ) → IsFront (seen.output ++ printed) whole.output → IsFront (output ++ (a.printed ++ printed)) whole.output
  output_further printed f = record {
    rest = f.rest;
    same = f.same ∙ ap (λ o. (o ++ printed) ++ f.rest) a.output_rest ∙ ap (λ o. o ++ f.rest) (append_assoc output a.printed printed);
  }

  errors_further : (complained : List ℕ) → IsFront (seen.errors ++ complained) whole.errors → IsFront (errors ++ (a.complained ++ complained)) whole.errors
  errors_further complained f = record {
    rest = f.rest;
    same = f.same ∙ ap (λ o. (o ++ complained) ++ f.rest) a.errors_rest ∙ ap (λ o. o ++ f.rest) (append_assoc errors a.complained complained);
  }

  front_then : ShowsFront held faults held' faults' out₂ out₃ err₂ err₃ seen.output seen.errors whole all → ShowsFront held faults held' faults' out₁ out₃ err₁ err₃ output errors whole all
  front_then b = record {
    printed = a.printed ++ b.printed;
    complained = a.complained ++ b.complained;
    prints = record { output = Puts-then a.prints.output b.prints.output; errors = Puts-then a.prints.errors b.prints.errors };
    output_front = output_further b.printed b.output_front;
    errors_front = errors_further b.complained b.errors_front;
    conversation = b.conversation;
  }

  fault_then : ShowsFault held faults held' faults' out₂ out₃ err₂ err₃ seen.output seen.errors whole all → ShowsFault held faults held' faults' out₁ out₃ err₁ err₃ output errors whole all
  fault_then b = record {
    printed = a.printed ++ b.printed;
    complained = a.complained ++ b.complained;
    prints = record {
      output = Took-then a.prints.output b.prints.output;
      errors = Took-then a.prints.errors b.prints.errors;
      failed = rose a.prints.output.steady a.prints.errors.steady b.prints.failed;
    };
    output_front = output_further b.printed b.output_front;
    errors_front = errors_further b.complained b.errors_front;
    conversation = b.conversation;
  }
    where
      rose : faults out₂ ≡ faults out₁ → faults' err₂ ≡ faults' err₁ → Rose (faults out₂) (faults out₃) ⊎ Rose (faults' err₂) (faults' err₃) → Rose (faults out₁) (faults out₃) ⊎ Rose (faults' err₁) (faults' err₃)
      rose p q (inl r) = inl (subst (λ n. Rose n (faults out₃)) p r)
      rose p q (inr r) = inr (subst (λ n. Rose n (faults' err₃)) q r)

  pub shows_then : (asking : Option (Option ℕ × Request)) (result : Step) → Shows held faults held' faults' out₂ out₃ err₂ err₃ seen.output seen.errors whole all now asking result → Shows held faults held' faults' out₁ out₃ err₁ err₃ output errors whole all now asking result
  shows_then None step.Asks b = b
  shows_then (Some x) step.Asks b = all_then (waits x.0 x.1) b
  shows_then asking (step.Ended (end.Exited n)) b = all_then (exited n) b
  shows_then asking (step.Ended (end.Trapped trap line)) b = all_then (trapped trap line.0) b
  shows_then asking (step.Ended end.TurnsSpent) b = all_then turns_spent b
  shows_then asking (step.Ended end.Stuck) b = all_then stuck b
  shows_then asking (step.Ended end.WriteFault) b = fault_then b
  shows_then asking (step.Ended end.OutOfMemory) b = front_then b

-- what waits shows all so far
pub shown_all : {O E : Type 0} (held : O → Option (List ℕ)) (faults : O → ℕ) (held' : E → Option (List ℕ)) (faults' : E → ℕ) (out out' : O) (err err' : E) (output errors : List ℕ) (seen : Observed) (said : List Logged) (store : Memory) (asking : Option (Option ℕ × Request))
    → Shows held faults held' faults' out out' err err' output errors seen said store asking step.Asks → (e : Ending) × ShowsAll held faults held' faults' out out' err err' output errors seen said store e
shown_all held faults held' faults' out out' err err' output errors seen said store None h = absurd h
shown_all held faults held' faults' out out' err err' output errors seen said store (Some a) h = (waits a.0 a.1, h)

-- the nothing that is printed before a run
abbrev pub nothing : Option (ℕ × List ℕ) → List ℕ
nothing ready = []

-- a further step of a run
pub steps_then : {O E : Type 0} (held : O → Option (List ℕ)) (faults : O → ℕ) (held' : E → Option (List ℕ)) (faults' : E → ℕ) (knowing : Knowing) (p : Coded) (turns : ℕ) (x : Session) (y z : Option Session) (going going' : Option Going) (asking asking' : Option (Option ℕ × Request)) (out₁ out₂ out₃ : O) (err₁ err₂ err₃ : E) (m m' : Frames) (result : Step)
    → Steps held faults held' faults' knowing p turns x [] nothing nothing y going asking out₁ out₂ err₁ err₂ m step.Asks
    → ((said : List Logged) → IsAsking knowing p turns x said y going m → Steps held faults held' faults' knowing p turns x said (λ ready. (program_meaning knowing (program_view p) turns ready (answers_in said)).output) (λ ready. (program_meaning knowing (program_view p) turns ready (answers_in said)).errors) z going' asking' out₂ out₃ err₂ err₃ m' result)
    → Steps held faults held' faults' knowing p turns x [] nothing nothing z going' asking' out₁ out₃ err₁ err₃ m' result
steps_then held faults held' faults' knowing p turns x y z going going' asking asking' out₁ out₂ out₃ err₁ err₂ err₃ m m' result a further =
    let b = further a.growth (a.stands refl) in
    record {
      growth = a.growth ++ b.growth;
      is_said = b.is_said;
      shows = λ ready begins.
          let seen = program_meaning knowing (program_view p) turns ready (answers_in a.growth) in
          let s = shown_all held faults held' faults' out₁ out₂ err₁ err₂ [] [] seen a.growth m.store asking (a.shows ready begins) in
          shows_then held faults held' faults' out₁ out₂ out₃ err₁ err₂ err₃ [] [] seen a.growth s.0 m.store s.1 (program_meaning knowing (program_view p) turns ready (answers_in (a.growth ++ b.growth))) (a.growth ++ b.growth) m'.store asking' result (b.shows ready begins);
      stands = b.stands;
    }

-- ---- behind the end

-- nothing waits
pub ended_idle : (e : RunEnd) (going : Option Going) → Idle (halt_of (step.Ended e)) going → going ≡ None
ended_idle (end.Exited n) going i = i
ended_idle (end.Trapped trap line) going i = i
ended_idle end.TurnsSpent going i = i
ended_idle end.Stuck going i = i
ended_idle end.WriteFault going i = i
ended_idle end.OutOfMemory going i = i

-- ---- how many steps may come

-- a step that isn't the last
abbrev pub steps_left : Step → ℕ → ℕ
steps_left step.Asks n = suc n
steps_left (step.Ended e) n = 0

pub fewer_left : (result : Step) (turns turns' n n' : ℕ) → n < 2 ^ 64 → Nears (halt_of result) turns turns' n n' → steps_left result (turns' * 2 ^ 64 + n') < suc (turns * 2 ^ 64 + n)
fewer_left (step.Ended e) turns turns' n n' h near = omega arith
fewer_left step.Asks turns turns' n n' h (inl t) = omega (arith, h, t.0, t.1)
fewer_left step.Asks turns turns' n n' h (inr t) = omega (arith, h, t.0, t.1)

-- the requests that are left behind a step are few enough
pub few_left : (result : Step) (turns turns' n n' : ℕ) → n < 2 ^ 64 → Nears (halt_of result) turns turns' n n' → result ≡ step.Asks → n' < 2 ^ 64
few_left result turns turns' n n' h near e = go (subst (λ r. Nears (halt_of r) turns turns' n n') e near)
  where
    go : Nears (halt_of step.Asks) turns turns' n n' → n' < 2 ^ 64
    go (inl t) = t.1
    go (inr t) = omega (arith, h, t.1)

pub few_first : (result : Step) (turns turns' n' : ℕ) → TakesTurn (halt_of result) turns turns' n' → result ≡ step.Asks → n' < 2 ^ 64
few_first result turns turns' n' t e = (subst (λ r. TakesTurn (halt_of r) turns turns' n') e t).1
