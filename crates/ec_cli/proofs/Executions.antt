-- From the run of a program to what is promised of a call that runs a text.
use Rattle.std.proofs.Common.{◌≡◌, ℕ, ◌≤◌, ◌^◌, true, List, [], ◌++◌, length, refl, ap, sym, ◌∙◌, subst, arith, Option, Some, None, inl, inr, Result, Ok, Err}
use Rattle.std.specs.Prelude.{◌≢◌, ◌⊎◌}
use Rattle.std.specs.declared.alloc.Global.{Global as Allocator}
use Rattle.std.specs.declared.dyn_box.DynBox.{DynBox}
use Rattle.ec_base.specs.declared.fault.FaultKind.{FaultKind}
use Rattle.ec_base.specs.declared.fault.LimitKind.{LimitKind}
use Rattle.ec_base.specs.declared.fault.LimitKind.TheVariants.{L1, L2, L3, L4, L5, L6, L7, L8, L9, L10, L11}
use Rattle.ec_base.specs.declared.line.Line.{Line}
use Rattle.ec_base.specs.declared.stop.Stop.{Stop}
use Rattle.ec_base.specs.declared.stop.Stop.TheVariants as stops
use Rattle.ec_base.specs.Causes.{Rose}
use Rattle.ec_link.proofs.Runs.{growth_of-grown}
use Rattle.ec_link.specs.declared.logged.Logged.{Logged}
use Rattle.ec_link.specs.declared.rack.Rack.{Rack}
use Rattle.ec_link.specs.declared.request.Request.{Request}
use Rattle.ec_link.specs.Logged.{Talk}
use Rattle.ec_link.specs.Rack.{slots_of, log_of}
use Rattle.ec_link.specs.Slot.{states, link_at, talk_at}
use Rattle.ec_link.specs.SlotState.{SlotState, Slots, ready_slot}
use Rattle.ec_link.specs.Told.{KeepsTalks, SparesDropped}
use Rattle.ec_language.specs.Letters.{each}
use Rattle.ec_meaning_defs.specs.observed.Headline.{ReadsWithin}
use Rattle.ec_meaning_defs.specs.observed.Observed.{answers_in}
use Rattle.ec_meaning_defs.specs.evaluation.State as evaluation
use Rattle.ec_meaning_defs.specs.evaluation.State.{Answer}
use Rattle.ec_meaning_defs.specs.evaluation.Whole.{Observed}
use Rattle.ec_runtime.specs.Racks.{KeepsLinks}
use Rattle.ec_execution_defs.specs.Programs.{Executable, meaning}
use Rattle.ec_execution_defs.specs.Runs.{Runs, RunsPart}
use Rattle.ec_execute.specs.declared.running.RunEnd.{RunEnd}
use Rattle.ec_execute.specs.declared.running.RunEnd.TheVariants as ends
use Rattle.ec_execute.specs.declared.executable.Executable as execute
use Rattle.ec_execute.specs.Answers.{TellsProgram}
use Rattle.ec_execute.specs.Ends.{Performs}
use Rattle.ec_execute.specs.Executables.{executable_view}
use Rattle.ec_execute.specs.Runs.{Connects, Ran}
use Rattle.ec_cli.specs.Answers.{IsCrowded, ComesWhere, grown}
use Rattle.ec_cli.specs.Executing.{IsOfProgram, IsOfCarried, IsOfExecution, EndsAs, ending_of_program, limit_of, text_refusal, RefusesRun, PassesAs, DecidesExecution, meaning_over, SaysAgain, shown_over, Untouched, CarriedOut, CarriedPart, Carries, MayCarry, RefusesText, ExecutesText, Executes}
use Rattle.ec_cli.specs.Forms.{Program, IsRunAs, Meaning, program_meaning, shown, RunsText, TellsRun}
use Rattle.ec_cli.specs.Racks.{RunsOver, taken_first}
use Rattle.ec_cli.specs.Recordings.{RecordsAs}
use Rattle.ec_cli.specs.Taking.{Gives, limit_on, IsWithin, IsLarge, IsPassed, Takes, Lacks}
use Rattle.ec_cli.specs.declared.form.Form.{Form}
use Rattle.ec_cli.specs.declared.form.Form.TheVariants.{Source, Written, Recorded, Generated}
use Rattle.ec_execute.specs.source.Answers.{TellsRunnable}
use Rattle.ec_cli.specs.declared.ending.Ending.{Ending}
use Rattle.ec_cli.specs.declared.ending.Ending.TheVariants.{Wrote, Exited, Trapped, TurnsSpent, Usage, Refused, Limit, ReadFault, WriteFault, OutOfMemory}
use Rattle.ec_sound_text_laws.specs.Endings.{IsNeverStuck}
use Rattle.ec_sound_text_laws.specs.Runs.{WrittenTextsAreNeverStuck, SourcesAreNeverStuck}
use Rattle.ec_writing_defs.specs.Shapes.{is_byte}
use Rattle.ec_replay_laws.specs.Runs.{Ran as ReplayRan, SaysTheSame, taken_first as replay_first}
use Rattle.ec_cli.proofs.Runnable.{runnable_never}
use Rattle.ec_cli.proofs.Recordings.{front_unchanged}
use Rattle.ec_cli.proofs.SameRack.{same_log, same_talks, same_links, same_dropped}
use Rattle.ec_cli.proofs.Sessions as session
use Rattle.ec_cli.proofs.Unread.{unread_within}

either : {A B C : Type 0} → (A → C) → (B → C) → A ⊎ B → C
either f g (inl a) = f a
either f g (inr b) = g b

-- ---- endings

-- how a program that was carried out ends
abbrev pub Sorted : Ending → Type 0
Sorted ending = IsOfProgram ending ⊎ (ending ≡ WriteFault) ⊎ (ending ≡ OutOfMemory)

sorted : (ending : Ending) → IsOfCarried ending → Sorted ending
sorted (Exited status) h = inl tt
sorted (Trapped trap line) h = inl tt
sorted TurnsSpent h = inl tt
sorted WriteFault h = inr (inl refl)
sorted OutOfMemory h = inr (inr refl)
sorted Wrote h = absurd h
sorted Usage h = absurd h
sorted (Refused kind line) h = absurd h
sorted (Limit kind) h = absurd h
sorted ReadFault h = absurd h

carried_is_own : (ending : Ending) → IsOfCarried ending → IsOfExecution ending
carried_is_own (Exited status) h = tt
carried_is_own (Trapped trap line) h = tt
carried_is_own TurnsSpent h = tt
carried_is_own WriteFault h = tt
carried_is_own OutOfMemory h = tt
carried_is_own Wrote h = absurd h
carried_is_own Usage h = absurd h
carried_is_own (Refused kind line) h = tt
carried_is_own (Limit kind) h = tt
carried_is_own ReadFault h = tt

-- every limit but those on slots and on numbers is one of a text
limit_same : (kind : LimitKind) → (kind ≡ L7 → ⊥) → (kind ≡ L8 → ⊥) → Limit kind ≡ limit_of kind
limit_same L1 h k = refl
limit_same L2 h k = refl
limit_same L3 h k = refl
limit_same L4 h k = refl
limit_same L5 h k = refl
limit_same L6 h k = refl
limit_same L7 h k = absurd (h refl)
limit_same L8 h k = absurd (k refl)
limit_same L9 h k = refl
limit_same L10 h k = refl
limit_same L11 h k = refl

-- ---- a text that is read

module _ (never : SourcesAreNeverStuck) (text : List ℕ) (bytes : each is_byte text ≡ true) where
  pub source_told : (answer : Result execute.Executable Stop) → TellsRunnable text answer → TellsRun Source text answer
  source_told (Ok executable) r = record { program = r.program; is = r.is; means = r.means; never_stuck = runnable_never never text bytes r.program r.is }
  source_told (Err (stops.Refused kind line)) h = h
  source_told (Err (stops.Limit kind)) h = h
  source_told (Err stops.OutOfMemory) h = h

  pub generated_told : (number : ℕ) (answer : Result execute.Executable Stop) → TellsRunnable text answer → TellsRun (Generated number) text answer
  generated_told number (Ok executable) r = record { program = r.program; is = r.is; means = r.means; never_stuck = runnable_never never text bytes r.program r.is }
  generated_told number (Err (stops.Refused kind line)) h = h
  generated_told number (Err (stops.Limit kind)) h = h
  generated_told number (Err stops.OutOfMemory) h = h

  pub recorded_told : (answer : Result execute.Executable Stop) → TellsRunnable text answer → TellsRun Recorded text answer
  recorded_told (Ok executable) r = record { program = r.program; is = r.is; means = r.means; never_stuck = runnable_never never text bytes r.program r.is }
  recorded_told (Err (stops.Refused kind line)) h = h
  recorded_told (Err (stops.Limit kind)) h = h
  recorded_told (Err stops.OutOfMemory) h = h

pub written_told : WrittenTextsAreNeverStuck → (text : List ℕ) (answer : Result execute.Executable Stop) → TellsProgram text answer → TellsRun Written text answer
written_told never text (Ok executable) h = record {
  program = executable_view executable;
  is = h;
  means = λ turns ready answers. refl;
  never_stuck = never text (executable_view executable) h;
}
written_told never text (Err (stops.Refused kind line)) h = h
written_told never text (Err (stops.Limit kind)) h = h
written_told never text (Err stops.OutOfMemory) h = h

-- ---- a text that is refused

limited : (form : Form) (text : List ℕ) (kind : LimitKind) → IsRunAs form text (Err (stops.Limit kind)) → RefusesText form text (limit_of kind)
limited form text L1 h = (λ e. cc (e), λ e. cc (e), h)
limited form text L2 h = (λ e. cc (e), λ e. cc (e), h)
limited form text L3 h = (λ e. cc (e), λ e. cc (e), h)
limited form text L4 h = (λ e. cc (e), λ e. cc (e), h)
limited form text L5 h = (λ e. cc (e), λ e. cc (e), h)
limited form text L6 h = (λ e. cc (e), λ e. cc (e), h)
limited form text L7 h = tt
limited form text L8 h = tt
limited form text L9 h = (λ e. cc (e), λ e. cc (e), h)
limited form text L10 h = (λ e. cc (e), λ e. cc (e), h)
limited form text L11 h = (λ e. cc (e), λ e. cc (e), h)

pub refuses : (form : Form) (text : List ℕ) (stop : Stop) → TellsRun form text (Err stop) → RefusesText form text (text_refusal stop)
refuses form text (stops.Refused kind line) h = h
refuses form text (stops.Limit kind) h = limited form text kind h
refuses form text stops.OutOfMemory h = tt

refused_not_run : (form : Form) (text : List ℕ) (ending : Ending) → RefusesText form text ending → IsOfProgram ending → ⊥
refused_not_run form text (Exited status) h k = h
refused_not_run form text (Trapped trap line) h k = h
refused_not_run form text TurnsSpent h k = h
refused_not_run form text Wrote h k = k
refused_not_run form text Usage h k = k
refused_not_run form text (Refused kind line) h k = k
refused_not_run form text (Limit kind) h k = k
refused_not_run form text ReadFault h k = k
refused_not_run form text WriteFault h k = k
refused_not_run form text OutOfMemory h k = k

refused_is_own : (form : Form) (text : List ℕ) (ending : Ending) → RefusesText form text ending → IsOfExecution ending
refused_is_own form text (Exited status) h = tt
refused_is_own form text (Trapped trap line) h = tt
refused_is_own form text TurnsSpent h = tt
refused_is_own form text Wrote h = absurd h
refused_is_own form text Usage h = absurd h
refused_is_own form text (Refused kind line) h = tt
refused_is_own form text (Limit kind) h = tt
refused_is_own form text ReadFault h = tt
refused_is_own form text WriteFault h = tt
refused_is_own form text OutOfMemory h = tt

refused_decides : (form : Form) (turns : ℕ) (ready : Option (ℕ × List ℕ)) (answers : List Answer) (text : List ℕ) (ending : Ending) → IsWithin form text → RefusesText form text ending
    → DecidesExecution form turns ready answers text ending
refused_decides form turns ready answers text (Refused kind line) small h = inr (inr (small, (Err (stops.Refused kind line), h, refl)))
refused_decides form turns ready answers text (Limit kind) small h = inr (inr (small, (Err (stops.Limit kind), h.2, limit_same kind h.0 h.1)))
refused_decides form turns ready answers text OutOfMemory small h = inl refl
refused_decides form turns ready answers text (Exited status) small h = absurd h
refused_decides form turns ready answers text (Trapped trap line) small h = absurd h
refused_decides form turns ready answers text TurnsSpent small h = absurd h
refused_decides form turns ready answers text Wrote small h = absurd h
refused_decides form turns ready answers text Usage small h = absurd h
refused_decides form turns ready answers text ReadFault small h = absurd h
refused_decides form turns ready answers text WriteFault small h = absurd h

-- a text within the limit has no number that is too large
not_large : (form : Form) (text : List ℕ) → IsWithin form text → IsLarge form → ⊥
not_large Source text w h = h
not_large Written text w h = h
not_large Recorded text w h = h
not_large (Generated number) text w h = omega (arith, w, h)

-- the limit on numbers is that of a generated program alone
large_of : (form : Form) (input input' : Option (List ℕ)) → IsPassed form input input' → limit_on form ≡ L8 → IsLarge form
large_of Source input input' p e = absurd (cc (e))
large_of Written input input' p e = absurd (cc (e))
large_of Recorded input input' p e = absurd (cc (e))
large_of (Generated number) input input' p e = p

-- and none is that on slots
no_slots : (form : Form) → limit_on form ≡ L7 → ⊥
no_slots Source e = cc (e)
no_slots Written e = cc (e)
no_slots Recorded e = cc (e)
no_slots (Generated number) e = cc (e)

-- what is shown of a run says and ends as the run does
shown_conversation : (form : Form) (slots : List SlotState) (o : Observed) → (shown form slots o).conversation ≡ o.conversation
shown_conversation Source slots o = refl
shown_conversation Written slots o = refl
shown_conversation Recorded slots o = refl
shown_conversation (Generated number) slots o = refl

shown_ending : (form : Form) (slots : List SlotState) (o : Observed) → (shown form slots o).ending ≡ o.ending
shown_ending Source slots o = refl
shown_ending Written slots o = refl
shown_ending Recorded slots o = refl
shown_ending (Generated number) slots o = refl

-- a call that ends as a program does waits for no answer
ended_own : (e : evaluation.Ending) (ending : Ending) → EndsAs e ending → (slot : Option ℕ) (request : Request) → e ≢ evaluation.waits slot request
ended_own e ending h slot request w = subst (λ a. EndsAs a ending) w h

-- the slots, of which the first ready one is taken
taken_alike : (first : Option (ℕ × List ℕ)) (slots : List SlotState) → taken_first first slots ≡ replay_first first slots
taken_alike None slots = refl
taken_alike (Some found) slots = refl

limit_name : (a b : LimitKind) → Limit a ≡ Limit b → a ≡ b
limit_name a b e = cc (e)

-- what isn't recorded puts no transcript
pub unrecorded : {E X : Type 0} {F : X → Type 0} (told : E → Option (List ℕ)) (tells : E → ℕ) (f form : Form) (err err' : E) (rack rack' : Rack X F) → form ≡ f → (f ≡ Recorded → ⊥)
    → RecordsAs told tells form err err' rack rack'
unrecorded told tells f form err err' rack rack' is other e = absurd (other (sym is ∙ e))

module _ {O E X : Type 0} {F : X → Type 0} (held : O → Option (List ℕ)) (puts : O → ℕ) (told : E → Option (List ℕ)) (tells : E → ℕ) (talk : DynBox X Allocator F → Option Talk) (faults : DynBox X Allocator F → ℕ) where
  -- ---- a program

  module _ (x : Executable) (turns : ℕ) (out out' : O) (err err' : E) (rack rack' : Rack X F) where
    module _ (growth : List Logged) (c : Connects talk faults rack rack' growth) where
      log_grown : log_of rack' ≡ log_of rack ++ growth
      log_grown = session.run_logged talk faults rack c.opened c.given_back.closing rack' c.was c.given_back.now growth c.taken c.given_back.moves c.given_back.held c.given_back.given c.logged c.given_back.logged

      same : growth ≡ grown rack rack'
      same = sym (growth_of-grown (log_of rack) (log_of rack') growth log_grown)

      over_slots : RunsOver (slots_of rack) (grown rack rack') (slots_of rack')
      over_slots = subst (λ w. RunsOver (slots_of rack) w (slots_of rack')) same
          (session.RunsOver-run talk faults rack c.opened c.given_back.closing rack' c.was c.given_back.now growth c.taken c.given_back.moves c.given_back.held c.given_back.given)

      links_kept : KeepsLinks talk faults (link_at (slots_of rack)) (link_at (slots_of rack')) (grown rack rack')
      links_kept = subst (λ w. KeepsLinks talk faults (link_at (slots_of rack)) (link_at (slots_of rack')) w) same
          (session.KeepsLinks-run talk faults rack c.opened c.given_back.closing rack' c.was c.given_back.now growth c.taken c.given_back.moves c.given_back.held c.given_back.given)

      talks_kept : KeepsTalks (talk_at talk (slots_of rack)) (talk_at talk (slots_of rack')) (grown rack rack')
      talks_kept = session.KeepsTalks-links talk faults (slots_of rack) (slots_of rack') (grown rack rack') links_kept

      dropped_spared : SparesDropped (states (slots_of rack)) (states (slots_of rack')) (grown rack rack')
      dropped_spared = subst (λ w. SparesDropped (states (slots_of rack)) (states (slots_of rack')) w) same
          (session.SparesDropped-run talk faults rack c.opened c.given_back.closing rack' c.was c.given_back.now growth c.taken c.given_back.moves c.given_back.held c.given_back.given)

      log_logged : log_of rack' ≡ log_of rack ++ grown rack rack'
      log_logged = log_grown ∙ ap (λ w. log_of rack ++ w) same

    -- over the answers that the log got in this call
    here : (end : RunEnd) (r : Ran talk faults held puts told tells x turns out out' err err' rack rack' end) → Performs held puts told tells (meaning_over (meaning x) turns rack rack') (grown rack rack') out out' err err' end
    here end r = subst (λ w. Performs held puts told tells (meaning x turns (ready_slot (states (slots_of rack))) (answers_in w)) w out out' err err' end) (same r.growth r.connects) r.performs

    module _ (growth : List Logged) (c : Connects talk faults rack rack' growth) where
      carried_out : (e : evaluation.Ending) (ending : Ending) → EndsAs e ending → Runs held puts told tells (meaning_over (meaning x) turns rack rack') (grown rack rack') e out out' err err'
          → CarriedOut held puts told tells talk faults (meaning_over (meaning x) turns rack rack') out out' err err' rack rack' ending
      carried_out e ending agrees r = record { ended = e; ends = agrees; runs = r; slots = over_slots growth c }

      carried_part : RunsPart held puts told tells (meaning_over (meaning x) turns rack rack') (grown rack rack') out out' err err' → CarriedPart held puts told tells talk faults (meaning_over (meaning x) turns rack rack') out out' err err' rack rack'
      carried_part r = record { part = r; slots = over_slots growth c }

      ran : (e : evaluation.Ending) (ending : Ending) → EndsAs e ending → IsOfCarried ending → (ending ≡ WriteFault → ⊥) → (ending ≡ OutOfMemory → ⊥)
          → Runs held puts told tells (meaning_over (meaning x) turns rack rack') (grown rack rack') e out out' err err' → Carries held puts told tells talk faults (meaning_over (meaning x) turns rack rack') out out' err err' rack rack' ending
      ran e ending agrees own calm room r = record {
        whole = λ h. carried_out e ending agrees r;
        part = λ h. absurd (either calm room h);
        ends = own;
        talks = talks_kept growth c;
        links = links_kept growth c;
        dropped = dropped_spared growth c;
        logged = log_logged growth c;
        fault = λ h. absurd (calm h);
        steady = λ h. (r.output.steady, r.errors.steady);
      }

      performed : (end : RunEnd) → Performs held puts told tells (meaning_over (meaning x) turns rack rack') (grown rack rack') out out' err err' end
          → Carries held puts told tells talk faults (meaning_over (meaning x) turns rack rack') out out' err err' rack rack' (ending_of_program end)
      performed (ends.Exited status) done = ran (evaluation.exited status) (Exited status) refl tt (λ e. cc (e)) (λ e. cc (e)) done
      performed (ends.Trapped trap line) done = ran (evaluation.trapped trap line.0) (Trapped trap line) refl tt (λ e. cc (e)) (λ e. cc (e)) done
      performed ends.TurnsSpent done = ran evaluation.turns_spent TurnsSpent refl tt (λ e. cc (e)) (λ e. cc (e)) done
      performed ends.WriteFault done = record {
        whole = λ e. absurd e;
        part = λ e. carried_part done.0;
        ends = tt;
        talks = talks_kept growth c;
        links = links_kept growth c;
        dropped = dropped_spared growth c;
        logged = log_logged growth c;
        fault = λ e. done.1;
        steady = λ e. absurd (e refl);
      }
      performed ends.OutOfMemory done = record {
        whole = λ e. absurd e;
        part = λ e. carried_part done.0;
        ends = tt;
        talks = talks_kept growth c;
        links = links_kept growth c;
        dropped = dropped_spared growth c;
        logged = log_logged growth c;
        fault = λ e. absurd (cc (e));
        steady = λ e. (done.1, done.2);
      }

    -- with the ending of the run
    pub carries_by : (end : RunEnd) (ending : Ending) → ending ≡ ending_of_program end → Ran talk faults held puts told tells x turns out out' err err' rack rack' end
        → Carries held puts told tells talk faults (meaning_over (meaning x) turns rack rack') out out' err err' rack rack' ending
    carries_by end ending e r =
        subst (λ w. Carries held puts told tells talk faults (meaning_over (meaning x) turns rack rack') out out' err err' rack rack' w) (sym e) (performed r.growth r.connects end (here end r))

  -- ---- a program of a text of that form

  pub as_form : (f form : Form) (m : Meaning) (turns : ℕ) (out out' : O) (err err' : E) (rack rack' : Rack X F) (ending : Ending) → form ≡ f
      → MayCarry held puts told tells talk faults (shown_over f m turns rack rack') out out' err err' rack rack' ending
      → MayCarry held puts told tells talk faults (shown_over form m turns rack rack') out out' err err' rack rack' ending
  as_form f form m turns out out' err err' rack rack' ending is c = subst (λ w. MayCarry held puts told tells talk faults (shown_over w m turns rack rack') out out' err err' rack rack' ending) (sym is) c

  -- the executable of a text was run, or there was no memory to begin
  pub text_carried : (form : Form) (text : List ℕ) (executable : execute.Executable) (turns : ℕ) (out out' : O) (err err' : E) (rack rack' : Rack X F) (ending : Ending)
      → RunsText form text executable → MayCarry held puts told tells talk faults (shown_over form (meaning (executable_view executable)) turns rack rack') out out' err err' rack rack' ending
      → RecordsAs told tells form err err' rack rack' → SaysTheSame (meaning (executable_view executable) turns)
      → ExecutesText held puts told tells talk faults form turns text out out' err err' rack rack' ending
  text_carried form text executable turns out out' err err' rack rack' ending r (inl c) told_as again =
      inl (
        r.program,
        r.is,
        subst (λ o. Carries held puts told tells talk faults (shown form (states (slots_of rack)) o) out out' err err' rack rack' ending)
            (r.means turns (ready_slot (states (slots_of rack))) (answers_in (grown rack rack'))) c,
        told_as,
        subst SaysTheSame (λ i ready answers. r.means turns ready answers i) again,
        r.never_stuck,
      )
  text_carried form text executable turns out out' err err' rack rack' ending r (inr w) told_as again = inr (subst (RefusesText form text) (sym w.0) tt, w.1)

  -- ---- a call

  module _ {I : Type 0} (left : I → Option (List ℕ)) (reads : I → ℕ) (form : Form) (turns : ℕ) (input input' : I) (out out' : O) (err err' : E) (rack rack' : Rack X F) where
    abbrev Done : Ending → Type 0
    Done ending = Executes held puts told tells talk faults left reads form turns input input' out out' err err' rack rack' ending

    abbrev Decided : Ending → Type 0
    Decided ending = (text : List ℕ) → (IsCrowded rack → ⊥) → Gives form (left input) text
        → (Rose (reads input) (reads input') → ⊥) → (Rose (puts out) (puts out') → ⊥) → (Rose (tells err) (tells err') → ⊥)
        → DecidesExecution form turns (ready_slot (states (slots_of rack))) (answers_in (grown rack rack')) text ending

    abbrev Refusing : Ending → Type 0
    Refusing ending = (kind : FaultKind) (line : Line) → ending ≡ Refused kind line → RefusesRun form (left input) (left input') kind line.0

    abbrev Limiting : Ending → Type 0
    Limiting ending = (kind : LimitKind) → (kind ≡ L7 → ⊥) → ending ≡ Limit kind → PassesAs form (left input) (left input') kind

    abbrev Made : Type 0
    Made = (number : ℕ) → form ≡ Generated number → input' ≡ input

    -- nothing was run
    idle : (ending : Ending) → Untouched held puts told tells talk faults out out' err err' rack rack' → (IsOfProgram ending → ⊥) → (ending ≡ WriteFault → ⊥) → IsOfExecution ending
        → ComesWhere (Limit L7) ending (IsCrowded rack) → ComesWhere (Limit L8) ending (IsLarge form × (IsCrowded rack → ⊥)) → (ending ≡ Limit L7 → input' ≡ input) → Made → Refusing ending → Limiting ending
        → (ending ≡ ReadFault → Rose (reads input) (reads input')) → ReadsWithin (left input) (left input') → ((ending ≡ ReadFault → ⊥) → reads input' ≡ reads input) → Decided ending
        → Done ending
    idle ending u not_run calm own crowded numbered unread made refused limit fault within steady decides = record {
      whole = λ h. absurd (not_run h);
      part = λ h. absurd (calm h);
      want = λ h. inl u;
      other = inr (inr (inr u));
      ends = own;
      crowded = crowded;
      numbered = numbered;
      unread = unread;
      made = made;
      recorded = λ e. front_unchanged (states (slots_of rack)) (grown rack rack') err err' u.errors;
      talks = same_talks talk rack rack' u.links;
      links = same_links talk faults rack rack' u.links;
      dropped = same_dropped rack rack' u.links;
      logged = same_log rack rack' u.links;
      refused = refused;
      limit = limit;
      read_fault = fault;
      write_fault = λ h. absurd (calm h);
      within = within;
      reads_steady = steady;
      puts_steady = λ h. ap puts u.output;
      tells_steady = λ h. ap tells u.errors;
      decides = decides;
    }

    -- the rack has room, and the ending is none of the two limits on slots and numbers
    no_crowd : (ending : Ending) → (IsCrowded rack → ⊥) → (ending ≡ Limit L7 → ⊥) → ComesWhere (Limit L7) ending (IsCrowded rack)
    no_crowd ending room other = record { only = λ e. absurd (other e); there = λ full. absurd (room full) }

    no_number : (ending : Ending) (text : List ℕ) → IsWithin form text → (ending ≡ Limit L8 → ⊥) → ComesWhere (Limit L8) ending (IsLarge form × (IsCrowded rack → ⊥))
    no_number ending text small other = record { only = λ e. absurd (other e); there = λ h. absurd (not_large form text small h.0) }

    -- the text was refused
    text_refused : (ending : Ending) (text : List ℕ) → (IsCrowded rack → ⊥) → Takes left reads form input input' text → RefusesText form text ending
        → Untouched held puts told tells talk faults out out' err err' rack rack' → Done ending
    text_refused ending text room t h u =
        idle ending u (refused_not_run form text ending h) (λ e. subst (RefusesText form text) e h) (refused_is_own form text ending h)
        (no_crowd ending room (λ e. (subst (RefusesText form text) e h).0 refl))
        (no_number ending text t.within (λ e. (subst (RefusesText form text) e h).1 refl))
        (λ e. absurd ((subst (RefusesText form text) e h).0 refl)) t.unread
        (λ kind line e. record { text = text; from = t.from; fault = subst (RefusesText form text) e h })
        (λ kind other e. inr (record { text = text; from = t.from; limit = (subst (RefusesText form text) e h).2 }))
        (λ e. absurd (subst (RefusesText form text) e h))
        t.bounded (λ e. t.steady)
        (λ told none e calm calm' calm''. subst (λ w. DecidesExecution form turns (ready_slot (states (slots_of rack))) (answers_in (grown rack rack')) w ending) (sym (t.given told e))
        (refused_decides form turns _ _ text ending t.within h))

    -- a program that was carried out ends as it means to
    concluded : (ending : Ending) (text : List ℕ) (p : Program form) → IsWithin form text → IsRunAs form text (Ok p) → Carries held puts told tells talk faults (shown_over form (program_meaning form p) turns rack rack') out out' err err' rack rack' ending
        → (Rose (puts out) (puts out') → ⊥) → (Rose (tells err) (tells err') → ⊥) → Sorted ending → DecidesExecution form turns (ready_slot (states (slots_of rack))) (answers_in (grown rack rack')) text ending
    concluded ending text p small is c calm calm' (inl h) =
        let w = c.whole h in inr (inr (small, (Ok p, is, subst (λ e. EndsAs e ending) (sym w.runs.ends ∙ shown_ending form (states (slots_of rack)) (meaning_over (program_meaning form p) turns rack rack')) w.ends)))
    concluded ending text p small is c calm calm' (inr (inl e)) = absurd (either calm calm' (c.fault e))
    concluded ending text p small is c calm calm' (inr (inr e)) = inl e

    other_of : (ending : Ending) → Sorted ending → IsOfProgram ending ⊎ (ending ≡ WriteFault) ⊎ (ending ≡ OutOfMemory) ⊎ Untouched held puts told tells talk faults out out' err err' rack rack'
    other_of ending (inl h) = inl h
    other_of ending (inr (inl e)) = inr (inl e)
    other_of ending (inr (inr e)) = inr (inr (inl e))

    -- a program that was carried out to its end ran over the slots of the rack
    ran_of : (ending : Ending) (p : Program form) → CarriedOut held puts told tells talk faults (shown_over form (program_meaning form p) turns rack rack') out out' err err' rack rack' ending
        → ReplayRan (program_meaning form p turns) (states (slots_of rack)) (grown rack rack') (meaning_over (program_meaning form p) turns rack rack')
    ran_of ending p w =
        let slots : List SlotState = states (slots_of rack) in
        let o : Observed = meaning_over (program_meaning form p) turns rack rack' in
        record {
          means = refl;
          said = sym (shown_conversation form slots o) ∙ w.runs.conversation;
          ended = λ slot request e. ended_own w.ended ending w.ends slot request (sym w.runs.ends ∙ shown_ending form slots o ∙ e);
          after = w.slots.ended;
          exchanged = subst (λ s. Slots s (grown rack rack') w.slots.ended) (taken_alike (ready_slot slots) slots) w.slots.exchanged;
        }

    -- so it is that of a recorded run, where its links replay one
    says_again : (ending : Ending) (p : Program form) → CarriedOut held puts told tells talk faults (shown_over form (program_meaning form p) turns rack rack') out out' err err' rack rack' ending
        → SaysTheSame (program_meaning form p turns) → SaysAgain (program_meaning form p) turns rack rack'
    says_again ending p w r recorded seen a h =
        r (states (slots_of rack)) recorded (grown rack rack') seen (meaning_over (program_meaning form p) turns rack rack') a (ran_of ending p w) h

    -- its program was run
    text_run : (ending : Ending) (text : List ℕ) (p : Program form) → (IsCrowded rack → ⊥) → Takes left reads form input input' text → IsRunAs form text (Ok p)
        → Carries held puts told tells talk faults (shown_over form (program_meaning form p) turns rack rack') out out' err err' rack rack' ending
        → RecordsAs told tells form err err' rack rack' → SaysTheSame (program_meaning form p turns) → IsNeverStuck (program_meaning form p) → Done ending
    text_run ending text p room t is c told_as r never = record {
      whole = λ h. record { text = text; from = t.from; program = p; is = is; carried = c.whole h; again = says_again ending p (c.whole h) r; never_stuck = never };
      part = λ h. record { text = text; from = t.from; program = p; is = is; carried = c.part (inl h); never_stuck = never };
      want = λ h. inr (record { text = text; from = t.from; program = p; is = is; carried = c.part (inr h); never_stuck = never });
      other = other_of ending (sorted ending c.ends);
      ends = carried_is_own ending c.ends;
      crowded = no_crowd ending room (λ e. subst IsOfCarried e c.ends);
      numbered = no_number ending text t.within (λ e. subst IsOfCarried e c.ends);
      unread = λ e. absurd (subst IsOfCarried e c.ends);
      made = t.unread;
      recorded = told_as;
      talks = c.talks;
      links = c.links;
      dropped = c.dropped;
      logged = c.logged;
      refused = λ kind line e. absurd (subst IsOfCarried e c.ends);
      limit = λ kind but e. absurd (subst IsOfCarried e c.ends);
      read_fault = λ e. absurd (subst IsOfCarried e c.ends);
      write_fault = c.fault;
      within = t.bounded;
      reads_steady = λ e. t.steady;
      puts_steady = λ h. (c.steady h).0;
      tells_steady = λ h. (c.steady h).1;
      decides = λ told none e calm calm' calm''. subst (λ w. DecidesExecution form turns (ready_slot (states (slots_of rack))) (answers_in (grown rack rack')) w ending) (sym (t.given told e))
          (concluded ending text p t.within is c calm' calm'' (sorted ending c.ends));
    }

    -- the text was taken
    pub executes : (ending : Ending) (text : List ℕ) → (IsCrowded rack → ⊥) → Takes left reads form input input' text
        → ExecutesText held puts told tells talk faults form turns text out out' err err' rack rack' ending → Done ending
    executes ending text room t (inl ran) = text_run ending text ran.0 room t ran.1 ran.2 ran.3 ran.4 ran.5
    executes ending text room t (inr h) = text_refused ending text room t h.0 h.1

    -- there is no text
    abbrev IsLacking : Ending → Type 0
    IsLacking ending = (ending ≡ ReadFault) ⊎ (ending ≡ Limit (limit_on form)) ⊎ (ending ≡ OutOfMemory)

    lacking_own : (ending : Ending) → IsLacking ending → IsOfExecution ending
    lacking_own ending (inl e) = subst IsOfExecution (sym e) tt
    lacking_own ending (inr (inl e)) = subst IsOfExecution (sym e) tt
    lacking_own ending (inr (inr e)) = subst IsOfExecution (sym e) tt

    lacking_not_run : (ending : Ending) → IsLacking ending → IsOfProgram ending → ⊥
    lacking_not_run ending (inl e) h = subst IsOfProgram e h
    lacking_not_run ending (inr (inl e)) h = subst IsOfProgram e h
    lacking_not_run ending (inr (inr e)) h = subst IsOfProgram e h

    lacking_calm : (ending : Ending) → IsLacking ending → ending ≡ WriteFault → ⊥
    lacking_calm ending (inl e) w = cc (e, w)
    lacking_calm ending (inr (inl e)) w = cc (e, w)
    lacking_calm ending (inr (inr e)) w = cc (e, w)

    lacking_refused : (ending : Ending) → IsLacking ending → (kind : FaultKind) (line : Line) → ending ≡ Refused kind line → ⊥
    lacking_refused ending (inl e) kind line w = cc (e, w)
    lacking_refused ending (inr (inl e)) kind line w = cc (e, w)
    lacking_refused ending (inr (inr e)) kind line w = cc (e, w)

    -- a limit is that on what is run
    lacking_limit : (ending : Ending) → IsLacking ending → (kind : LimitKind) → ending ≡ Limit kind → limit_on form ≡ kind
    lacking_limit ending (inl e) kind w = absurd (cc (e, w))
    lacking_limit ending (inr (inl e)) kind w = limit_name (limit_on form) kind (sym e ∙ w)
    lacking_limit ending (inr (inr e)) kind w = absurd (cc (e, w))

    lacking_decides : (ending : Ending) → Lacks left reads form input input' ending → IsLacking ending → Decided ending
    lacking_decides ending l (inl e) text none is calm calm' calm'' = absurd (calm (l.fault e))
    lacking_decides ending l (inr (inl e)) text none is calm calm' calm'' = inr (inl (l.beyond text is e, e))
    lacking_decides ending l (inr (inr e)) text none is calm calm' calm'' = inl e

    pub lacks : (ending : Ending) → (IsCrowded rack → ⊥) → Lacks left reads form input input' ending → Untouched held puts told tells talk faults out out' err err' rack rack' → Done ending
    lacks ending room l u =
        let named : (kind : LimitKind) → ending ≡ Limit kind → limit_on form ≡ kind = lacking_limit ending l.ends in
        let passed : (kind : LimitKind) → ending ≡ Limit kind → IsPassed form (left input) (left input') = λ kind e. l.passed (e ∙ ap Limit (sym (named kind e))) in
        idle ending u (lacking_not_run ending l.ends) (lacking_calm ending l.ends) (lacking_own ending l.ends)
        (no_crowd ending room (λ e. no_slots form (named L7 e)))
        (record { only = λ e. (large_of form (left input) (left input') (passed L8 e) (named L8 e), room); there = λ h. l.numbered h.0 })
        (λ e. absurd (no_slots form (named L7 e))) l.unread
        (λ kind line e. absurd (lacking_refused ending l.ends kind line e))
        (λ kind but e. inl (sym (named kind e), passed kind e))
        l.fault l.bounded l.steady (lacking_decides ending l l.ends)

    -- the rack has too many slots
    pub full : IsCrowded rack → input' ≡ input → Untouched held puts told tells talk faults out out' err err' rack rack' → Done (Limit L7)
    full crowded same u =
        idle (Limit L7) u (λ h. h) (λ e. cc (e)) tt (record { only = λ e. crowded; there = λ h. inl refl })
        (record { only = λ e. absurd (cc (e)); there = λ h. absurd (h.1 crowded) }) (λ e. same) (λ number e. same)
        (λ kind line e. absurd (cc (e))) (λ kind but e. absurd (but (cc (e)))) (λ e. absurd (cc (e)))
        (unread_within left reads input input' same) (λ e. ap reads same) (λ text none e calm calm' calm''. absurd (none crowded))

    -- there was no memory to read the words
    pub wordless : input' ≡ input → Untouched held puts told tells talk faults out out' err err' rack rack' → Done OutOfMemory
    wordless same u =
        idle OutOfMemory u (λ h. h) (λ e. cc (e)) tt (record { only = λ e. absurd (cc (e)); there = λ h. inr refl })
        (record { only = λ e. absurd (cc (e)); there = λ h. inr refl }) (λ e. same) (λ number e. same)
        (λ kind line e. absurd (cc (e))) (λ kind but e. absurd (cc (e))) (λ e. absurd (cc (e)))
        (unread_within left reads input input' same) (λ e. ap reads same) (λ text none e calm calm' calm''. inl refl)
