-- The line of a generated program behind what it printed.
use Rattle.std.proofs.Common.{◌≡◌, ℕ, ◌≤◌, ◌-◌, List, [], ◌++◌, length, length-append, refl, ap, sym, ◌∙◌, subst, arith, append_assoc, append-nil, Option, Some, None, inl, inr}
use Rattle.std.specs.Prelude.{◌⊎◌}
use Rattle.std.specs.declared.alloc.Global.{Global as Allocator}
use Rattle.std.specs.declared.dyn_box.DynBox.{DynBox}
use Rattle.ec_base.specs.Causes.{Rose}
use Rattle.ec_base.specs.Putting.{Puts, PutsPart}
use Rattle.ec_base.proofs.Transfers.{Puts-then, PutsPart-then, Took-puts}
use Rattle.ec_generate.specs.Generated.{generated}
use Rattle.ec_link.specs.declared.logged.Logged.{Logged}
use Rattle.ec_link.specs.declared.rack.Rack.{Rack}
use Rattle.ec_link.specs.Logged.{Talk}
use Rattle.ec_link.specs.Rack.{log_of}
use Rattle.ec_meaning_defs.specs.evaluation.State as evaluation
use Rattle.ec_meaning_defs.specs.evaluation.Whole.{Observed}
use Rattle.ec_meaning_defs.specs.observed.Run.{IsFront}
use Rattle.ec_execution_defs.specs.Runs.{Runs, RunsPart}
use Rattle.ec_cli.specs.declared.ending.Ending.{Ending}
use Rattle.ec_cli.specs.declared.ending.Ending.TheVariants.{Wrote, Exited, Trapped, TurnsSpent, Usage, Refused, Limit, ReadFault, WriteFault, OutOfMemory}
use Rattle.ec_cli.specs.declared.report.Summary.{Summary}
use Rattle.ec_cli.specs.Answers.{grown}
use Rattle.ec_cli.specs.Executing.{IsOfProgram, EndsAs, CarriedOut, CarriedPart, Carries}
use Rattle.ec_cli.specs.Reporting.{outcome_of, line_of, Reports}
use Rattle.ec_cli.specs.Reports.{outcome, line_with, report_line, with_report}

-- ---- how many requests were made

pub no_fewer : {A : Type 0} (old grew new : List A) → new ≡ old ++ grew → length old ≤ length new
no_fewer old grew new e = rw e omega (arith, length-append old grew)

pub how_many : {A : Type 0} (old grew new : List A) → new ≡ old ++ grew → length new - length old ≡ length grew
how_many old grew new e = rw e omega (arith, length-append old grew)

-- ---- fronts

front_more : {A : Type 0} (front whole more : List A) → IsFront front whole → IsFront front (whole ++ more)
front_more front whole more f = record { rest = f.rest ++ more; same = ap (λ l. l ++ more) f.same ∙ append_assoc front f.rest more }

pub front_all : {A : Type 0} (whole : List A) → IsFront whole whole
front_all whole = record { rest = []; same = sym (append-nil whole) }

front_behind : {A : Type 0} (whole front rest more : List A) → more ≡ front ++ rest → IsFront (whole ++ front) (whole ++ more)
front_behind whole front rest more e = record { rest = rest; same = ap (λ l. whole ++ l) e ∙ sym (append_assoc whole front rest) }

-- ---- the run and its line

-- the outcome of a program is that of the call
outcome_as : (e : evaluation.Ending) (ending : Ending) → EndsAs e ending → outcome e ≡ outcome_of ending
outcome_as (evaluation.exited status) ending h = rw h refl
outcome_as (evaluation.trapped trap line) ending h = rw h refl
outcome_as evaluation.turns_spent ending h = rw h refl
outcome_as (evaluation.waits slot request) ending h = absurd h
outcome_as evaluation.stuck ending h = absurd h

line_is : (it : Summary) (o : Observed) (how : List ℕ) → it.bytes ≡ length (generated it.number) → it.requests ≡ length o.conversation → outcome o.ending ≡ Some how
    → report_line it.number (length (generated it.number)) (length o.conversation) (outcome o.ending) ≡ line_of it how
line_is it o how bytes requests ends =
    ap (λ w. report_line it.number (length (generated it.number)) (length o.conversation) w) ends
    ∙ (λ i. line_with it.number (sym bytes i) (sym requests i) how)

module _ {O E X : Type 0} {F : X → Type 0} (held : O → Option (List ℕ)) (puts : O → ℕ) (told : E → Option (List ℕ)) (tells : E → ℕ) (talk : DynBox X Allocator F → Option Talk) (faults : DynBox X Allocator F → ℕ)
    (it : Summary) (over : Observed) (out mid out' : O) (err err' : E) (rack rack' : Rack X F)
    (bytes : it.bytes ≡ length (generated it.number)) (requests : it.requests ≡ length (grown rack rack')) where
  abbrev Out : Ending → Type 0
  Out ending = CarriedOut held puts told tells talk faults over out mid err err' rack rack' ending

  abbrev OutTold : Ending → Type 0
  OutTold ending = CarriedOut held puts told tells talk faults (with_report it.number over) out out' err err' rack rack' ending

  abbrev PartTold : Type 0
  PartTold = CarriedPart held puts told tells talk faults (with_report it.number over) out out' err err' rack rack'

  -- the line is that of the run
  line_told : (ending : Ending) (how : List ℕ) → outcome_of ending ≡ Some how → (c : Out ending)
      → report_line it.number (length (generated it.number)) (length over.conversation) (outcome over.ending) ≡ line_of it how
  line_told ending how h c =
      line_is it over how bytes (requests ∙ sym (ap length c.runs.conversation)) (ap outcome c.runs.ends ∙ outcome_as c.ended ending c.ends ∙ h)

  whole_told : (ending : Ending) (how : List ℕ) → outcome_of ending ≡ Some how → Out ending → Puts held puts mid out' (line_of it how) → OutTold ending
  whole_told ending how h c p = record {
    ended = c.ended;
    ends = c.ends;
    runs = record {
      ends = c.runs.ends;
      conversation = c.runs.conversation;
      output = Puts-then c.runs.output (subst (λ l. Puts held puts mid out' l) (sym (line_told ending how h c)) p);
      errors = c.runs.errors;
    };
    slots = c.slots;
  }

  part_told : (ending : Ending) (how : List ℕ) → outcome_of ending ≡ Some how → Out ending → PutsPart held puts mid out' (line_of it how) → PartTold
  part_told ending how h c p =
      let q = PutsPart-then c.runs.output (subst (λ l. PutsPart held puts mid out' l) (sym (line_told ending how h c)) p) in
      record {
        part = record {
          printed = q.front;
          complained = over.errors;
          conversation = subst (λ g. IsFront g over.conversation) c.runs.conversation (front_all over.conversation);
          output_front = record { rest = q.rest; same = q.split };
          errors_front = front_all over.errors;
          output = q.took;
          errors = Took-puts c.runs.errors;
        };
        slots = c.slots;
      }

  -- a part of a run is a part of it with its line
  part_more : CarriedPart held puts told tells talk faults over out mid err err' rack rack' → out' ≡ mid → PartTold
  part_more c same = record {
    part = record {
      printed = c.part.printed;
      complained = c.part.complained;
      conversation = c.part.conversation;
      output_front = front_more c.part.printed over.output _ c.part.output_front;
      errors_front = c.part.errors_front;
      output = rw same c.part.output;
      errors = c.part.errors;
    };
    slots = c.slots;
  }

  abbrev Ran : Ending → Type 0
  Ran ending = Carries held puts told tells talk faults over out mid err err' rack rack' ending

  abbrev RanTold : Ending → Type 0
  RanTold ending = Carries held puts told tells talk faults (with_report it.number over) out out' err err' rack rack' ending

  -- the program came to its end
  told_whole : (ending : Ending) (how : List ℕ) → outcome_of ending ≡ Some how → IsOfProgram ending → (ending ≡ WriteFault → ⊥) → (ending ≡ OutOfMemory → ⊥) → Ran ending
      → Puts held puts mid out' (line_of it how) → RanTold ending
  told_whole ending how h own calm room c p = record {
    whole = λ _. whole_told ending how h (c.whole own) p;
    part = λ stops. absurd (elim stops [ inl e ↦ calm e | inr e ↦ room e ]);
    ends = c.ends;
    talks = c.talks;
    links = c.links;
    dropped = c.dropped;
    logged = c.logged;
    fault = λ e. absurd (calm e);
    steady = λ e. (p.steady ∙ (c.steady calm).0, (c.steady calm).1);
  }

  told_failed : (ending : Ending) (how : List ℕ) → outcome_of ending ≡ Some how → IsOfProgram ending → (ending ≡ WriteFault → ⊥) → Ran ending
      → PutsPart held puts mid out' (line_of it how) → RanTold WriteFault
  told_failed ending how h own calm c p = record {
    whole = λ e. absurd e;
    part = λ _. part_told ending how h (c.whole own) p;
    ends = tt;
    talks = c.talks;
    links = c.links;
    dropped = c.dropped;
    logged = c.logged;
    fault = λ _. inl (subst (λ n. Rose n (puts out')) (c.steady calm).0 p.failed);
    steady = λ e. absurd (e refl);
  }

  told_either : (ending ending' : Ending) (how : List ℕ) → outcome_of ending ≡ Some how → IsOfProgram ending → (ending ≡ WriteFault → ⊥) → (ending ≡ OutOfMemory → ⊥) → Ran ending
      → (Puts held puts mid out' (line_of it how) × (ending' ≡ ending)) ⊎ (PutsPart held puts mid out' (line_of it how) × (ending' ≡ WriteFault)) → RanTold ending'
  told_either ending ending' how h own calm room c (inl p) = subst RanTold (sym p.1) (told_whole ending how h own calm room c p.0)
  told_either ending ending' how h own calm room c (inr p) = subst RanTold (sym p.1) (told_failed ending how h own calm c p.0)

  -- it was stopped
  not_told : (ending : Ending) → (IsOfProgram ending → ⊥) → Ran ending → out' ≡ mid → RanTold ending
  not_told ending stopped c same = record {
    whole = λ h. absurd (stopped h);
    part = λ stops. part_more (c.part stops) same;
    ends = c.ends;
    talks = c.talks;
    links = c.links;
    dropped = c.dropped;
    logged = c.logged;
    fault = λ e. rw same (c.fault e);
    steady = λ e. (ap puts same ∙ (c.steady e).0, (c.steady e).1);
  }

  -- with the line that the call put
  pub carries_told : (ending ending' : Ending) → Ran ending → Reports held puts (outcome_of ending) it mid out' ending ending' → RanTold ending'
  carries_told (Exited status) ending' c r = told_either (Exited status) ending' _ refl tt (λ e. cc (e)) (λ e. cc (e)) c r
  carries_told (Trapped trap line) ending' c r = told_either (Trapped trap line) ending' _ refl tt (λ e. cc (e)) (λ e. cc (e)) c r
  carries_told TurnsSpent ending' c r = told_either TurnsSpent ending' _ refl tt (λ e. cc (e)) (λ e. cc (e)) c r
  carries_told WriteFault ending' c r = subst RanTold (sym r.1) (not_told WriteFault (λ h. h) c r.0)
  carries_told OutOfMemory ending' c r = subst RanTold (sym r.1) (not_told OutOfMemory (λ h. h) c r.0)
  carries_told Wrote ending' c r = absurd c.ends
  carries_told Usage ending' c r = absurd c.ends
  carries_told (Refused kind line) ending' c r = absurd c.ends
  carries_told (Limit kind) ending' c r = absurd c.ends
  carries_told ReadFault ending' c r = absurd c.ends
