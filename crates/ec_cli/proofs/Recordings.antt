-- The transcript of a recording behind what was said.
use Rattle.std.proofs.Common.{◌≡◌, ℕ, Bool, true, false, List, [], drop, length, refl, ap, sym, ◌∙◌, subst, arith, Option, inl, inr}
use Rattle.std.specs.Prelude.{◌⊎◌}
use Rattle.std.specs.declared.alloc.Global.{Global as Allocator}
use Rattle.std.specs.declared.dyn_box.DynBox.{DynBox}
use Rattle.ec_base.specs.Causes.{Rose}
use Rattle.ec_base.specs.Putting.{Puts, PutsPart, Took}
use Rattle.ec_base.proofs.Transfers.{Puts-none, Took-puts}
use Rattle.ec_link.specs.declared.logged.Logged.{Logged}
use Rattle.ec_link.specs.declared.rack.Rack.{Rack}
use Rattle.ec_link.specs.Logged.{Talk, growth_of}
use Rattle.ec_link.specs.Rack.{slots_of}
use Rattle.ec_link.specs.Slot.{states}
use Rattle.ec_link.specs.SlotState.{SlotState}
use Rattle.ec_meaning_defs.specs.evaluation.Whole.{Observed}
use Rattle.ec_meaning_defs.specs.observed.Run.{IsFront}
use Rattle.ec_transcript.specs.declared.version.Version.TheVariants.{Two}
use Rattle.ec_transcript.specs.Clean.{clean}
use Rattle.ec_transcript.specs.Text.{text_of}
use Rattle.ec_cli.specs.declared.ending.Ending.{Ending}
use Rattle.ec_cli.specs.declared.ending.Ending.TheVariants.{Wrote, Exited, Trapped, TurnsSpent, Usage, Refused, Limit, ReadFault, WriteFault, OutOfMemory}
use Rattle.ec_cli.specs.Answers.{grown}
use Rattle.ec_cli.specs.Ending.{is_whole}
use Rattle.ec_cli.specs.Executing.{IsOfProgram, CarriedOut, CarriedPart, Carries}
use Rattle.ec_cli.specs.Recording.{Records}
use Rattle.ec_cli.specs.Recordings.{marks_of, transcript, with_transcript, RecordsPart}
use Rattle.ec_cli.proofs.Reports.{front_all}

-- what is written is the transcript of what was said since then
pub text_same : (marks : List (Bool × List ℕ)) (slots : List SlotState) (log old new : List Logged) (n : ℕ) → marks ≡ marks_of slots → log ≡ drop n new → n ≡ length old
    → text_of Two marks (clean log) ≡ transcript slots (growth_of old new)
text_same marks slots log old new n m l e = λ i. text_of Two (m i) (clean ((l ∙ ap (λ k. drop k new) e) i))

-- nothing was put, which is a front
pub front_unchanged : {E : Type 0} {told : E → Option (List ℕ)} {tells : E → ℕ} (slots : List SlotState) (log : List Logged) (err err' : E) → err' ≡ err → RecordsPart told tells slots log err err'
front_unchanged {told} {tells} slots log err err' same = record {
  front = [];
  is_front = record { rest = transcript slots log; same = refl };
  took = subst (λ l. Took told tells err l []) (sym same) (Took-puts (Puts-none err));
}

front_whole : {E : Type 0} {told : E → Option (List ℕ)} {tells : E → ℕ} (slots : List SlotState) (log : List Logged) (err err' : E) → Puts told tells err err' (transcript slots log) → RecordsPart told tells slots log err err'
front_whole slots log err err' p = record { front = transcript slots log; is_front = front_all (transcript slots log); took = Took-puts p }

front_part : {E : Type 0} {told : E → Option (List ℕ)} {tells : E → ℕ} (slots : List SlotState) (log : List Logged) (err err' : E) → PutsPart told tells err err' (transcript slots log) → RecordsPart told tells slots log err err'
front_part slots log err err' p = record { front = p.front; is_front = record { rest = p.rest; same = p.split }; took = p.took }

module _ {E : Type 0} (told : E → Option (List ℕ)) (tells : E → ℕ) (slots : List SlotState) (log : List Logged) (err err' : E) (ending ending' : Ending) where
  front_any : (b : Bool) → Records told tells b (transcript slots log) err err' ending ending' → RecordsPart told tells slots log err err'
  front_any false r = front_unchanged slots log err err' r.0
  front_any true (inl p) = front_whole slots log err err' p.0
  front_any true (inr (inl p)) = front_part slots log err err' p.0
  front_any true (inr (inr p)) = front_unchanged slots log err err' p.0

  -- however the run ended
  pub front_recorded : (written : List ℕ) → written ≡ transcript slots log → Records told tells (is_whole ending) written err err' ending ending' → RecordsPart told tells slots log err err'
  front_recorded written is r = front_any (is_whole ending) (subst (λ t. Records told tells (is_whole ending) t err err' ending ending') is r)

-- a count that is always the same never rose
pub never_rose : Rose 0 0 → ⊥
never_rose r = omega (arith, r)

-- The program ran over a sink that shows nothing, `unseen`, and the transcript was put into another, `err`.
module _ {O U E X : Type 0} {F : X → Type 0} (held : O → Option (List ℕ)) (puts : O → ℕ) (shown : U → Option (List ℕ)) (shows : U → ℕ) (told : E → Option (List ℕ)) (tells : E → ℕ)
    (talk : DynBox X Allocator F → Option Talk) (faults : DynBox X Allocator F → ℕ)
    (over : Observed) (out out' : O) (unseen unseen' : U) (err err' : E) (rack rack' : Rack X F) (calm : Rose (shows unseen) (shows unseen') → ⊥) where
  abbrev text : List ℕ
  text = transcript (states (slots_of rack)) (grown rack rack')

  abbrev Out : Ending → Type 0
  Out ending = CarriedOut held puts shown shows talk faults over out out' unseen unseen' rack rack' ending

  abbrev Ran : Ending → Type 0
  Ran ending = Carries held puts shown shows talk faults over out out' unseen unseen' rack rack' ending

  abbrev OutTold : Ending → Type 0
  OutTold ending = CarriedOut held puts told tells talk faults (with_transcript (states (slots_of rack)) over) out out' err err' rack rack' ending

  abbrev PartTold : Type 0
  PartTold = CarriedPart held puts told tells talk faults (with_transcript (states (slots_of rack)) over) out out' err err' rack rack'

  abbrev RanTold : Ending → Type 0
  RanTold ending = Carries held puts told tells talk faults (with_transcript (states (slots_of rack)) over) out out' err err' rack rack' ending

  abbrev PutFront : Type 0
  PutFront = RecordsPart told tells (states (slots_of rack)) (grown rack rack') err err'

  -- ---- the run and its transcript

  -- the transcript is that of the conversation
  whole_told : (ending : Ending) → Out ending → Puts told tells err err' text → OutTold ending
  whole_told ending c p = record {
    ended = c.ended;
    ends = c.ends;
    runs = record {
      ends = c.runs.ends;
      conversation = c.runs.conversation;
      output = c.runs.output;
      errors = subst (λ g. Puts told tells err err' (transcript (states (slots_of rack)) g)) (sym c.runs.conversation) p;
    };
    slots = c.slots;
  }

  -- a whole run with a front of its transcript
  cut_told : (ending : Ending) → Out ending → PutFront → PartTold
  cut_told ending c f = record {
    part = record {
      printed = over.output;
      complained = f.front;
      conversation = subst (λ g. IsFront g over.conversation) c.runs.conversation (front_all over.conversation);
      output_front = front_all over.output;
      errors_front = subst (λ g. IsFront f.front (transcript (states (slots_of rack)) g)) (sym c.runs.conversation) f.is_front;
      output = Took-puts c.runs.output;
      errors = f.took;
    };
    slots = c.slots;
  }

  -- a part of a run, with nothing of its transcript
  part_told : CarriedPart held puts shown shows talk faults over out out' unseen unseen' rack rack' → err' ≡ err → PartTold
  part_told c same = record {
    part = record {
      printed = c.part.printed;
      complained = [];
      conversation = c.part.conversation;
      output_front = c.part.output_front;
      errors_front = record { rest = transcript (states (slots_of rack)) over.conversation; same = refl };
      output = c.part.output;
      errors = subst (λ l. Took told tells err l []) (sym same) (Took-puts (Puts-none err));
    };
    slots = c.slots;
  }

  -- the output of the program alone can have failed
  one_rose : Rose (puts out) (puts out') ⊎ Rose (shows unseen) (shows unseen') → Rose (puts out) (puts out') ⊎ Rose (tells err) (tells err')
  one_rose (inl r) = inl r
  one_rose (inr r) = absurd (calm r)

  told_whole : (ending : Ending) → IsOfProgram ending → (ending ≡ WriteFault → ⊥) → (ending ≡ OutOfMemory → ⊥) → Ran ending → Puts told tells err err' text → RanTold ending
  told_whole ending own steady room c p = record {
    whole = λ _. whole_told ending (c.whole own) p;
    part = λ stops. absurd (elim stops [ inl e ↦ steady e | inr e ↦ room e ]);
    ends = c.ends;
    talks = c.talks;
    links = c.links;
    dropped = c.dropped;
    logged = c.logged;
    fault = λ e. absurd (steady e);
    steady = λ e. ((c.steady steady).0, p.steady);
  }

  told_failed : (ending : Ending) → IsOfProgram ending → (ending ≡ WriteFault → ⊥) → Ran ending → PutsPart told tells err err' text → RanTold WriteFault
  told_failed ending own steady c p = record {
    whole = λ e. absurd e;
    part = λ _. cut_told ending (c.whole own) (front_part (states (slots_of rack)) (grown rack rack') err err' p);
    ends = tt;
    talks = c.talks;
    links = c.links;
    dropped = c.dropped;
    logged = c.logged;
    fault = λ _. inr p.failed;
    steady = λ e. absurd (e refl);
  }

  told_wanting : (ending : Ending) → IsOfProgram ending → (ending ≡ WriteFault → ⊥) → Ran ending → err' ≡ err → RanTold OutOfMemory
  told_wanting ending own steady c same = record {
    whole = λ e. absurd e;
    part = λ _. cut_told ending (c.whole own) (front_unchanged (states (slots_of rack)) (grown rack rack') err err' same);
    ends = tt;
    talks = c.talks;
    links = c.links;
    dropped = c.dropped;
    logged = c.logged;
    fault = λ e. absurd (cc (e));
    steady = λ e. ((c.steady steady).0, ap tells same);
  }

  told_any : (ending ending' : Ending) → IsOfProgram ending → (ending ≡ WriteFault → ⊥) → (ending ≡ OutOfMemory → ⊥) → Ran ending → Records told tells true text err err' ending ending' → RanTold ending'
  told_any ending ending' own steady room c (inl p) = subst RanTold (sym p.1) (told_whole ending own steady room c p.0)
  told_any ending ending' own steady room c (inr (inl p)) = subst RanTold (sym p.1) (told_failed ending own steady c p.0)
  told_any ending ending' own steady room c (inr (inr p)) = subst RanTold (sym p.1) (told_wanting ending own steady c p.0)

  -- the run was stopped
  not_told : (ending : Ending) → (IsOfProgram ending → ⊥) → Ran ending → err' ≡ err → RanTold ending
  not_told ending stopped c same = record {
    whole = λ h. absurd (stopped h);
    part = λ stops. part_told (c.part stops) same;
    ends = c.ends;
    talks = c.talks;
    links = c.links;
    dropped = c.dropped;
    logged = c.logged;
    fault = λ e. one_rose (c.fault e);
    steady = λ e. ((c.steady e).0, ap tells same);
  }

  -- with the transcript that the call put
  told_by : (ending ending' : Ending) → Ran ending → Records told tells (is_whole ending) text err err' ending ending' → RanTold ending'
  told_by (Exited status) ending' c r = told_any (Exited status) ending' tt (λ e. cc (e)) (λ e. cc (e)) c r
  told_by (Trapped trap line) ending' c r = told_any (Trapped trap line) ending' tt (λ e. cc (e)) (λ e. cc (e)) c r
  told_by TurnsSpent ending' c r = told_any TurnsSpent ending' tt (λ e. cc (e)) (λ e. cc (e)) c r
  told_by WriteFault ending' c r = subst RanTold (sym r.1) (not_told WriteFault (λ h. h) c r.0)
  told_by OutOfMemory ending' c r = subst RanTold (sym r.1) (not_told OutOfMemory (λ h. h) c r.0)
  told_by Wrote ending' c r = absurd c.ends
  told_by Usage ending' c r = absurd c.ends
  told_by (Refused kind line) ending' c r = absurd c.ends
  told_by (Limit kind) ending' c r = absurd c.ends
  told_by ReadFault ending' c r = absurd c.ends

  pub carries_recorded : (ending ending' : Ending) (written : List ℕ) → written ≡ text → Ran ending → Records told tells (is_whole ending) written err err' ending ending' → RanTold ending'
  carries_recorded ending ending' written is c r = told_by ending ending' c (subst (λ t. Records told tells (is_whole ending) t err err' ending ending') is r)
