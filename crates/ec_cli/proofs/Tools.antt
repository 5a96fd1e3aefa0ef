-- From what was done to the clauses of the top call.
use Rattle.std.proofs.Common.{◌≡◌, ℕ, List, [], ◌++◌, refl, ap, subst, sym, ◌∙◌, Bool, true, false, Option, Some, None, inl, inr, arith}
use Rattle.std.specs.Prelude.{◌⊎◌, ◌≤◌, ◌&&◌, not, if◌then◌else◌, String, Result, Ok, Err, OnOk, OnErr}
use Rattle.std.specs.declared.alloc.Global.{Global as Allocator}
use Rattle.std.specs.declared.dyn_box.DynBox.{DynBox}
use Rattle.ec_base.specs.declared.fault.FaultKind.{FaultKind}
use Rattle.ec_base.specs.declared.fault.LimitKind.{LimitKind}
use Rattle.ec_base.specs.declared.fault.LimitKind.TheVariants.{L7, L8}
use Rattle.ec_base.specs.declared.line.Line.{Line}
use Rattle.ec_base.specs.Causes.{Rose}
use Rattle.ec_base.specs.Putting.{Puts, PutsPart}
use Rattle.ec_link.specs.declared.rack.Rack.{Rack}
use Rattle.ec_link.specs.Logged.{Talk}
use Rattle.ec_link.specs.Rack.{slots_of, log_of}
use Rattle.ec_link.specs.Slot.{states, link_at, talk_at}
use Rattle.ec_link.specs.Told.{KeepsTalks, SparesDropped}
use Rattle.ec_link.specs.SlotState.{ready_slot}
use Rattle.ec_meaning_defs.specs.observed.Observed.{answers_in}
use Rattle.ec_meaning_defs.specs.observed.Headline.{RefusesAt, ReadsWithin}
use Rattle.ec_cli.specs.declared.ending.Ending.{Ending}
use Rattle.ec_cli.specs.declared.ending.Ending.TheVariants.{Wrote, Exited, Trapped, TurnsSpent, Usage, Refused, Limit, ReadFault, WriteFault, OutOfMemory}
use Rattle.ec_cli.specs.declared.form.Form.{Form}
use Rattle.ec_cli.specs.declared.form.Form.TheVariants.{Recorded, Generated}
use Rattle.ec_cli.specs.declared.task.Task.{Task}
use Rattle.ec_cli.specs.declared.task.Task.TheVariants as tasks
use Rattle.ec_cli.specs.Tools.{HasTranslated, HasExecuted, HasDeclined, Does}
use Rattle.ec_cli.specs.Executing.{IsOfProgram, IsOfExecution, RefusesRun, PassesAs, DecidesExecution, BeforeLine, ExecutesWhole, ExecutesPart, MayExecute, Executes, Untouched}
use Rattle.ec_cli.specs.Ending.{is_whole, last_line}
use Rattle.ec_cli.specs.Recordings.{transcript, RecordsPart}
use Rattle.ec_cli.specs.Taking.{Gives, IsLarge}
use Rattle.ec_cli.specs.Tasks.{task, is_recording, is_told, line_for, IsUnnamed, IsTranslating, HasTurns}
use Rattle.ec_cli.specs.Answers.{IsCrowded, IsRefusal, Announces, ComesWhere, grown}
use Rattle.ec_cli.specs.Translating.{Translates, IsOfTranslation, IsRefused, PassesLimit, WritesWhole, WritesPart, DecidesTranslation}
use Rattle.ec_runtime.specs.Racks.{KeepsLinks}
use Rattle.ec_cli.proofs.Executions.{wordless}
use Rattle.ec_cli.proofs.Unread.{unread_within}
use Rattle.ec_cli.proofs.SameRack.{same_log, same_talks, same_links, same_dropped}
use Rattle.ec_cli.proofs.Tasks.{never_both, run_named, translation_named, as_named}
use Rattle.ec_cli.proofs.Translations.{untranslated}

-- an ending that isn't of a translation
not_of : (a b : Ending) → a ≡ b → IsOfTranslation a → (IsOfTranslation b → ⊥) → ⊥
not_of a b e h isnt = isnt (subst IsOfTranslation e h)

-- an ending of words that name no command is no other
declined_not : {ending other : Ending} → (ending ≡ Usage) ⊎ (ending ≡ OutOfMemory) → ending ≡ other → (other ≡ Usage → ⊥) → (other ≡ OutOfMemory → ⊥) → ⊥
declined_not (inl u) e no_usage no_want = no_usage (sym e ∙ u)
declined_not (inr u) e no_usage no_want = no_want (sym e ∙ u)

-- words that name a command don't end with usage
named_usage : (ending : Ending) (Holds : Type 0) → (ending ≡ Usage → ⊥) → (Holds → ⊥) → ComesWhere Usage ending Holds
named_usage ending Holds other none = record { only = λ e. absurd (other e); there = λ h. absurd (none h) }

no_refusal_but : (ending : Ending) → IsRefusal ending → (ending ≡ Wrote → ⊥) × (ending ≡ WriteFault → ⊥)
no_refusal_but ending h = (λ e. subst IsRefusal e h, λ e. subst IsRefusal e h)

-- ---- the last line

and_false : (b : Bool) → (b && false) ≡ false
and_false true = refl
and_false false = refl

whole_of : (ending : Ending) → IsOfProgram ending → is_whole ending ≡ true
whole_of (Exited status) h = refl
whole_of (Trapped trap line) h = refl
whole_of TurnsSpent h = refl
whole_of Wrote h = absurd h
whole_of Usage h = absurd h
whole_of (Refused kind line) h = absurd h
whole_of (Limit kind) h = absurd h
whole_of ReadFault h = absurd h
whole_of WriteFault h = absurd h
whole_of OutOfMemory h = absurd h

refusal_not_whole : (ending : Ending) → IsRefusal ending → is_whole ending ≡ false
refusal_not_whole Usage h = refl
refusal_not_whole (Refused kind line) h = refl
refusal_not_whole (Limit kind) h = refl
refusal_not_whole ReadFault h = refl
refusal_not_whole Wrote h = absurd h
refusal_not_whole (Exited status) h = absurd h
refusal_not_whole (Trapped trap line) h = absurd h
refusal_not_whole TurnsSpent h = absurd h
refusal_not_whole WriteFault h = absurd h
refusal_not_whole OutOfMemory h = absurd h

module _ (words : List (String Allocator)) (ending : Ending) where
  -- a recording that came to its end has none
  pub untold : (turns : ℕ) → HasTurns words Recorded turns → IsOfProgram ending → is_told words ending ≡ false
  untold turns h e =
      let recording : is_recording (task words) ≡ true = ap is_recording h in
      λ i. not (whole_of ending e i && recording i)

  told_unless : is_whole ending ≡ false → is_told words ending ≡ true
  told_unless e = ap (λ b. not (b && is_recording (task words))) e

  told_but : is_recording (task words) ≡ false → is_told words ending ≡ true
  told_but e = ap (λ b. not (is_whole ending && b)) e ∙ ap not (and_false (is_whole ending))

  line_told : is_told words ending ≡ true → line_for words ending ≡ last_line ending
  line_told e = ap (λ b. if b then last_line ending else []) e

  line_of_stopped : is_whole ending ≡ false → line_for words ending ≡ last_line ending
  line_of_stopped e = line_told (told_unless e)

  line_of_other : IsTranslating words ⊎ IsUnnamed words ⊎ IsRefusal ending → line_for words ending ≡ last_line ending
  line_of_other (inl h) = line_told (told_but (ap is_recording h))
  line_of_other (inr (inl h)) = line_told (told_but (ap is_recording h))
  line_of_other (inr (inr h)) = line_of_stopped (refusal_not_whole ending h)

  -- the line was put, or its front
  pub line_put : {E X : Type 0} {told : E → Option (List ℕ)} {tells : E → ℕ} (old new : E) (b : Bool) (r : Result (Unit {0}) X) → b ≡ is_told words ending
      → OnOk r (Puts told tells old new (if b then last_line ending else [])) → OnErr r (PutsPart told tells old new (if b then last_line ending else []))
      → Announces told tells old new (line_for words ending)
  line_put {told} {tells} old new b (Ok v) e p q = inl (subst (λ w. Puts told tells old new (if w then last_line ending else [])) e p)
  line_put {told} {tells} old new b (Err x) e p q = inr (subst (λ w. PutsPart told tells old new (if w then last_line ending else [])) e q)

module _ {E : Type 0} {told : E → Option (List ℕ)} {tells : E → ℕ} where
  later : (a b : E) (line : List ℕ) → Announces told tells a b line → tells a ≤ tells b
  later a b line (inl p) = omega (arith, p.steady)
  later a b line (inr p) = p.took.later

rose_later : (a b c : ℕ) → Rose a b → b ≤ c → Rose a c
rose_later a b c p q = omega arith

module _ {O E : Type 0} (puts : O → ℕ) {told : E → Option (List ℕ)} (tells : E → ℕ) (out out' : O) (err err' last : E) (line : List ℕ) (a : Announces told tells err' last line) where
  risen : Rose (puts out) (puts out') ⊎ Rose (tells err) (tells err') → Rose (puts out) (puts out') ⊎ Rose (tells err) (tells last)
  risen (inl r) = inl r
  risen (inr r) = inr (rose_later _ _ _ r (later err' last line a))

module _ {O E X : Type 0} {F : X → Type 0} {held : O → Option (List ℕ)} {puts : O → ℕ} {told : E → Option (List ℕ)} {tells : E → ℕ} {talk : DynBox X Allocator F → Option Talk} {faults : DynBox X Allocator F → ℕ} where
  -- a refused run touches nothing
  idle_by : {out out' : O} {err err' : E} {rack rack' : Rack X F} (ending : Ending) → IsOfProgram ending ⊎ (ending ≡ WriteFault) ⊎ (ending ≡ OutOfMemory) ⊎ Untouched held puts told tells talk faults out out' err err' rack rack'
      → IsRefusal ending → Untouched held puts told tells talk faults out out' err err' rack rack'
  idle_by Usage (inl h) k = absurd h
  idle_by (Refused kind line) (inl h) k = absurd h
  idle_by (Limit kind) (inl h) k = absurd h
  idle_by ReadFault (inl h) k = absurd h
  idle_by Wrote (inl h) k = absurd h
  idle_by (Exited status) (inl h) k = absurd k
  idle_by (Trapped trap line) (inl h) k = absurd k
  idle_by TurnsSpent (inl h) k = absurd k
  idle_by WriteFault (inl h) k = absurd k
  idle_by OutOfMemory (inl h) k = absurd k
  idle_by e (inr (inl w)) k = absurd (subst IsRefusal w k)
  idle_by e (inr (inr (inl w))) k = absurd (subst IsRefusal w k)
  idle_by e (inr (inr (inr u))) k = u

module _ {I O E X : Type 0} {F : X → Type 0} {left : I → Option (List ℕ)} {reads : I → ℕ} {held : O → Option (List ℕ)} {puts : O → ℕ} {told : E → Option (List ℕ)} {tells : E → ℕ} {talk : DynBox X Allocator F → Option Talk} {faults : DynBox X Allocator F → ℕ} where
  idle : {form : Form} {turns : ℕ} {input input' : I} {out out' : O} {err err' : E} {rack rack' : Rack X F} {ending : Ending} → Executes held puts told tells talk faults left reads form turns input input' out out' err err' rack rack' ending → IsRefusal ending → Untouched held puts told tells talk faults out out' err err' rack rack'
  idle {ending} x h = idle_by ending x.other h

module _ {I O E X : Type 0} {F : X → Type 0} {left : I → Option (List ℕ)} {reads : I → ℕ} {held : O → Option (List ℕ)} {puts : O → ℕ} {told : E → Option (List ℕ)} {tells : E → ℕ} {talk : DynBox X Allocator F → Option Talk} {faults : DynBox X Allocator F → ℕ} {words : List (String Allocator)} {input input' : I} {out out' : O} {err err' : E} {rack rack' : Rack X F} {ending : Ending} where
  -- ---- what a translation owes

  translation_of : Does left reads held puts told tells talk faults words input input' out out' err err' rack rack' ending → IsTranslating words → HasTranslated left reads held puts told tells talk faults words input input' out out' err err' rack rack' ending
  translation_of (inl t) h = t
  translation_of (inr (inl x)) h = absurd (never_both words x.form x.turns x.named h)
  translation_of (inr (inr r)) h = absurd (translation_named words h r.unnamed)

  pub wrote : Does left reads held puts told tells talk faults words input input' out out' err err' rack rack' ending → ending ≡ Wrote → WritesWhole (left input) (left input') (held out) (held out')
  wrote (inl t) e = t.translates.wrote e
  wrote (inr (inl x)) e = absurd (subst IsOfExecution e x.executes.ends)
  wrote (inr (inr r)) e = absurd (declined_not r.declines e (λ u. cc (u)) (λ u. cc (u)))

  pub written_part : Does left reads held puts told tells talk faults words input input' out out' err err' rack rack' ending → IsTranslating words → ending ≡ WriteFault → WritesPart left reads held puts input input' out out'
  written_part d h = (translation_of d h).translates.part

  pub written_want : Does left reads held puts told tells talk faults words input input' out out' err err' rack rack' ending → IsTranslating words → ending ≡ OutOfMemory → out' ≡ out
  written_want d h e = (translation_of d h).translates.untouched (λ w. cc (e, w)) (λ w. cc (e, w))

  pub unlinked : Does left reads held puts told tells talk faults words input input' out out' err err' rack rack' ending → IsTranslating words → rack' ≡ rack
  unlinked d h = (translation_of d h).unlinked

  pub own_translation : Does left reads held puts told tells talk faults words input input' out out' err err' rack rack' ending → IsTranslating words → IsOfTranslation ending
  own_translation d h = (translation_of d h).translates.ends

  pub source_refused : Does left reads held puts told tells talk faults words input input' out out' err err' rack rack' ending → (kind : FaultKind) (line : Line) → IsTranslating words → ending ≡ Refused kind line → RefusesAt IsRefused (left input) (left input') kind line.0
  source_refused d kind line h = (translation_of d h).translates.refused kind line

  pub source_limit : Does left reads held puts told tells talk faults words input input' out out' err err' rack rack' ending → (kind : LimitKind) → IsTranslating words → ending ≡ Limit kind → PassesLimit (left input) (left input') kind
  source_limit d kind h = (translation_of d h).translates.limit kind

  pub write_fault : Does left reads held puts told tells talk faults words input input' out out' err err' rack rack' ending → IsTranslating words → ending ≡ WriteFault → Rose (puts out) (puts out')
  write_fault d h = (translation_of d h).translates.write_fault

  pub decides_translation : Does left reads held puts told tells talk faults words input input' out out' err err' rack rack' ending → (text : List ℕ) → IsTranslating words → left input ≡ Some text → (Rose (reads input) (reads input') → ⊥) → (Rose (puts out) (puts out') → ⊥) → DecidesTranslation text ending
  decides_translation d text h = (translation_of d h).translates.decides text

  -- ---- what a run owes

  -- with the form and the turns that the words name
  executes : Does left reads held puts told tells talk faults words input input' out out' err err' rack rack' ending → (form : Form) (turns : ℕ) → HasTurns words form turns → Executes held puts told tells talk faults left reads form turns input input' out out' err err' rack rack' ending
  executes (inl t) form turns h = absurd (never_both words form turns h t.named)
  executes (inr (inl x)) form turns h =
      as_named words (λ f n. Executes held puts told tells talk faults left reads f n input input' out out' err err' rack rack' ending) x.form form x.turns turns x.named h x.executes
  executes (inr (inr r)) form turns h = absurd (run_named words form turns h r.unnamed)

  pub own : Does left reads held puts told tells talk faults words input input' out out' err err' rack rack' ending → (form : Form) (turns : ℕ) → HasTurns words form turns → IsOfExecution ending
  own d form turns h = (executes d form turns h).ends

  pub crowded : Does left reads held puts told tells talk faults words input input' out out' err err' rack rack' ending → (form : Form) (turns : ℕ) → HasTurns words form turns → ComesWhere (Limit L7) ending (IsCrowded rack)
  crowded d form turns h = (executes d form turns h).crowded

  pub numbered : Does left reads held puts told tells talk faults words input input' out out' err err' rack rack' ending → (form : Form) (turns : ℕ) → HasTurns words form turns → ComesWhere (Limit L8) ending (IsLarge form × (IsCrowded rack → ⊥))
  numbered d form turns h = (executes d form turns h).numbered

  pub made : Does left reads held puts told tells talk faults words input input' out out' err err' rack rack' ending → (number turns : ℕ) → HasTurns words (Generated number) turns → input' ≡ input
  made d number turns h = (executes d (Generated number) turns h).made number refl

  pub refused : Does left reads held puts told tells talk faults words input input' out out' err err' rack rack' ending → (form : Form) (turns : ℕ) (kind : FaultKind) (line : Line) → HasTurns words form turns → ending ≡ Refused kind line → RefusesRun form (left input) (left input') kind line.0
  refused d form turns kind line h = (executes d form turns h).refused kind line

  pub limit : Does left reads held puts told tells talk faults words input input' out out' err err' rack rack' ending → (form : Form) (turns : ℕ) (kind : LimitKind) → HasTurns words form turns → (kind ≡ L7 → ⊥) → ending ≡ Limit kind → PassesAs form (left input) (left input') kind
  limit d form turns kind h = (executes d form turns h).limit kind

  module _ (last : E) (a : Announces told tells err' last (line_for words ending)) where
    pub whole : Does left reads held puts told tells talk faults words input input' out out' err err' rack rack' ending → (form : Form) (turns : ℕ) → HasTurns words form turns → IsOfProgram ending
        → BeforeLine told tells last (line_for words ending) (λ between. ExecutesWhole held puts told tells talk faults left form turns input input' out out' err between rack rack' ending)
    whole d form turns h e = record { between = err'; done = (executes d form turns h).whole e; announced = a }

    pub part : Does left reads held puts told tells talk faults words input input' out out' err err' rack rack' ending → (form : Form) (turns : ℕ) → HasTurns words form turns → ending ≡ WriteFault
        → BeforeLine told tells last (last_line ending) (λ between. ExecutesPart held puts told tells talk faults left form turns input input' out out' err between rack rack')
    part d form turns h e = record { between = err'; done = (executes d form turns h).part e; announced = subst (λ l. Announces told tells err' last l) (line_of_stopped words ending (ap is_whole e)) a }

    pub want : Does left reads held puts told tells talk faults words input input' out out' err err' rack rack' ending → (form : Form) (turns : ℕ) → HasTurns words form turns → ending ≡ OutOfMemory
        → BeforeLine told tells last (last_line ending) (λ between. MayExecute held puts told tells talk faults left form turns input input' out out' err between rack rack')
    want d form turns h e = record { between = err'; done = (executes d form turns h).want e; announced = subst (λ l. Announces told tells err' last l) (line_of_stopped words ending (ap is_whole e)) a }

    -- a recording to its end puts its transcript alone
    pub recorded : Does left reads held puts told tells talk faults words input input' out out' err err' rack rack' ending → (is_told words ending ≡ false → last ≡ err') → (turns : ℕ) → HasTurns words Recorded turns → IsOfProgram ending
        → Puts told tells err last (transcript (states (slots_of rack)) (grown rack rack'))
    recorded d silent turns h e =
        let x = (executes d Recorded turns h).whole e in
        subst (λ l. Puts told tells err l (transcript (states (slots_of rack)) (grown rack rack'))) (sym (silent (untold words ending turns h e)))
        (subst (λ g. Puts told tells err err' (transcript (states (slots_of rack)) g)) x.carried.runs.conversation x.carried.runs.errors)

    -- and any recording a front of it before its last line
    pub recorded_part : Does left reads held puts told tells talk faults words input input' out out' err err' rack rack' ending → (turns : ℕ) → HasTurns words Recorded turns
        → BeforeLine told tells last (line_for words ending) (λ between. RecordsPart told tells (states (slots_of rack)) (grown rack rack') err between)
    recorded_part d turns h = record { between = err'; done = (executes d Recorded turns h).recorded refl; announced = a }

    pub decides : Does left reads held puts told tells talk faults words input input' out out' err err' rack rack' ending → (form : Form) (turns : ℕ) (text : List ℕ) → HasTurns words form turns → (IsCrowded rack → ⊥) → Gives form (left input) text
        → (Rose (reads input) (reads input') → ⊥) → (Rose (puts out) (puts out') → ⊥) → (Rose (tells err) (tells last) → ⊥)
        → DecidesExecution form turns (ready_slot (states (slots_of rack))) (answers_in (grown rack rack')) text ending
    decides d form turns text h room e calm calm' calm'' =
        (executes d form turns h).decides text room e calm calm' (λ r. calm'' (rose_later _ _ _ r (later err' last (line_for words ending) a)))

    -- ---- what all owe to standard error

    pub errors_steady : Does left reads held puts told tells talk faults words input input' out out' err err' rack rack' ending → (ending ≡ WriteFault → ⊥) → BeforeLine told tells last (line_for words ending) (λ between. tells between ≡ tells err)
    errors_steady (inl t) calm = record { between = err'; done = ap tells t.silent; announced = a }
    errors_steady (inr (inl x)) calm = record { between = err'; done = x.executes.tells_steady calm; announced = a }
    errors_steady (inr (inr r)) calm = record { between = err'; done = ap tells r.untouched.errors; announced = a }

    pub either_fault : Does left reads held puts told tells talk faults words input input' out out' err err' rack rack' ending → ending ≡ WriteFault → Rose (puts out) (puts out') ⊎ Rose (tells err) (tells last)
    either_fault (inl t) e = inl (t.translates.write_fault e)
    either_fault (inr (inl x)) e = risen puts tells out out' err err' last (line_for words ending) a (x.executes.write_fault e)
    either_fault (inr (inr r)) e = absurd (declined_not r.declines e (λ u. cc (u)) (λ u. cc (u)))

    -- only a program puts something before the last line
    silent : Does left reads held puts told tells talk faults words input input' out out' err err' rack rack' ending → IsTranslating words ⊎ IsUnnamed words ⊎ IsRefusal ending → err' ≡ err
    silent (inl t) h = t.silent
    silent (inr (inr r)) h = r.untouched.errors
    silent (inr (inl x)) (inl h) = absurd (never_both words x.form x.turns x.named h)
    silent (inr (inl x)) (inr (inl h)) = absurd (run_named words x.form x.turns x.named h)
    silent (inr (inl x)) (inr (inr refusal)) = (idle x.executes refusal).errors

    pub last_told : Does left reads held puts told tells talk faults words input input' out out' err err' rack rack' ending → IsTranslating words ⊎ IsUnnamed words ⊎ IsRefusal ending → Announces told tells err last (last_line ending)
    last_told d h = subst (λ l. Announces told tells err last l) (line_of_other words ending h) (subst (λ e. Announces told tells e last (line_for words ending)) (silent d h) a)

  -- ---- what all owe

  pub untouched : Does left reads held puts told tells talk faults words input input' out out' err err' rack rack' ending → IsRefusal ending ⊎ IsUnnamed words → (rack' ≡ rack) × (out' ≡ out)
  untouched (inl t) (inl h) = let but = no_refusal_but ending h in (t.unlinked, t.translates.untouched but.0 but.1)
  untouched (inl t) (inr h) = absurd (translation_named words t.named h)
  untouched (inr (inl x)) (inl h) = let u = idle x.executes h in (u.links, u.output)
  untouched (inr (inl x)) (inr h) = absurd (run_named words x.form x.turns x.named h)
  untouched (inr (inr r)) h = (r.untouched.links, r.untouched.output)

  pub usage : Does left reads held puts told tells talk faults words input input' out out' err err' rack rack' ending → ComesWhere Usage ending (IsUnnamed words)
  usage (inl t) = named_usage ending (IsUnnamed words) (λ e. not_of ending Usage e t.translates.ends (λ h. h)) (translation_named words t.named)
  usage (inr (inl x)) = named_usage ending (IsUnnamed words) (λ e. subst IsOfExecution e x.executes.ends) (run_named words x.form x.turns x.named)
  usage (inr (inr r)) = record { only = λ e. r.unnamed; there = λ h. r.declines }

  pub unread : Does left reads held puts told tells talk faults words input input' out out' err err' rack rack' ending → IsUnnamed words ⊎ ((form : Form) × (turns : ℕ) × HasTurns words form turns × (ending ≡ Limit L7)) → input' ≡ input
  unread (inl t) (inl h) = absurd (translation_named words t.named h)
  unread (inl t) (inr h) = absurd (never_both words h.0 h.1 h.2 t.named)
  unread (inr (inl x)) (inl h) = absurd (run_named words x.form x.turns x.named h)
  unread (inr (inl x)) (inr h) = x.executes.unread h.3
  unread (inr (inr r)) h = r.unread

  pub within : Does left reads held puts told tells talk faults words input input' out out' err err' rack rack' ending → ReadsWithin (left input) (left input')
  within (inl t) = t.translates.within
  within (inr (inl x)) = x.executes.within
  within (inr (inr r)) = unread_within left reads input input' r.unread

  pub read_fault : Does left reads held puts told tells talk faults words input input' out out' err err' rack rack' ending → ending ≡ ReadFault → Rose (reads input) (reads input')
  read_fault (inl t) = t.translates.read_fault
  read_fault (inr (inl x)) = x.executes.read_fault
  read_fault (inr (inr r)) = λ e. absurd (declined_not r.declines e (λ u. cc (u)) (λ u. cc (u)))

  pub read_steady : Does left reads held puts told tells talk faults words input input' out out' err err' rack rack' ending → (ending ≡ ReadFault → ⊥) → reads input' ≡ reads input
  read_steady (inl t) = t.translates.reads_steady
  read_steady (inr (inl x)) = x.executes.reads_steady
  read_steady (inr (inr r)) = λ calm. ap reads r.unread

  pub write_steady : Does left reads held puts told tells talk faults words input input' out out' err err' rack rack' ending → (ending ≡ WriteFault → ⊥) → puts out' ≡ puts out
  write_steady (inl t) = t.translates.puts_steady
  write_steady (inr (inl x)) = x.executes.puts_steady
  write_steady (inr (inr r)) = λ calm. ap puts r.untouched.output

  pub talks : Does left reads held puts told tells talk faults words input input' out out' err err' rack rack' ending → KeepsTalks (talk_at talk (slots_of rack)) (talk_at talk (slots_of rack')) (grown rack rack')
  talks (inl t) = same_talks talk rack rack' t.unlinked
  talks (inr (inl x)) = x.executes.talks
  talks (inr (inr r)) = same_talks talk rack rack' r.untouched.links

  pub links : Does left reads held puts told tells talk faults words input input' out out' err err' rack rack' ending → KeepsLinks talk faults (link_at (slots_of rack)) (link_at (slots_of rack')) (grown rack rack')
  links (inl t) = same_links talk faults rack rack' t.unlinked
  links (inr (inl x)) = x.executes.links
  links (inr (inr r)) = same_links talk faults rack rack' r.untouched.links

  pub dropped : Does left reads held puts told tells talk faults words input input' out out' err err' rack rack' ending → SparesDropped (states (slots_of rack)) (states (slots_of rack')) (grown rack rack')
  dropped (inl t) = same_dropped rack rack' t.unlinked
  dropped (inr (inl x)) = x.executes.dropped
  dropped (inr (inr r)) = same_dropped rack rack' r.untouched.links

  pub logged : Does left reads held puts told tells talk faults words input input' out out' err err' rack rack' ending → log_of rack' ≡ log_of rack ++ grown rack rack'
  logged (inl t) = same_log rack rack' t.unlinked
  logged (inr (inl x)) = x.executes.logged
  logged (inr (inr r)) = same_log rack rack' r.untouched.links

-- ---- what is done

module _ {I O E X : Type 0} {F : X → Type 0} (left : I → Option (List ℕ)) (reads : I → ℕ) (held : O → Option (List ℕ)) (puts : O → ℕ) (told : E → Option (List ℕ)) (tells : E → ℕ) (talk : DynBox X Allocator F → Option Talk) (faults : DynBox X Allocator F → ℕ) (words : List (String Allocator)) where
  -- a text was run, and the call ends so
  pub has_run : (form : Form) (turns : ℕ) (input input' : I) (out out' : O) (err err' : E) (rack rack' : Rack X F) (ending ended : Ending) → HasTurns words form turns → ended ≡ ending
      → Executes held puts told tells talk faults left reads form turns input input' out out' err err' rack rack' ending
      → Does left reads held puts told tells talk faults words input input' out out' err err' rack rack' ended
  has_run form turns input input' out out' err err' rack rack' ending ended named e x =
      subst (λ w. Does left reads held puts told tells talk faults words input input' out out' err err' rack rack' w) (sym e) (inr (inl (record { form = form; turns = turns; named = named; executes = x })))

  -- there was no memory to read the words
  pub wants : (input : I) (out : O) (err : E) (rack : Rack X F) (ended : Ending) → ended ≡ OutOfMemory → Does left reads held puts told tells talk faults words input input out out err err rack rack ended
  wants input out err rack ended is = subst (λ w. Does left reads held puts told tells talk faults words input input out out err err rack rack w) (sym is) (go (task words) refl)
    where
      go : (it : Option Task) → task words ≡ it → Does left reads held puts told tells talk faults words input input out out err err rack rack OutOfMemory
      go None e = inr (inr (record { unnamed = e; declines = inr refl; unread = refl; untouched = record { output = refl; errors = refl; links = refl } }))
      go (Some tasks.Translate) e = inl (record { named = e; silent = refl; unlinked = refl; translates = untranslated left reads held puts input out })
      go (Some (tasks.Run form turns)) e = inr (inl (record {
        form = form;
        turns = turns;
        named = e;
        executes = wordless held puts told tells talk faults left reads form turns input input out out err err rack rack refl (record { output = refl; errors = refl; links = refl });
      }))
