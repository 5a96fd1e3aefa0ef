-- Texts and values that are read.
use Rattle.std.proofs.Common.{◌≡◌, ℕ, List, Some, Result, Ok, Err, sym, ◌∙◌, subst}
use Rattle.ec_base.specs.declared.stop.Trap.{Trap}
use Rattle.ec_bytes.specs.declared.scalar.address.Ptr.{Ptr}
use Rattle.ec_convert.specs.declared.host.HostPlace.{HostPlace}
use Rattle.ec_convert.specs.Host.{given_host}
use Rattle.ec_memory_defs.specs.Memory.{Memory, text_at}
use Rattle.ec_transfer_defs.specs.Conversion.{parameter}
use Rattle.ec_transfer_defs.specs.Hosts.{HostData}
use Rattle.ec_meaning_defs.specs.evaluation.State.{State}
use Rattle.ec_call_defs.specs.Outcomes.{Field, Outcome, trapped, gives, over, next, trying, present, with_memory}
use Rattle.ec_call_defs.specs.Inputs.{text_read, given_read, value_read}
use Rattle.ec_runtime.specs.declared.inputs.GivenText.{GivenText}
use Rattle.ec_runtime.specs.declared.inputs.GivenText.TheVariants as givens
use Rattle.ec_runtime.specs.declared.inputs.TextArg.{TextArg}
use Rattle.ec_runtime.specs.declared.inputs.TextArg.TheVariants as texts
use Rattle.ec_runtime.specs.declared.stop.Stop.{Stop}
use Rattle.ec_runtime.specs.declared.stop.Stop.TheVariants as stops
use Rattle.ec_runtime.specs.Reading.{text_view, given_view, TextIs}
use Rattle.ec_runtime.specs.Says.{Quiet}
use Rattle.ec_runtime.specs.Places.{place_view}
use Rattle.ec_runtime.proofs.Targets.{same_host}
use Rattle.ec_convert.specs.Answers.{GivesParameter}
use Rattle.ec_convert.specs.declared.stop.ConvStop.{ConvStop}
use Rattle.ec_convert.specs.declared.stop.ConvStop.TheVariants as conv
use Rattle.std.specs.Prelude.{ℤ, IfOk, IfErr}

pub word_text : (t : TextArg) (bytes : List ℕ) (m : Memory) → t ≡ texts.Word bytes → TextIs (text_view t) m (Some bytes)
word_text t bytes m e = λ s j. text_read (text_view (e j)) (with_memory m s)

pub held_text : (t : TextArg) (at : Ptr) (bytes : List ℕ) (m : Memory) → t ≡ texts.Held at → Ok bytes ≡ text_at m at.0 → TextIs (text_view t) m (Some bytes)
held_text t at bytes m e h = λ s.
    (λ j. text_read (text_view (e j)) (with_memory m s)) ∙ (λ j. next (trying (sym h j) (with_memory m s)) (λ bs u. gives (Some bs) u))

module _ (p : HostPlace) (h : HostData) (e : given_host p ≡ Some h) (m : Memory) where
  given : (s : State) → value_read (place_view p) (with_memory m s) ≡ trying (parameter m h) (with_memory m s)
  given s = λ j. next (present ((same_host p ∙ e) j) (with_memory m s)) (λ x t. trying (parameter t.memory x) t)

  pub value_given : (text : Field) → parameter m h ≡ Ok text → (s : State) → value_read (place_view p) (with_memory m s) ≡ gives text (with_memory m s)
  value_given text q s = given s ∙ (λ j. trying (q j) (with_memory m s))

  pub value_trapped : (trap : Trap) → parameter m h ≡ Err trap → (s : State) → value_read (place_view p) (with_memory m s) ≡ over (trapped trap) (with_memory m s)
  value_trapped trap q s = given s ∙ (λ j. trying (q j) (with_memory m s))

-- what a conversion that stops says
pub never_code : (x : ConvStop) (code : ℤ) (r : Result Field Trap) → x ≡ conv.Code code → GivesParameter (Err x) r → ⊥
never_code x code r e h = subst (λ y. GivesParameter (Err y) r) e h

pub trap_given : (x : ConvStop) (trap : Trap) (r : Result Field Trap) → x ≡ conv.Trapped trap → GivesParameter (Err x) r → r ≡ Err trap
trap_given x trap r e h = subst (λ y. GivesParameter (Err y) r) e h

-- ---- a text that is there

-- it is copied, or there is no memory
copied : (bytes : List ℕ) (action : State → Outcome (List ℕ)) (m : Memory) (r : Result (List ℕ) Stop) → IfOk r (λ copy. copy ≡ bytes) → IfErr r (λ stop. stop ≡ stops.OutOfMemory)
    → ((s : State) → action (with_memory m s) ≡ gives bytes (with_memory m s)) → Quiet r action m m
copied bytes action m (Ok copy) ok err h = λ s. h s ∙ (λ j. gives (sym ok j) (with_memory m s))
copied bytes action m (Err stop) ok err h = subst (λ x. Quiet {A = List ℕ} (Err x) action m m) (sym err) (λ s. tt)

pub word_given : (t : GivenText) (word bytes : List ℕ) (m : Memory) (r : Result (List ℕ) Stop) → t ≡ givens.Word word → bytes ≡ word → IfOk r (λ copy. copy ≡ bytes)
    → IfErr r (λ stop. stop ≡ stops.OutOfMemory) → Quiet r (given_read (given_view t)) m m
word_given t word bytes m r is e ok err =
    copied bytes (given_read (given_view t)) m r ok err (λ s. (λ j. given_read (given_view (is j)) (with_memory m s)) ∙ (λ j. gives (sym e j) (with_memory m s)))

pub held_given : (t : GivenText) (at : Ptr) (bytes : List ℕ) (m : Memory) (r : Result (List ℕ) Stop) → t ≡ givens.Held at → Ok bytes ≡ text_at m at.0 → IfOk r (λ copy. copy ≡ bytes)
    → IfErr r (λ stop. stop ≡ stops.OutOfMemory) → Quiet r (given_read (given_view t)) m m
held_given t at bytes m r is e ok err =
    copied bytes (given_read (given_view t)) m r ok err (λ s. (λ j. given_read (given_view (is j)) (with_memory m s)) ∙ (λ j. trying (sym e j) (with_memory m s)))

pub held_trapped : (t : GivenText) (at : Ptr) (trap : Trap) (m : Memory) → t ≡ givens.Held at → Err trap ≡ text_at m at.0
    → Quiet {A = List ℕ} (Err (stops.Trapped trap)) (given_read (given_view t)) m m
held_trapped t at trap m is e = λ s. (λ j. given_read (given_view (is j)) (with_memory m s)) ∙ (λ j. trying (sym e j) (with_memory m s))

-- it is read
pub held_read : (t : GivenText) (at : Ptr) (bytes : List ℕ) (m : Memory) → t ≡ givens.Held at → Ok bytes ≡ text_at m at.0 → (s : State) → given_read (given_view t) (with_memory m s) ≡ gives bytes (with_memory m s)
held_read t at bytes m is e = λ s. (λ j. given_read (given_view (is j)) (with_memory m s)) ∙ (λ j. trying (sym e j) (with_memory m s))
