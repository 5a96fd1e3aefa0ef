-- Whole runs go by the step that makes the calls of a program, by calls one behind the other, and by the request that waits.
use Rattle.std.specs.Prelude.{◌≡◌, ℕ, suc, List, [], ◌∷◌, ◌++◌, ◌+◌, length, Option, Some, None, refl}
use Rattle.std.proofs.Common.{◌∙◌, ap, sym, subst, append-nil, append_assoc, arith}
use Rattle.std.specs.Borrow.{MutBor}
use Rattle.std.specs.declared.alloc.Global.{Global}
use Rattle.std.specs.declared.dyn_box.DynBox.{DynBox}
use Rattle.ec_arguments.specs.Arguments.{Arg}
use Rattle.ec_call_defs.specs.Growth.{state_of as outcome_state}
use Rattle.ec_call_defs.specs.Outcomes.{Outcome, gives, finished, over as halted}
use Rattle.ec_call_defs.specs.Steps.{library_step, settled}
use Rattle.ec_ctypes.specs.declared.checked.library.LibName.{LibName}
use Rattle.ec_call_defs.proofs.library_step_lemmas.Keeping.{library_counts, library_takes_answers}
use Rattle.ec_link.specs.declared.logged.Logged.{Logged}
use Rattle.ec_link.specs.declared.rack.Rack.{Rack}
use Rattle.ec_link.specs.Logged.{Talk}
use Rattle.ec_link.specs.Rack.{log_of}
use Rattle.ec_meaning_defs.specs.evaluation.Agree.{Grows, state_of}
use Rattle.ec_meaning_defs.specs.evaluation.State.{State}
use Rattle.ec_meaning_defs.specs.resolved.Resolved.{Exp}
use Rattle.ec_interp.specs.running.Sessions.{Going, Suits, WaitsFor}
use Rattle.ec_runtime.proofs.Moving.{moves_both, moves_not}
use Rattle.ec_runtime.specs.Calling.{conns_of}
use Rattle.ec_runtime.specs.Proceeding.{asked_of}
use Rattle.ec_runtime.specs.declared.library.Library.{Library}
use Rattle.ec_stopping_defs.proofs.Growing.{residual_grows}
use Rattle.ec_stopping_defs.proofs.Parts.{waits_so}
use Rattle.ec_stopping_defs.specs.Resuming.{Asking, residual}
use Rattle.ec_calling.specs.declared.call.Call.{Call}
use Rattle.ec_calling.specs.Leading.{Leads, Moved, places_of}
use Rattle.ec_calling.specs.Making.{going_in}

pub library_suits : (calls : List (LibName × List (Arg Exp))) → Suits (library_step calls)
library_suits calls = record {
  fits = record { counts = library_counts calls; embeds = λ w c n s. refl };
  adds = library_takes_answers calls [];
}

-- ---- the request that waits

pub settled_state : (line : ℕ) (o : Outcome (Unit {0})) → outcome_state o ≡ state_of (settled line o)
settled_state line (gives a s) = refl
settled_state line (finished s) = refl
settled_state line (halted halt s) = refl

-- a call that waits only adds to what was said
abbrev GrowsFor : ℕ → State → Option Going → Type 0
GrowsFor line s None = Unit {0}
GrowsFor line s (Some g) = Grows s (state_of (g line s))

going_grows : (o : Option (ℕ × Asking)) (line : ℕ) (s : State) → GrowsFor line s (going_in o)
going_grows None line s = tt
going_grows (Some it) line s = subst (Grows s) (settled_state line (residual it.0 it.1 s)) (residual_grows it.0 it.1 s)

pub calls_add : (o : Option (ℕ × Asking)) (g : Going) → going_in o ≡ Some g → (line : ℕ) (s : State)
    → Grows s (state_of (g line s))
calls_add o g e line s = subst (GrowsFor line s) e (going_grows o line s)

pub calls_wait : (o : Option (ℕ × Asking)) → WaitsFor (going_in o) (asked_of o)
calls_wait None = refl
calls_wait (Some it) = λ line s. ap (settled line) (waits_so it.0 it.1 s)

-- ---- places

-- those of some exchanges, and then of some more
pub places_both : (n : ℕ) (xs ys : List Logged) → places_of n (xs ++ ys) ≡ places_of n xs ++ places_of (n + length xs) ys
places_both n [] ys = ap (λ k. places_of k ys) (omega arith)
places_both n (x ∷ xs) ys =
    ap (λ ps. n ∷ ps) (places_both (suc n) xs ys ∙ ap (λ k. places_of (suc n) xs ++ places_of k ys) (omega arith))

pub longer : (xs ys : List Logged) → length (xs ++ ys) ≡ length xs + length ys
longer [] ys = omega arith
longer (x ∷ xs) ys = let e = longer xs ys in omega (arith, e)

pub noted_both : (log log' g h : List Logged) (p q r : List ℕ) → log' ≡ log ++ g → q ≡ p ++ places_of (length log) g
    → r ≡ q ++ places_of (length log') h → r ≡ p ++ places_of (length log) (g ++ h)
noted_both log log' g h p q r e a b =
    let long : length log' ≡ length log + length g = ap length e ∙ longer log g in
    b ∙ (λ j. a j ++ places_of (long j) h)
    ∙ append_assoc p (places_of (length log) g) (places_of (length log + length g) h)
    ∙ ap (λ ps. p ++ ps) (sym (places_both (length log) g h))

-- ---- calls one behind the other

module _ {X : Type 0} {F : X → Type 0} (talk : DynBox X Global F → Option Talk)
    (faults : DynBox X Global F → ℕ) where
  -- nothing was asked
  pub unmoved : (rack : Rack X F) (it : Library X F) (places : List ℕ) → Moved talk faults rack it places rack it places
  unmoved rack it places = record {
    growth = [];
    moves = moves_not talk faults rack rack (conns_of it.connections) refl refl;
    noted = sym (append-nil places);
  }

  -- no call was made
  pub session_stays : (calls : List Call) (rack : MutBor (Rack X F)) (it : MutBor (Library X F)) (places : MutBor (List ℕ))
      → Leads talk faults calls rack it places calls rack it places
  session_stays calls rack it places = record {
    growth = [];
    moves = moves_not talk faults rack.now rack.now (conns_of it.now.connections) refl refl;
    noted = sym (append-nil places.now);
    same_rack = refl;
    same_library = refl;
    same_places = refl;
    same_calls = refl;
  }

  -- some calls were made, and then some more
  pub session_goes_on : (calls calls' calls'' : List Call) (first between last : MutBor (Rack X F))
      (was mid now : MutBor (Library X F)) (before among after : MutBor (List ℕ))
      → Leads talk faults calls first was before calls' between mid among
      → Leads talk faults calls' between mid among calls'' last now after
      → Leads talk faults calls first was before calls'' last now after
  session_goes_on calls calls' calls'' first between last was mid now before among after a b = record {
    growth = a.growth ++ b.growth;
    moves =
        moves_both talk faults first.now between.now last.now (conns_of was.now.connections)
        (conns_of mid.now.connections)
        (conns_of now.now.connections) a.growth b.growth a.moves b.moves;
    noted =
        noted_both (log_of first.now) (log_of between.now) a.growth b.growth before.now among.now
        after.now a.moves.logged a.noted b.noted;
    same_rack = b.same_rack ∙ a.same_rack;
    same_library = b.same_library ∙ a.same_library;
    same_places = b.same_places ∙ a.same_places;
    same_calls = b.same_calls ∙ a.same_calls;
  }
