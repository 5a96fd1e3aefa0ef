-- What becomes of a field, from what a conversion answers.
use Rattle.std.proofs.Common.{◌≡◌, ℕ, List, Option, Some, Ok, Err, Bool, sym, ◌∙◌, subst}
use Rattle.std.specs.Prelude.{ℤ}
use Rattle.ec_base.specs.declared.stop.Trap.{Trap}
use Rattle.ec_memory_defs.specs.Memory.{Memory}
use Rattle.ec_transfer_defs.specs.Conversion.{trapped, refused, field_stored}
use Rattle.ec_transfer_defs.specs.Codes.{code_of, state_of, text_of_finding}
use Rattle.ec_transfer_defs.specs.Hosts.{HostData}
use Rattle.ec_meaning_defs.specs.evaluation.State.{State}
use Rattle.ec_call_defs.specs.Outcomes.{Outcome, gives, finished, over, with_memory, told_area}
use Rattle.ec_call_defs.specs.Outcomes as outcome
use Rattle.ec_convert.specs.Answers.{leaves}
use Rattle.ec_convert.specs.declared.stop.ConvStop.{ConvStop}
use Rattle.ec_convert.specs.declared.stop.ConvStop.TheVariants as conv
use Rattle.ec_runtime.specs.Says.{Says, Stopped}
use Rattle.ec_runtime.specs.declared.stop.Stop.{Stop}
use Rattle.ec_call_defs.specs.Storing.{found_by, warned, stored_by, field_kept}

module _ (line : ℕ) (h : HostData) (row : ℕ) (field : Option (List ℕ)) (old after : Memory) where
  pub whole_kept : (cut : Bool) (new : Memory) → Some (Ok cut, after) ≡ Some (field_stored old h row field) → warned cut after ≡ new → (s : State)
      → field_kept line h row field (with_memory old s) ≡ gives tt (with_memory new s)
  whole_kept cut new e w s = (λ j. stored_by line (is j) (with_memory old s)) ∙ (λ j. gives tt (with_memory (w j) s))
    where
      is : field_stored old h row field ≡ (Ok cut, after)
      is = cc

  pub code_kept : (code : ℤ) (new : Memory) → Some (Err (refused code), after) ≡ Some (field_stored old h row field)
      → told_area (code_of (found_by code)) (state_of (found_by code)) (text_of_finding (found_by code)) line after ≡ new → (s : State)
      → field_kept line h row field (with_memory old s) ≡ finished (with_memory new s)
  code_kept code new e w s = (λ j. stored_by line (is j) (with_memory old s)) ∙ (λ j. finished (with_memory (w j) s))
    where
      is : field_stored old h row field ≡ (Err (refused code), after)
      is = cc

  pub trap_kept : (trap : Trap) → Some (Err (trapped trap), after) ≡ Some (field_stored old h row field) → (s : State)
      → field_kept line h row field (with_memory old s) ≡ over (outcome.trapped trap) (with_memory after s)
  trap_kept trap e s = λ j. stored_by line (is j) (with_memory old s)
    where
      is : field_stored old h row field ≡ (Err (trapped trap), after)
      is = cc

  pub err_kept : (stop : ConvStop) (r : Stop) (new : Memory) → leaves (Err stop) after ≡ Some (field_stored old h row field) → Stopped stop line r after new → (s : State)
      → Says {A = Unit {0}} (Err r) (field_kept line h row field (with_memory old s)) (with_memory new s)
  err_kept (conv.Trapped trap) r new e p s =
      subst (λ x. Says {A = Unit {0}} (Err x) (field_kept line h row field (with_memory old s)) (with_memory new s)) (sym p.0)
      (trap_kept trap e s ∙ (λ j. over (outcome.trapped trap) (with_memory (sym p.1 j) s)))
  err_kept (conv.Code code) r new e p s =
      subst (λ x. Says {A = Unit {0}} (Err x) (field_kept line h row field (with_memory old s)) (with_memory new s)) (sym p.0) (code_kept code new e (sym p.1) s)
  err_kept conv.OutOfMemory r new e p s = cc
