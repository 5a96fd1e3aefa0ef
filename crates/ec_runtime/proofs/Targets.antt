-- The steps of the loop over the hosts that rows are stored in.
use Rattle.std.proofs.Common.{◌≡◌, ℕ, zero, suc, ◌+◌, ◌<◌, ◌≤◌, List, [], ◌∷◌, length, drop, get_or, Option, Some, None, Err, Bool, true, false, refl, sym, subst, ◌∙◌, drop-cons, arith}
use Rattle.std.proofs.lemmas.Bool.Decides.{nat_tests}
use Rattle.std.specs.Prelude.{nat_lt, option_map, option_and_then}
use Rattle.ec_bytes.specs.declared.scalar.address.Ptr.{Ptr}
use Rattle.ec_ctypes.specs.declared.checked.library.Sym.{Sym}
use Rattle.ec_convert.specs.declared.host.HostPlace.{HostPlace}
use Rattle.ec_convert.specs.Host.{given_host, given_indicators, placed}
use Rattle.ec_transfer_defs.specs.Hosts.{Holding, holding, IndicatorData, HostData}
use Rattle.ec_meaning_defs.specs.evaluation.State.{State}
use Rattle.ec_call_defs.specs.Outcomes.{Field, Outcome, gives, next, present}
use Rattle.ec_call_defs.specs.Inputs.{indicators_data, host_data}
use Rattle.ec_call_defs.specs.Storing.{column_kept, targets_kept, any_fewer}
use Rattle.ec_runtime.specs.declared.host.Host.{Host}
use Rattle.ec_runtime.specs.declared.stop.Stop.{Stop}
use Rattle.ec_runtime.specs.declared.stop.Stop.TheVariants as stops
use Rattle.ec_runtime.specs.Says.{Says}
use Rattle.ec_runtime.specs.Places.{indicator_view, place_view}
use Rattle.ec_runtime.specs.Views.{hosts_view}

-- a host is the same to a conversion and to a call
same_indicators : (i : Option (Sym × Ptr × ℕ × ℕ)) → indicators_data (option_map indicator_view i) ≡ given_indicators i
same_indicators None = refl
same_indicators (Some i) = refl

same_holding : (at : Ptr) (step : ℕ) (i : Option (Option IndicatorData)) (holds : Option Holding)
    → option_and_then (λ x. option_map (λ y. record { holds = x; place = at.0; step = step; indicator = y }) i) holds ≡ option_and_then (placed at step i) holds
same_holding at step i None = refl
same_holding at step None (Some holds) = refl
same_holding at step (Some i) (Some holds) = refl

pub same_host : (p : HostPlace) → host_data (place_view p) ≡ given_host p
same_host p =
    (λ j. option_and_then (λ x. option_map (λ y. record { holds = x; place = p.at.0; step = p.step; indicator = y }) (same_indicators p.ind j)) (holding p.sym p.size))
    ∙ same_holding p.at p.step (given_indicators p.ind) (holding p.sym p.size)

-- an answer that ends a part ends what follows it
pub stopped_next : {A B : Type 0} (stop : Stop) (o : Outcome A) (s : State) (go : A → State → Outcome B) → Says {A = A} (Err stop) o s → Says {A = B} (Err stop) (next o go) s
stopped_next stops.Finished o s go h = λ j. next (h j) go
stopped_next (stops.Trapped trap) o s go h = λ j. next (h j) go
stopped_next stops.OutOfMemory o s go h = tt

pub drop_item : {A : Type 0} (xs : List A) (i : ℕ) (x : A) → i < length xs → x ≡ get_or xs i x → drop i xs ≡ x ∷ drop (suc i) xs
drop_item xs i x h e = drop-cons xs i x h ∙ (λ j. sym e j ∷ drop (suc i) xs)

module _ (line i : ℕ) (hosts : List Host) (rows : List (List Field)) (host : Host) (lt : i < length hosts) (at : host ≡ get_or hosts i host) where
  -- what follows a host
  abbrev after : State → Outcome (Unit {0})
  after u = targets_kept line (suc i) (hosts_view (drop (suc i) hosts)) rows u

  step_of : (h : HostData) → given_host host.place ≡ Some h → (s : State)
      → targets_kept line i (hosts_view (drop i hosts)) rows s ≡ next (column_kept line h i 0 rows s) (λ _ u. after u)
  step_of h e s =
      (λ j. targets_kept line i (hosts_view (drop_item hosts i host lt at j)) rows s)
      ∙ (λ j. next (present ((same_host host.place ∙ e) j) s) (λ x t. next (column_kept line x i 0 rows t) (λ _ u. after u)))

  pub target_stops : (whole : Outcome (Unit {0})) (stop : Stop) (h : HostData) → given_host host.place ≡ Some h → (s t : State) → whole ≡ targets_kept line i (hosts_view (drop i hosts)) rows s
      → Says {A = Unit {0}} (Err stop) (column_kept line h i 0 rows s) t → Says {A = Unit {0}} (Err stop) whole t
  target_stops whole stop h e s t w says = subst (λ o. Says {A = Unit {0}} (Err stop) o t) (sym (w ∙ step_of h e s)) (stopped_next stop (column_kept line h i 0 rows s) t (λ _ u. after u) says)

  pub target_goes_on : (whole : Outcome (Unit {0})) (h : HostData) → given_host host.place ≡ Some h → (s t : State) → whole ≡ targets_kept line i (hosts_view (drop i hosts)) rows s
      → column_kept line h i 0 rows s ≡ gives tt t → whole ≡ targets_kept line (i + 1) (hosts_view (drop (i + 1) hosts)) rows t
  target_goes_on whole h e s t w says = w ∙ step_of h e s ∙ (λ j. next (says j) (λ _ u. after u)) ∙ (λ j. targets_kept line (one j) (hosts_view (drop (one j) hosts)) rows t)
    where
      one : suc i ≡ i + 1
      one = omega arith

-- where no host has fewer elements than there are rows, each has room for them
pub room : (rows : ℕ) (hosts : List Host) (i : ℕ) (host : Host) → i < length hosts → host ≡ get_or hosts i host → any_fewer rows (hosts_view hosts) ≡ false → rows ≤ host.place.count
room rows [] i host lt at e = absurd (omega (arith, lt))
room rows (x ∷ xs) zero host lt at e = subst (λ h. rows ≤ h.place.count) (sym at) (go (nat_lt x.place.count rows) refl e)
  where
    go : (b : Bool) → nat_lt x.place.count rows ≡ b → elim b [ true ↦ true | false ↦ any_fewer rows (hosts_view xs) ] ≡ false → rows ≤ x.place.count
    go true test wrong = cc
    go false test rest = grind (arith, nat_tests)
room rows (x ∷ xs) (suc i) host lt at e = room rows xs i host (omega (arith, lt)) at (go (nat_lt x.place.count rows) e)
  where
    go : (b : Bool) → elim b [ true ↦ true | false ↦ any_fewer rows (hosts_view xs) ] ≡ false → any_fewer rows (hosts_view xs) ≡ false
    go true wrong = cc
    go false rest = rest
