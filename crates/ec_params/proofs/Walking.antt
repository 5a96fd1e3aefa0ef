-- Going through hosts, one after the other.
use Rattle.std.proofs.Common.{◌≡◌, ℕ, ◌+◌, [], ◌∷◌, ◌++◌, take, drop, Option, Some, None, arith, refl, sym, ap, ◌∙◌, append_assoc}
use Rattle.std.proofs.lemmas.List.{append-nil, drop-drop}
use Rattle.ec_base.specs.declared.fault.FaultKind.{FaultKind}
use Rattle.ec_host_defs.specs.Faults.{uses_faults, host_faults, host_count, value_part, indicator_part}
use Rattle.ec_params.specs.Least.{lower_of, least}
use Rattle.ec_host_defs.specs.Programs.{ProgramData, Denoted, names_count, option_count}
use Rattle.ec_host_defs.specs.Uses.{Uses, RoleData}
use Rattle.ec_ctypes.specs.trees.Embedded.{HostData}
use Rattle.ec_params.proofs.Lowest.{joined, lowest_of}
use Rattle.ec_params.specs.declared.walk.Walk.{Walk}
use Rattle.ec_params.specs.Walks.{Walks, found}

pub nothing : {p : ProgramData} {ds : Denoted} {w : Walk} → Walks p ds [] w w
nothing = record { is = λ vs. refl }

-- these, and then those
pub after : {p : ProgramData} {ds : Denoted} {us vs : Uses} {a b c : Walk} → Walks p ds us a b → Walks p ds vs b c → Walks p ds (us ++ vs) a c
after {p} {ds} {us} {vs} {a} {b} {c} f g = record { is = λ ws. g.is ws ∙ f.is (vs ++ ws) ∙ ap (λ xs. found p ds xs a) (sym (append_assoc us vs ws)) }

-- All these hosts were to be gone through, and those are left.
pub record Onward (p : ProgramData) (ds : Denoted) (all left : Uses) (old now : Walk) : Type 0 where
  pub is : (vs : Uses) → found p ds (left ++ vs) now ≡ found p ds (all ++ vs) old

pub onward_start : {p : ProgramData} {ds : Denoted} {us : Uses} {w : Walk} → Onward p ds us us w w
onward_start = record { is = λ vs. refl }

pub onward_step : {p : ProgramData} {ds : Denoted} {all us left : Uses} {a b c : Walk} → Onward p ds all (us ++ left) a b → Walks p ds us b c → Onward p ds all left a c
onward_step {p} {ds} {all} {us} {left} {a} {b} {c} o w = record { is = λ vs. w.is (left ++ vs) ∙ ap (λ xs. found p ds xs b) (sym (append_assoc us left vs)) ∙ o.is vs }

pub onward_end : {p : ProgramData} {ds : Denoted} {all : Uses} {a b : Walk} → Onward p ds all [] a b → Walks p ds all a b
onward_end o = record { is = λ vs. o.is vs }

-- the lowest fault of all
pub all_walked : (p : ProgramData) (ds : Denoted) (us : Uses) (w new : Walk) → w ≡ record { at = 0; fault = None } → Walks p ds us w new → new.fault ≡ least (uses_faults p us ds)
unfolding least
all_walked p ds us w new e f = none_behind new.fault ∙ f.is [] ∙ (λ i. found p ds (append-nil us i) (e i))
  where
    none_behind : (o : Option FaultKind) → o ≡ lower_of o None
    none_behind None = refl
    none_behind (Some k) = refl

-- one host, by what was counted and found of it
pub walked_host : (p : ProgramData) (ds : Denoted) (role : RoleData) (h : HostData) (w new : Walk) (own inner middle : ℕ) (fault : Option FaultKind)
    → own ≡ names_count h.value → inner ≡ option_count h.indicator → middle ≡ w.at + own → new.at ≡ middle + inner
    → fault ≡ least (host_faults p role h (take own (drop w.at ds)) (take inner (drop middle ds)))
    → new.fault ≡ lower_of w.fault fault
    → Walks p ds ((role, h) ∷ []) w new
walked_host p ds role h w new own inner middle fault e-own e-inner e-middle e-next e-fault e-new =
    let m : middle ≡ w.at + names_count h.value = omega (arith, e-own, e-middle) in
    let n : new.at ≡ w.at + host_count h = omega (arith, e-own, e-inner, e-middle, e-next) in
    let rest : drop new.at ds ≡ drop (host_count h) (drop w.at ds) = ap (λ (k : ℕ). drop k ds) n ∙ sym (drop-drop (host_count h) w.at ds) in
    let v : take own (drop w.at ds) ≡ value_part h (drop w.at ds) = ap (λ (k : ℕ). take k (drop w.at ds)) e-own in
    let i : take inner (drop middle ds) ≡ indicator_part h (drop w.at ds) =
    ap (λ (k : ℕ). take k (drop middle ds)) e-inner
    ∙ ap (take (option_count h.indicator)) (ap (λ (k : ℕ). drop k ds) m ∙ sym (drop-drop (names_count h.value) w.at ds)) in
    let f : fault ≡ least (host_faults p role h (value_part h (drop w.at ds)) (indicator_part h (drop w.at ds))) = e-fault ∙ (λ j. least (host_faults p role h (v j) (i j))) in
    record {
      is = λ vs.
          (λ j. lower_of ((e-new ∙ ap (lower_of w.fault) f) j) (least (uses_faults p vs (rest j))))
          ∙ joined w.fault (least (host_faults p role h (value_part h (drop w.at ds)) (indicator_part h (drop w.at ds)))) (least (uses_faults p vs (drop (host_count h) (drop w.at ds))))
          ∙ ap (lower_of w.fault) (sym (lowest_of (host_faults p role h (value_part h (drop w.at ds)) (indicator_part h (drop w.at ds))) (uses_faults p vs (drop (host_count h) (drop w.at ds)))));
    }

pub ruleset walking = (nothing, after)
