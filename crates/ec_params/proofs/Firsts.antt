-- Of violations at one place, the first is that of the lowest fault.
use Rattle.std.proofs.Common.{◌≡◌, ℕ, Bool, true, false, List, [], ◌∷◌, map, Option, Some, None, option_map, if◌then◌else◌, refl, ap, ◌∙◌, arith}
use Rattle.std.proofs.lemmas.Bool.Decides.{nat_tests}
use Rattle.std.specs.Prelude.{nat_lt, ◌==◌, ◌&&◌, ◌||◌}
use Rattle.ec_base.specs.declared.fault.FaultKind.{FaultKind}
use Rattle.ec_ctypes.specs.trees.Embedded.{EmbData}
use Rattle.ec_base.specs.Numbers.{fault_number}
use Rattle.ec_language.specs.First.{earlier, first_of, stop_at}
use Rattle.ec_host_defs.specs.Bound.{violation_at}
use Rattle.ec_params.specs.Answers.{stop_for}
use Rattle.ec_params.specs.Least.{lower, least}

one_place : (n : ℕ) (b : Bool) → (nat_lt n n || (n == n && b)) ≡ b
one_place n b =
    let f : nat_lt n n ≡ false = grind (arith, nat_tests) in
    let g : (n == n) ≡ true = grind (arith, nat_tests) in
    λ i. f i || (g i && b)

first_kept : (n : ℕ) (e : EmbData) (k : FaultKind) (o : Option FaultKind) → earlier (violation_at n e k) (option_map (violation_at n e) o) ≡ option_map (violation_at n e) (lower k o)
first_kept n e k None = refl
first_kept n e k (Some j) = ap (λ (b : Bool). if b then Some (violation_at n e j) else Some (violation_at n e k)) (one_place n (nat_lt (fault_number j) (fault_number k))) ∙ chosen (nat_lt (fault_number j) (fault_number k))
  where
    chosen : (b : Bool) → (if b then Some (violation_at n e j) else Some (violation_at n e k)) ≡ option_map (violation_at n e) (if b then Some j else Some k)
    chosen true = refl
    chosen false = refl

firsts : (n : ℕ) (e : EmbData) (ks : List FaultKind) → first_of (map (violation_at n e) ks) ≡ option_map (violation_at n e) (least ks)
unfolding least
firsts n e [] = refl
firsts n e (k ∷ ks) = ap (earlier (violation_at n e k)) (firsts n e ks) ∙ first_kept n e k (least ks)

stopped : (n : ℕ) (e : EmbData) (o : Option FaultKind) → stop_at (option_map (violation_at n e) o) ≡ stop_for e o
stopped n e None = refl
stopped n e (Some k) = refl

pub first_is_least : (n : ℕ) (e : EmbData) (ks : List FaultKind) → stop_at (first_of (map (violation_at n e) ks)) ≡ stop_for e (least ks)
first_is_least n e ks = ap stop_at (firsts n e ks) ∙ stopped n e (least ks)
