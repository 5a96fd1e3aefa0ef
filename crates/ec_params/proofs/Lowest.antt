-- Of joined lists of faults, the lowest.
use Rattle.std.proofs.Common.{◌≡◌, ℕ, Bool, true, false, List, [], ◌∷◌, ◌++◌, Option, Some, None, refl, sym, ap, ◌∙◌, arith}
use Rattle.std.specs.Prelude.{nat_lt}
use Rattle.std.proofs.lemmas.Bool.Decides.{nat_tests}
use Rattle.ec_base.specs.declared.fault.FaultKind.{FaultKind}
use Rattle.ec_base.specs.Numbers.{fault_number}
use Rattle.ec_params.specs.Least.{lower, lower_of, least}

-- three numbers that are in order by all three tests
through : (a b c : ℕ) → nat_lt c b ≡ true → nat_lt b a ≡ true → nat_lt c a ≡ false → ⊥
through a b c e f g = grind (arith, nat_tests)

back : (a b c : ℕ) → nat_lt c b ≡ false → nat_lt b a ≡ false → nat_lt c a ≡ true → ⊥
back a b c e f g = grind (arith, nat_tests)

by_order : (a b c : FaultKind) (x y z : Bool) → nat_lt (fault_number c) (fault_number b) ≡ x → nat_lt (fault_number b) (fault_number a) ≡ y → nat_lt (fault_number c) (fault_number a) ≡ z → lower a (lower b (Some c)) ≡ lower_of (lower a (Some b)) (Some c)
by_order a b c true true true e f g = simp (e, f, g) refl
by_order a b c true true false e f g = absurd (through (fault_number a) (fault_number b) (fault_number c) e f g)
by_order a b c true false true e f g = simp (e, f, g) refl
by_order a b c true false false e f g = simp (e, f, g) refl
by_order a b c false true true e f g = simp (e, f, g) refl
by_order a b c false true false e f g = simp (e, f, g) refl
by_order a b c false false true e f g = absurd (back (fault_number a) (fault_number b) (fault_number c) e f g)
by_order a b c false false false e f g = simp (e, f, g) refl

none_last : (a b : FaultKind) (x : Bool) → nat_lt (fault_number b) (fault_number a) ≡ x → lower a (Some b) ≡ lower_of (lower a (Some b)) None
none_last a b true e = simp e refl
none_last a b false e = simp e refl

pub grouped : (a : FaultKind) (b c : Option FaultKind) → lower a (lower_of b c) ≡ lower_of (lower a b) c
grouped a None c = refl
grouped a (Some b) None = none_last a b (nat_lt (fault_number b) (fault_number a)) refl
grouped a (Some b) (Some c) = by_order a b c _ _ _ refl refl refl

pub joined : (a b c : Option FaultKind) → lower_of (lower_of a b) c ≡ lower_of a (lower_of b c)
joined None b c = refl
joined (Some k) b c = sym (grouped k b c)

pub lowest_of : (xs ys : List FaultKind) → least (xs ++ ys) ≡ lower_of (least xs) (least ys)
unfolding least
lowest_of [] ys = refl
lowest_of (x ∷ xs) ys = ap (lower x) (lowest_of xs ys) ∙ grouped x (least xs) (least ys)

pub ruleset lowest = (lowest_of)
