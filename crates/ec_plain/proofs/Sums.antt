-- A number is added to an int.
use Rattle.std.proofs.Common.{◌≡◌, ◌∙◌, ◌≤ℤ◌, ◌+ℤ◌, ℕ, ℤ, pos, negsuc, ◌^◌, ◌-◌, ◌%◌, arith, ap, refl, sym, subst, Bool, true, false, Ok, Err}
use Rattle.std.specs.Prelude.{if◌then◌else◌, int_le, ◌-ℤ◌, ◌&&◌}
use Rattle.std.proofs.lemmas.Int.{ints}
use Rattle.ec_base.specs.declared.stop.Trap.TheVariants.{Overflow}
use Rattle.ec_ctypes.specs.Arithmetic.{wrapped_signed, wrapped_unsigned}
use Rattle.ec_ctypes.specs.declared.types.arith.Arith.TheVariants as arithmetic
use Rattle.ec_code.specs.Trees.{update_view}
use Rattle.ec_code.specs.declared.step.Binary.TheVariants as binary
use Rattle.ec_code.specs.declared.step.Update.{Update}
use Rattle.ec_meaning_defs.specs.evaluation.Evaluate.{updated}
use Rattle.ec_meaning_defs.specs.evaluation.Results.{changed, value, on_value, tried, worked_out}
use Rattle.ec_memory_defs.specs.Kinds.{kind_type}
use Rattle.ec_memory_defs.specs.declared.kind.Kind.{Kind}
use Rattle.ec_memory_defs.specs.declared.kind.Kind.TheVariants as kind
use Rattle.ec_memory_defs.specs.Memory.{Memory, address, load, number, store}
use Rattle.ec_meaning_defs.specs.resolved.Operations.{calculated, plus, number_worked, worked}
use Rattle.ec_values.specs.Operations.{operation_view}
use Rattle.ec_values.specs.declared.operation.IntegerOperator.TheVariants as operator
use Rattle.ec_values.specs.declared.operation.Operation.{Operation}
use Rattle.ec_values.specs.declared.operation.Operation.TheVariants as operation
use Rattle.ec_plain.specs.Answered.{at}
use Rattle.ec_plain.specs.Numbers.{Changes}
use Rattle.ec_plain.specs.Steps.{both_on}

-- a number that int has is the same as an int
pub int_kept : (z : ℤ) → negsuc (2 ^ 31 - 1) ≤ℤ z → z ≤ℤ pos (2 ^ 31 - 1) → wrapped_signed 32 z ≡ z
int_kept (pos n) low high =
    let small : n % 2 ^ 32 ≡ n = omega (arith, ints, high) in
    either (int_le (pos (n % 2 ^ 32)) (pos (2 ^ 31 - 1))) refl
  where
    either : (b : Bool) → int_le (pos (n % 2 ^ 32)) (pos (2 ^ 31 - 1)) ≡ b → (if b then pos (n % 2 ^ 32) else pos (n % 2 ^ 32) -ℤ pos (2 ^ 32)) ≡ pos n
    either true e = omega (arith, ints, high)
    either false e = omega (arith, ints, high)
int_kept (negsuc n) low high = either (int_le (wrapped_unsigned 32 (negsuc n)) (pos (2 ^ 31 - 1))) refl
  where
    either : (b : Bool) → int_le (wrapped_unsigned 32 (negsuc n)) (pos (2 ^ 31 - 1)) ≡ b → (if b then wrapped_unsigned 32 (negsuc n) else wrapped_unsigned 32 (negsuc n) -ℤ pos (2 ^ 32)) ≡ negsuc n
    either true e = omega (arith, ints, low)
    either false e = omega (arith, ints, low)

-- a sum that int has
pub int_sum : (x y : ℤ) → negsuc (2 ^ 31 - 1) ≤ℤ (x +ℤ y) → (x +ℤ y) ≤ℤ pos (2 ^ 31 - 1) → calculated arithmetic.Int plus x y ≡ Ok (x +ℤ y)
int_sum x y low high = either (int_le (negsuc (2 ^ 31 - 1)) (x +ℤ y)) (int_le (x +ℤ y) (pos (2 ^ 31 - 1))) refl refl
  where
    either : (b c : Bool) → int_le (negsuc (2 ^ 31 - 1)) (x +ℤ y) ≡ b → int_le (x +ℤ y) (pos (2 ^ 31 - 1)) ≡ c → (if b && c then Ok (x +ℤ y) else Err Overflow) ≡ Ok (x +ℤ y)
    either true true d e = refl
    either true false d e = absurd (omega (arith, ints, e, high))
    either false c d e = absurd (omega (arith, ints, d, low))

-- what is added to an int is the change of an update that adds to one
pub sum_changes : (u : Update) (p : ℕ) (old by : ℤ) (m n : Memory) → u.kind ≡ kind.Int → u.widened ≡ kind.Int → u.operation ≡ operation.Integers arithmetic.Int operator.Plus → negsuc (2 ^ 31 - 1) ≤ℤ old → old ≤ℤ pos (2 ^ 31 - 1) → negsuc (2 ^ 31 - 1) ≤ℤ (old +ℤ by) → (old +ℤ by) ≤ℤ pos (2 ^ 31 - 1) → load m p (kind_type kind.Int) ≡ Ok (number old) → store m p (kind_type kind.Int) (number (old +ℤ by)) ≡ Ok n → Changes u p by m n (if u.gives_old then old else old +ℤ by)
sum_changes u p old by m n is widens adds low high under over found put =
    let F : Kind → Kind → Operation → Type 0 = λ k w o. Changes (record { kind = k; widened = w; operation = o; gives_old = u.gives_old }) p by m n (if u.gives_old then old else old +ℤ by) in
    subst (λ k. F k u.widened u.operation) (sym is) (subst (λ w. F kind.Int w u.operation) (sym widens) (subst (λ o. F kind.Int kind.Int o) (sym adds) (plainly u.gives_old)))
  where
    plainly : (g : Bool) → Changes (record { kind = kind.Int; widened = kind.Int; operation = operation.Integers arithmetic.Int operator.Plus; gives_old = g }) p by m n (if g then old else old +ℤ by)
    plainly g = λ line s.
        let u : Update = record { kind = kind.Int; widened = kind.Int; operation = operation.Integers arithmetic.Int operator.Plus; gives_old = g } in
        ap (λ r. on_value (tried line r (at s m) (λ v. value v (at s m))) (λ v t. both_on line (binary.Update u) (address p) v (number by) t)) found
        ∙ ap (λ z. worked_out line (worked (operation_view u.operation) m (number z) (number by)) (at s m) (λ new. updated line (update_view u) p (number old) new (at s m))) (int_kept old low high)
        ∙ ap (λ r. worked_out line (number_worked r) (at s m) (λ new. updated line (update_view u) p (number old) new (at s m))) (int_sum old by under over)
        ∙ ap (λ z. changed line (store m p (kind_type kind.Int) (number z)) (at s m) (λ t. value (elim g [ true ↦ number old | false ↦ number z ]) t)) (int_kept (old +ℤ by) under over)
        ∙ ap (λ r. changed line r (at s m) (λ t. value (elim g [ true ↦ number old | false ↦ number (old +ℤ by) ]) t)) put
        ∙ elim g as (λ b. value (elim b [ true ↦ number old | false ↦ number (old +ℤ by) ]) (at s n) ≡ value (number (if b then old else old +ℤ by)) (at s n)) [ true ↦ refl | false ↦ refl ]
