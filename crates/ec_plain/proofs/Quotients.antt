-- Quotients by numbers above 0.
use Rattle.std.proofs.Common.{◌≡◌, ◌≢◌, ◌∙◌, refl, sym, ℤ, pos, Option, Some, None, Ok}
use Rattle.std.specs.Prelude.{IfSome, int_div}
use Rattle.ec_ctypes.specs.declared.types.arith.Arith.{Arith}
use Rattle.ec_meaning_defs.specs.resolved.Operations.{quotient, result_of}
use Rattle.ec_values.proofs.Numbers.{quotient_is}

pub quotient_some : (t : Arith) (a b o : ℤ) (r : Option ℤ) → b ≢ pos 0 → o ≡ int_div a b → IfSome r (λ z. result_of t o ≡ Ok z) → IfSome r (λ z. quotient t a b ≡ Ok z)
quotient_some t a b o None h e p = tt
quotient_some t a b o (Some z) h e p = sym (quotient_is t a b o (result_of t o) h e refl) ∙ p

-- what holds in any case
pub anyway : (r : Option ℤ) (P : Type 0) → P → IfSome r (λ z. P)
anyway None P p = tt
anyway (Some z) P p = p
