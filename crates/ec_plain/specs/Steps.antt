-- What a step makes of what an expression leads to.
use Rattle.std.specs.Prelude.{ℕ, pos, true, false, not as negation, List, [], ◌∷◌}
use Rattle.ec_code.specs.Trees.{Step, one, two, update_view}
use Rattle.ec_code.specs.declared.step.Binary.{Binary}
use Rattle.ec_code.specs.declared.step.Binary.TheVariants as binary
use Rattle.ec_code.specs.declared.step.Unary.{Unary}
use Rattle.ec_code.specs.declared.step.Unary.TheVariants as unary
use Rattle.ec_code.specs.declared.step.Update.{Update}
use Rattle.ec_meaning_defs.specs.evaluation.Evaluate.{Context, World, Step as Knowing, eval, updated}
use Rattle.ec_meaning_defs.specs.evaluation.Results.{Res, value, on_value, tried, changed, worked_out, at_address, on_number}
use Rattle.ec_meaning_defs.specs.evaluation.State.{State}
use Rattle.ec_memory_defs.specs.Kinds.{kind_type}
use Rattle.ec_memory_defs.specs.Memory.{ValueData, number, address, moved, cells_at, load, store, copy, put}
use Rattle.ec_meaning_defs.specs.resolved.Operations.{is_true, truth, value_as, negated, flipped, number_worked, worked}
use Rattle.ec_meaning_defs.specs.resolved.Resolved.{Exp}
use Rattle.ec_values.specs.Operations.{operation_view}

-- behind the value so far
abbrev pub one_on : ℕ → Unary → ValueData → State → Res
one_on line (unary.Member offset) v t =
    at_address v t (λ p. tried line (moved t.memory p (pos offset) 1) t (λ q. value (address q) t))
one_on line (unary.Load kind) v t =
    at_address v t (λ p. tried line (load t.memory p (kind_type kind)) t (λ x. value x t))
one_on line (unary.Whole size) v t =
    at_address v t (λ p. tried line (cells_at t.memory p size) t (λ cells. value (address p) t))
one_on line (unary.Put bytes) v t =
    at_address v t (λ p. changed line (put t.memory p bytes) t (λ u. value (address p) u))
one_on line (unary.Convert from to) v t = value (value_as (kind_type to) v) t
one_on line (unary.Negate type) v t =
    on_number v t (λ z. worked_out line (number_worked (negated type z)) t (λ x. value x t))
one_on line (unary.Flip type) v t = on_number v t (λ z. value (number (flipped type z)) t)
one_on line unary.Not v t = value (truth (negation (is_true v))) t

-- the old value of a place that is updated
abbrev pub old_on : ℕ → Update → ValueData → State → Res
old_on line u v t =
    at_address v t (λ p. tried line (load t.memory p (kind_type u.kind)) t (λ old. value old t))

-- behind both values, and the old value where a place is updated
abbrev pub both_on : ℕ → Binary → ValueData → ValueData → ValueData → State → Res
both_on line (binary.Store kind) v old x u =
    at_address v u (λ p. changed line (store u.memory p (kind_type kind) x) u (λ r. value x r))
both_on line (binary.Copy size) v old x u = at_address v u
    (λ p. at_address x u (λ q. changed line (copy u.memory p q size) u (λ r. value (address p) r)))
both_on line (binary.Update n) v old x u =
    at_address v u
    (λ p. worked_out line (worked (operation_view n.operation) u.memory
    (value_as (kind_type n.widened) old) x) u (λ new. updated line (update_view n) p old new u))
both_on line (binary.Operate op) v old x u =
    worked_out line (worked (operation_view op) u.memory v x) u (λ z. value z u)
both_on line binary.Both v old x u = value (truth (is_true x)) u
both_on line binary.Either v old x u = value (truth (is_true x)) u

-- behind the value so far, with another expression
abbrev pub two_on : Knowing → World → Context → Binary → Exp → ValueData → State → Res
two_on step w c (binary.Store kind) a v t =
    on_value (eval step w c a t) (both_on c.line (binary.Store kind) v v)
two_on step w c (binary.Copy size) a v t =
    on_value (eval step w c a t) (both_on c.line (binary.Copy size) v v)
two_on step w c (binary.Update n) a v t = on_value (old_on c.line n v t)
    (λ old u. on_value (eval step w c a u) (both_on c.line (binary.Update n) v old))
two_on step w c (binary.Operate op) a v t =
    on_value (eval step w c a t) (both_on c.line (binary.Operate op) v v)
two_on step w c binary.Both a v t =
    elim (is_true v) [
      | true ↦ on_value (eval step w c a t) (both_on c.line binary.Both v v)
      | false ↦ value (truth false) t
    ]
two_on step w c binary.Either a v t = elim (is_true v) [
  | true ↦ value (truth true) t
  | false ↦ on_value (eval step w c a t) (both_on c.line binary.Either v v)
]

abbrev pub step_on : Knowing → World → Context → Step → ValueData → State → Res
step_on step w c (one u) v t = one_on c.line u v t
step_on step w c (two b a) v t = two_on step w c b a v t

-- behind all steps, one after the other
abbrev pub followed : Knowing → World → Context → List Step → Res → Res
followed step w c [] r = r
followed step w c (x ∷ xs) r = followed step w c xs (on_value r (step_on step w c x))
