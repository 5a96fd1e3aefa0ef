-- What is found at once, as the definition says it: a value, and the memory behind it.
use Rattle.std.specs.Prelude.{◌≡◌, ℕ, ℤ, Bool, List, map}
use Rattle.ec_bytes.specs.declared.scalar.address.Ptr.{Ptr}
use Rattle.ec_ctypes.specs.declared.types.arith.Arith.TheVariants as arithmetic
use Rattle.ec_code.specs.Trees.{Step, two}
use Rattle.ec_code.specs.Views.{plain_step_view}
use Rattle.ec_code.specs.declared.expression.PlainStep.{PlainStep}
use Rattle.ec_meaning_defs.specs.evaluation.Evaluate.{World, Step as Knowing, eval}
use Rattle.ec_code.specs.declared.step.Binary.{Binary}
use Rattle.ec_code.specs.declared.step.Binary.TheVariants as binary
use Rattle.ec_code.specs.declared.step.Update.{Update}
use Rattle.ec_meaning_defs.specs.evaluation.Results.{value, on_value}
use Rattle.ec_meaning_defs.specs.evaluation.State.{State}
use Rattle.ec_memory_defs.specs.declared.kind.Kind.TheVariants as kind
use Rattle.ec_memory_defs.specs.Memory.{Memory, ValueData, address, number}
use Rattle.ec_meaning_defs.specs.resolved.Operations.{gives, worked}
use Rattle.ec_meaning_defs.specs.resolved.Resolved.{Exp}
use Rattle.ec_values.specs.Operations.{operation_view}
use Rattle.ec_values.specs.declared.operation.IntegerOperator.TheVariants as operator
use Rattle.ec_values.specs.declared.operation.Operation.{Operation}
use Rattle.ec_values.specs.declared.operation.Operation.TheVariants as operation
use Rattle.ec_plain.specs.Answered.{at, context}
use Rattle.ec_plain.specs.Steps.{both_on, followed, old_on, step_on}

-- an expression leads from one memory to another, and has this value
abbrev pub Leads : List Ptr → Exp → Memory → Memory → ValueData → Type 0
Leads scope e m n x =
    (knowing : Knowing) (w : World) (line : ℕ) (first : Bool) (s : State)
    → eval knowing w (context line scope first) e (at s m) ≡ value x (at s n)

-- behind the value so far, a step leads from one memory to another, and gives this value
abbrev pub StepLeads : List Ptr → Step → ValueData → Memory → Memory → ValueData → Type 0
StepLeads scope step v m n x =
    (knowing : Knowing) (w : World) (line : ℕ) (first : Bool) (s : State)
    → step_on knowing w (context line scope first) step v (at s m) ≡ value x (at s n)

-- behind a number, steps that only read lead to a number
abbrev pub Follows : List Ptr → List PlainStep → ℤ → Memory → ℤ → Type 0
Follows scope steps begun m z =
    (knowing : Knowing) (w : World) (line : ℕ) (first : Bool) (s : State)
    → followed knowing w (context line scope first) (map plain_step_view steps)
    (value (number begun) (at s m)) ≡ value (number z) (at s m)

-- behind the address of a place, steps that only read lead to a number
abbrev pub FollowsPlace : List Ptr → List PlainStep → ℕ → Memory → ℤ → Type 0
FollowsPlace scope steps p m z =
    (knowing : Knowing) (w : World) (line : ℕ) (first : Bool) (s : State)
    → followed knowing w (context line scope first) (map plain_step_view steps)
    (value (address p) (at s m)) ≡ value (number z) (at s m)

-- an expression is this place, whatever the memory holds
abbrev pub Stands : List Ptr → Exp → ℕ → Type 0
Stands scope e p = (m : Memory) → Leads scope e m m (address p)

-- an update of what stands at a place, by a number, leads from one memory to another, and gives a number
abbrev pub Changes : Update → ℕ → ℤ → Memory → Memory → ℤ → Type 0
Changes u p by m n z =
    (line : ℕ) (s : State)
    → on_value (old_on line u (address p) (at s m))
    (λ old t. both_on line (binary.Update u) (address p) old (number by) t)
    ≡ value (number z) (at s n)

-- behind any number a step is this operation, with this number at its right
abbrev pub Operates : List Ptr → Step → Memory → Operation → ℤ → Type 0
Operates scope step m op y =
    (x z : ℤ) → worked (operation_view op) m (number x) (number y) ≡ gives (number z)
    → StepLeads scope step (number x) m m (number z)

-- what a step leads to behind this place is what a whole expression leads to
abbrev pub Targets : List Ptr → Exp → Memory → ℕ → Step → Type 0
Targets scope e m p step =
    (n : Memory) (z : ℤ) → StepLeads scope step (address p) m n (number z)
    → Leads scope e m n (number z)

-- with a number at its right, whatever it is the value of, a step leads from one memory to another, and gives a number
abbrev pub Completes : Binary → ℕ → ℤ → Memory → Memory → ℤ → Type 0
Completes step p y m n z =
    (scope : List Ptr) (a : Exp) → Leads scope a m m (number y)
    → StepLeads scope (two step a) (address p) m n (number z)

-- a step is this update by this number, of whatever place
abbrev pub Updates : List Ptr → Step → Memory → Update → ℤ → Type 0
Updates scope step m u y =
    (p : ℕ) (n : Memory) (z : ℤ) → Changes u p y m n z
    → StepLeads scope step (address p) m n (number z)

-- an update adds to an int
pub record AddsInts (u : Update) : Type 0 where
  pub of_int : u.kind ≡ kind.Int
  pub as_int : u.widened ≡ kind.Int
  pub adds : u.operation ≡ operation.Integers arithmetic.Int operator.Plus
