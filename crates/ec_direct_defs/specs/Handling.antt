-- What is done behind a statement: for NOT FOUND, SQLWARNING and SQLERROR, in this order, if the condition holds of the communication area as it is then, the action that holds at the statement (PostgreSQL manual, "Setting Callbacks").
use Rattle.std.specs.Prelude.{ℕ, pos, Bool, true, false, ℤ, int_le, int_lt, ◌&&◌, []}
use Rattle.ec_ctypes.specs.declared.embedded.emb.Cond.{Cond}
use Rattle.ec_ctypes.specs.declared.embedded.emb.Cond.TheVariants.{NotFound, Warning, Error}
use Rattle.ec_ctypes.specs.declared.types.arith.Arith.TheVariants.{Long, Char}
use Rattle.ec_meaning_defs.specs.functions.Functions.{effect_of, sqlprint}
use Rattle.ec_memory_defs.specs.Memory.{pointer_to, load, integer_type, number_of}
use Rattle.ec_resolving_defs.specs.Storage.{ActionForm, goes_on, jumps, prints, stops, leaves, continues, calls_function, ActionForms}
use Rattle.ec_meaning_defs.specs.evaluation.State.{State, exited}
use Rattle.ec_meaning_defs.specs.evaluation.Results.{Res, on, broke, continued, went, over, on_value, on_done, tried, turn, done_there}
use Rattle.ec_meaning_defs.specs.evaluation.Evaluate.{World, Context, Step, eval}

-- ---- conditions

-- `sqlcode` is a long at offset 16 of the area, which is object 1, and `sqlwarn` is an array of char at 240
abbrev pub code_place : ℕ
code_place = pointer_to 1 16

abbrev pub warning_place : ℕ
warning_place = pointer_to 1 240

abbrev pub is_number : ℤ → ℤ → Bool
is_number a b = int_le a b && int_le b a

abbrev pub when_code : ℕ → (ℤ → Bool) → State → (Bool → Res) → Res
when_code line holds s go =
    tried line (load s.memory code_place (integer_type Long)) s (λ v. go (holds (number_of v)))

-- the first warning is a `W`
abbrev pub when_warned : ℕ → State → (Bool → Res) → Res
when_warned line s go =
    tried line (load s.memory warning_place (integer_type Char)) s (λ v.
    go (is_number (number_of v) (pos 87)))

abbrev pub when : ℕ → Cond → State → (Bool → Res) → Res
when line NotFound s go = when_code line (λ z. is_number z (pos 100)) s go
when line Warning s go = when_warned line s go
when line Error s go = when_code line (λ z. int_lt z (pos 0)) s go

-- ---- actions

module _ (step : Step) (w : World) (c : Context) where
  abbrev pub acted : ActionForm → State → Res
  acted goes_on s = on s
  acted (jumps l) s = turn s (λ t. went l t)
  acted prints s = on_value (done_there c.line (effect_of sqlprint s.memory []) s) (λ v t. on t)
  acted stops s = over (exited 1) s
  acted leaves s = broke s
  acted continues s = continued s
  acted (calls_function e) s = on_value (eval step w c e s) (λ v t. on t)

  -- an action that does nothing isn't tested for
  abbrev pub tested : Cond → ActionForm → State → Res
  tested condition goes_on s = on s
  tested condition action s =
      when c.line condition s (λ holds. elim holds [ true ↦ acted action s | false ↦ on s ])

  abbrev pub handled : ActionForms → State → Res
  handled actions s =
      on_done (tested NotFound actions.none_found s) (λ s.
      on_done (tested Warning actions.warning s) (λ s.
      tested Error actions.error s))
