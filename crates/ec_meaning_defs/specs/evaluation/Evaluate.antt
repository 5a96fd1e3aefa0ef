-- What an expression does (ISO/IEC 9899:1999, 6.5). Operands and arguments are evaluated from left to right, and the place of an assignment before its value.
use Rattle.std.specs.Prelude.{ℕ, pos, Bool, true, false, not as negation, List, [], ◌∷◌, ◌++◌, slice_get, Option}
use Rattle.ec_meaning_defs.specs.functions.Functions.{effect_of}
use Rattle.ec_memory_defs.specs.Memory.{ValueData, number, address, pointer_to, moved, cells_at, load as loaded, store as stored, copy as copied, put as put_bytes}
use Rattle.ec_meaning_defs.specs.resolved.Operations.{is_true, truth, value_as, negated, flipped, number_worked, worked}
use Rattle.ec_meaning_defs.specs.resolved.Resolved.{Update, Exp, object, slot, member, constant, load, whole, store, copy, put, update, convert, negate, flip, not, operate, both, either, choice, call, known, library_call, faulty, Exps, no_exps, exps, Atom, library, Stm, Stms}
use Rattle.ec_meaning_defs.specs.evaluation.State.{State, stuck}
use Rattle.ec_meaning_defs.specs.evaluation.Results.{Res, value, over, on_value, tried, changed, worked_out, at_address, on_number, present, done_there, without_answer, answered}

-- where a part of a program stands: the line of its statement, the objects in scope by their pointers, and whether its function is the first `main`
pub record Context : Type 0 where
  pub line : ℕ
  pub objects : List ℕ
  pub first : Bool

-- what costs a turn, and what a taken `goto` leads to
pub data Task : Type 0 where
  -- a call on a line, of the function of this number with these arguments
  calls : ℕ → ℕ → List ValueData → Task
  -- the body of a loop is started, and then the loop goes on: the test, what is evaluated behind each body, the body
  turn_of : Context → Option Exp → Option Exp → Stm → Task
  -- a block answers a `goto`, whose turn is taken: its statements are run looking for the label
  look_for : Context → ℕ → Stms → Task

abbrev pub World : Type 0
World = Task → State → Res

-- what a step does at what only it knows
abbrev pub Step : Type 0
Step = World → Context → Atom → State → Res

-- the store of `a op= b`, `++` and `--`: the answer is the old value or the new one
abbrev pub updated : ℕ → Update → ℕ → ValueData → ValueData → State → Res
updated line u p old new s =
    changed line (stored s.memory p u.kind (value_as u.kind new)) s (λ t.
    value (elim u.gives_old [ true ↦ old | false ↦ value_as u.kind new ]) t)

abbrev mutual
  pub eval : Step → World → Context → Exp → State → Res
  eval step w c (object n) s = value (address (pointer_to n 0)) s
  eval step w c (slot i) s = present (slice_get c.objects i) s (λ p. value (address p) s)
  eval step w c (member offset e) s =
      on_value (eval step w c e s) (λ v t. at_address v t (λ p.
      tried c.line (moved t.memory p (pos offset) 1) t (λ q. value (address q) t)))
  eval step w c (constant v) s = value v s
  eval step w c (load kind e) s =
      on_value (eval step w c e s) (λ v t. at_address v t (λ p.
      tried c.line (loaded t.memory p kind) t (λ x. value x t)))
  eval step w c (whole size e) s =
      on_value (eval step w c e s) (λ v t. at_address v t (λ p.
      tried c.line (cells_at t.memory p size) t (λ cells. value (address p) t)))
  eval step w c (store kind e a) s =
      on_value (eval step w c e s) (λ v t. on_value (eval step w c a t) (λ x u.
      at_address v u (λ p. changed c.line (stored u.memory p kind x) u (λ r. value x r))))
  eval step w c (copy size e a) s =
      on_value (eval step w c e s) (λ v t. on_value (eval step w c a t) (λ x u.
      at_address v u (λ p. at_address x u (λ q. changed c.line (copied u.memory p q size) u (λ r.
      value (address p) r)))))
  eval step w c (put bytes e) s =
      on_value (eval step w c e s) (λ v t. at_address v t (λ p.
      changed c.line (put_bytes t.memory p bytes) t (λ u. value (address p) u)))
  eval step w c (update n e a) s =
      on_value (eval step w c e s) (λ v t. at_address v t (λ p.
      tried c.line (loaded t.memory p n.kind) t (λ old.
      on_value (eval step w c a t) (λ x u.
      worked_out c.line (worked n.operation u.memory (value_as n.widened old) x) u (λ new.
      updated c.line n p old new u)))))
  eval step w c (convert from to e) s =
      on_value (eval step w c e s) (λ v t. value (value_as to v) t)
  eval step w c (negate type e) s =
      on_value (eval step w c e s) (λ v t. on_number v t (λ z.
      worked_out c.line (number_worked (negated type z)) t (λ x. value x t)))
  eval step w c (flip type e) s =
      on_value (eval step w c e s) (λ v t. on_number v t (λ z. value (number (flipped type z)) t))
  eval step w c (not e) s =
      on_value (eval step w c e s) (λ v t. value (truth (negation (is_true v))) t)
  eval step w c (operate op a b) s =
      on_value (eval step w c a s) (λ x t. on_value (eval step w c b t) (λ y u.
      worked_out c.line (worked op u.memory x y) u (λ z. value z u)))
  eval step w c (both a b) s =
      on_value (eval step w c a s) (λ x t. elim (is_true x) [
        | true ↦ on_value (eval step w c b t) (λ y u. value (truth (is_true y)) u)
        | false ↦ value (truth false) t
      ])
  eval step w c (either a b) s =
      on_value (eval step w c a s) (λ x t. elim (is_true x) [
        | true ↦ value (truth true) t
        | false ↦ on_value (eval step w c b t) (λ y u. value (truth (is_true y)) u)
      ])
  eval step w c (choice e a b) s =
      on_value (eval step w c e s) (λ x t.
      elim (is_true x) [ true ↦ eval step w c a t | false ↦ eval step w c b t ])
  eval step w c (call f used es) s =
      collect step w c [] es s (λ vs t. answered c.line used (w (calls c.line f vs) t))
  eval step w c (known f es) s =
      collect step w c [] es s (λ vs t. done_there c.line (effect_of f t.memory vs) t)
  eval step w c (library_call n es) s =
      collect step w c [] es s (λ vs t. without_answer (step w c (library n vs) t))
  eval step w c faulty s = over stuck s

  -- expressions one after the other, their values behind others
  pub collect : Step → World → Context → List ValueData → Exps → State
      → (List ValueData → State → Res) → Res
  collect step w c vs no_exps s k = k vs s
  collect step w c vs (exps e es) s k =
      on_value (eval step w c e s) (λ v t. collect step w c (vs ++ v ∷ []) es t k)
