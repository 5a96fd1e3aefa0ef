-- What a statement does (ISO/IEC 9899:1999, 6.8), run from its start or looking for a label. Embedded statements are the step's.
use Rattle.std.specs.Prelude.{ℕ, zero, suc, Bool, true, false, List, [], slice_get, map, Option, Some, None}
use Rattle.ec_memory_defs.specs.Memory.{ValueData, scalar_size, last_number, unset, fill}
use Rattle.ec_meaning_defs.specs.resolved.Labels.{same, holds, holds_any}
use Rattle.ec_meaning_defs.specs.resolved.Operations.{is_true}
use Rattle.ec_meaning_defs.specs.resolved.Programs.{Function}
use Rattle.ec_meaning_defs.specs.resolved.Resolved.{Mark, named, case, default, Exp, Exps, embedded, Stm, on_line, nothing, evaluate, declare, initialize, block, choose, loop, leave, next, return, goto, label, select, embedded_statement, Stms, no_stms, stms}
use Rattle.ec_meaning_defs.specs.evaluation.State.{State, turns_spent, stuck}
use Rattle.ec_meaning_defs.specs.evaluation.Results.{Res, value, on, broke, continued, went, back, over, on_value, on_done, after_body, after_switch, on_number, changed, present, turn, made, given, closing, function_end, returned}
use Rattle.ec_meaning_defs.specs.evaluation.Evaluate.{Context, Task, calls, turn_of, look_for, World, Step, eval, collect}

-- a loop from its test. Without one it goes on
abbrev pub tested : Step → World → Context → Option Exp → Option Exp → Stm → State → Res
tested step w c None behind x s = w (turn_of c None behind x) s
tested step w c (Some e) behind x s =
    on_value (eval step w c e s) (λ v t.
    elim (is_true v) [ true ↦ w (turn_of c (Some e) behind x) t | false ↦ on t ])

-- a loop behind its body
abbrev pub again : Step → World → Context → Option Exp → Option Exp → Stm → State → Res
again step w c test None x s = tested step w c test None x s
again step w c test (Some e) x s =
    on_value (eval step w c e s) (λ v t. tested step w c test (Some e) x t)

-- a block that holds the label answers a `goto`
abbrev pub settle : World → Context → Stms → Res → Res
settle w c b (value v s) = value v s
settle w c b (on s) = on s
settle w c b (broke s) = broke s
settle w c b (continued s) = continued s
settle w c b (went l s) = elim (holds_any (named l) b) [ true ↦ w (look_for c l b) s | false ↦ went l s ]
settle w c b (back v s) = back v s
settle w c b (over e s) = over e s

abbrev pub inside : Context → List ℕ → Context
inside c objects = record c { objects = objects }

-- a block: its objects are made, its statements do what `go` says, and its objects end
abbrev pub enter : World → Context → List ℕ → Stms → (Context → State → Res) → State → Res
enter w c sizes b go s =
    closing (last_number s.memory) (made c.line sizes c.objects s (λ objects t.
    settle w (inside c objects) b (go (inside c objects) t)))

-- a declaration that is reached
abbrev pub declared : Context → ℕ → ℕ → State → Res
declared c i size s =
    present (slice_get c.objects i) s (λ p. changed c.line (unset s.memory p size) s (λ t. on t))

-- an object with an initializer is filled with zero bytes first (6.7.8)
abbrev pub initialized : Step → World → Context → ℕ → ℕ → Exps → State → Res
initialized step w c i size es s =
    present (slice_get c.objects i) s (λ p. changed c.line (fill s.memory p size 0) s (λ t.
    collect step w c [] es t (λ vs u. on u)))

abbrev pub returning : Step → World → Context → Option Exp → State → Res
returning step w c None s = returned c.first None s
returning step w c (Some e) s = on_value (eval step w c e s) (λ v t. returned c.first (Some v) t)

abbrev mutual
  -- from the start
  pub run : Step → World → Context → Stm → State → Res
  run step w c (on_line n x) s = run step w (record c { line = n }) x s
  run step w c nothing s = on s
  run step w c (evaluate e) s = on_value (eval step w c e s) (λ v t. on t)
  run step w c (declare i size) s = declared c i size s
  run step w c (initialize i size es) s = initialized step w c i size es s
  run step w c (block sizes b) s = enter w c sizes b (λ d t. run_all step w d b t) s
  run step w c (choose e a b) s =
      on_value (eval step w c e s) (λ v t.
      elim (is_true v) [ true ↦ run step w c a t | false ↦ run step w c b t ])
  run step w c (loop first test behind x) s =
      elim first [ true ↦ tested step w c test behind x s | false ↦ w (turn_of c test behind x) s ]
  run step w c leave s = broke s
  run step w c next s = continued s
  run step w c (return e) s = returning step w c e s
  run step w c (goto l) s = turn s (λ t. went l t)
  run step w c (label l x) s = run step w c x s
  run step w c (select e x) s =
      on_value (eval step w c e s) (λ v t. on_number v t (λ z.
      elim (holds (case z) x) [
        | true ↦ after_switch (look step w (case z) c x t)
        | false ↦ elim (holds default x) [
          | true ↦ after_switch (look step w default c x t)
          | false ↦ on t
        ]
      ]))
  run step w c (embedded_statement n) s = step w c (embedded n) s

  pub run_all : Step → World → Context → Stms → State → Res
  run_all step w c no_stms s = on s
  run_all step w c (stms a b) s = on_done (run step w c a s) (λ t. run_all step w c b t)

  -- looking for a label (6.8.6.1) or a case (6.8.4.2), in a statement that holds it. What is passed does nothing, and a loop or a `switch` is entered without its test or operand
  pub look : Step → World → Mark → Context → Stm → State → Res
  look step w l c (on_line n x) s = look step w l (record c { line = n }) x s
  look step w l c nothing s = on s
  look step w l c (evaluate e) s = on s
  look step w l c (declare i size) s = on s
  look step w l c (initialize i size es) s = on s
  look step w l c (block sizes b) s = enter w c sizes b (λ d t. look_all step w l d b t) s
  look step w l c (choose e a b) s =
      elim (holds l a) [ true ↦ look step w l c a s | false ↦ look step w l c b s ]
  look step w l c (loop first test behind x) s =
      after_body (look step w l c x s) (λ t. again step w c test behind x t)
  look step w l c leave s = on s
  look step w l c next s = on s
  look step w l c (return e) s = on s
  look step w l c (goto m) s = on s
  look step w l c (label m x) s =
      elim (same m l) [ true ↦ run step w c x s | false ↦ look step w l c x s ]
  look step w l c (select e x) s = after_switch (look step w l c x s)
  look step w l c (embedded_statement n) s = on s

  pub look_all : Step → World → Mark → Context → Stms → State → Res
  look_all step w l c no_stms s = on s
  look_all step w l c (stms a b) s =
      elim (holds l a) [
        | true ↦ on_done (look step w l c a s) (λ t. run_all step w c b t)
        | false ↦ look_all step w l c b s
      ]

-- the body of a function, with its objects in scope
abbrev pub body_run : Step → World → Context → Function → State → Res
body_run step w c f s = settle w c f.body (run_all step w c f.body s)

abbrev pub in_function : ℕ → List ℕ → Bool → Context
in_function line objects first = record { line = line; objects = objects; first = first }

-- a call: all parameters are made, then stored, and then the objects of the body's block are made
abbrev pub called : Step → World → ℕ → Option Function → List ValueData → State → Res
called step w line None vs s = over stuck s
called step w line (Some f) vs s =
    function_end f.otherwise (closing (last_number s.memory)
    (made line (map scalar_size f.parameters) [] s (λ ps t. given line f.parameters ps vs t (λ u.
    made line f.objects ps u (λ objects r. body_run step w (in_function line objects false) f r)))))

-- a task whose turn is taken, among these functions
abbrev pub act : Step → List Function → World → Task → State → Res
act step fs w (calls line f vs) s = called step w line (slice_get fs f) vs s
act step fs w (turn_of c test behind x) s =
    after_body (run step w c x s) (λ t. again step w c test behind x t)
act step fs w (look_for c l b) s = settle w c b (look_all step w (named l) c b s)

-- a task, which takes its turn first. A `goto` has taken its turn where it stands
abbrev pub started : Task → State → (State → Res) → Res
started (calls line f vs) s k = turn s k
started (turn_of c test behind x) s k = turn s k
started (look_for c l b) s k = k s

-- every task, for runs of at most so many turns
abbrev pub meaning : Step → List Function → ℕ → World
meaning step fs zero t s = over turns_spent s
meaning step fs (suc k) t s = started t s (λ u. act step fs (meaning step fs k) t u)
