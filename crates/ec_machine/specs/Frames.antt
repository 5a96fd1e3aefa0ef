-- A run cut in two: what is looked at, and the frames that wait for its answer, the innermost last. `knowing` is the step of what only it knows.
use Rattle.std.specs.Prelude.{◌≡◌, ℕ, ◌-◌, List, [], ◌∷◌, ◌++◌, length, take, drop, map, Option, Some, Bool, true, false}
use Rattle.std.specs.Option.{option_map}
use Rattle.ec_bytes.specs.declared.scalar.address.Ptr.{Ptr}
use Rattle.ec_code.specs.declared.expression.FullStep.{FullStep}
use Rattle.ec_code.specs.declared.statement.Loop.{Loop, out-Loop}
use Rattle.ec_code.specs.Marks.{mark_view}
use Rattle.ec_code.specs.Views.{expression_view, expressions_view, full_step_view, statement_view, statements_view}
use Rattle.ec_meaning_defs.specs.evaluation.Evaluate.{Context, World, Step as Knowing, calls, turn_of, eval, collect}
use Rattle.ec_meaning_defs.specs.evaluation.Execute.{run, run_all, look, tested, again, settle}
use Rattle.ec_meaning_defs.specs.evaluation.Results.{Res, value, on, broke, continued, went, back, on_value, on_number, on_done, after_body, after_switch, closing, function_end, answered, without_answer, returned, finished, done_there}
use Rattle.ec_meaning_defs.specs.evaluation.State.{State}
use Rattle.ec_printf.specs.formats.Known.{channel_view, known_view}
use Rattle.ec_meaning_defs.specs.functions.Functions.{effect_of, puts_bytes}
use Rattle.ec_memory_defs.specs.Memory.{ValueData}
use Rattle.ec_plain.specs.Answered.{context}
use Rattle.ec_plain.specs.Steps.{followed, both_on}
use Rattle.ec_meaning_defs.specs.resolved.Labels.{holds}
use Rattle.ec_meaning_defs.specs.resolved.Operations.{is_true}
use Rattle.ec_meaning_defs.specs.resolved.Resolved.{Exp, Stm, Mark, case, default, library}
use Rattle.ec_values.specs.Words.{word_view}
use Rattle.ec_values.specs.declared.word.Word.{Word}
use Rattle.ec_base.specs.declared.line.Line.{Line}
use Rattle.ec_machine.specs.declared.frame.Callee.{Callee}
use Rattle.ec_machine.specs.declared.frame.Callee.TheVariants as callee
use Rattle.ec_machine.specs.declared.frame.Flow.{Flow}
use Rattle.ec_machine.specs.declared.frame.Flow.TheVariants as flow
use Rattle.ec_machine.specs.declared.frame.Focus.{Focus}
use Rattle.ec_machine.specs.declared.frame.Focus.TheVariants as focus
use Rattle.ec_machine.specs.declared.frame.Frame.{Frame}
use Rattle.ec_machine.specs.declared.frame.Frame.TheVariants as frame
use Rattle.ec_machine.specs.declared.frame.Way.{Way}
use Rattle.ec_machine.specs.declared.scope.Scope.{Scope}

-- ---- where a frame stands

abbrev pub last_of : {A : Type 0} → ℕ → List A → List A
last_of n xs = drop (length xs - n) xs

abbrev pub without_last : {A : Type 0} → ℕ → List A → List A
without_last n xs = take (length xs - n) xs

-- the scope with the first of its pointers alone, of which so many are those in scope
abbrev pub cut : ℕ → ℕ → Scope → Scope
cut height count sc = record { pointers = take height sc.pointers; count = count }

-- pointers were put behind those that were there
abbrev pub Grown : List Ptr → List Ptr → Type 0
Grown old new = (more : List Ptr) × (new ≡ old ++ more)

-- the objects in scope, whether the function is the first `main`, the values of arguments that wait, and what the first `main` gives where its body ends
pub record Env : Type 0 where
  pub scope : Scope
  pub first : Bool
  pub values : List Word
  pub otherwise : Option Word

abbrev pub objects_of : Scope → List Ptr
objects_of sc = last_of sc.count sc.pointers

abbrev pub here : Env → Line → Context
here e line = context line.0 (objects_of e.scope) e.first

abbrev pub waiting : ℕ → Env → List ValueData
waiting n e = map word_view (last_of n e.values)

-- ---- loops

abbrev pub test_of : Loop → Option Exp
test_of x = option_map expression_view (out-Loop x).test

abbrev pub behind_of : Loop → Option Exp
behind_of x = option_map expression_view (out-Loop x).behind

abbrev pub body_of : Loop → Stm
body_of x = statement_view (out-Loop x).body

-- ---- `switch`

-- the body from a case, or from `default` where it holds no such (6.8.4.2)
abbrev pub selected : Knowing → World → Context → Stm → Mark → State → Res
selected knowing w c x l t =
    elim (holds l x) [
      | true ↦ after_switch (look knowing w l c x t)
      | false ↦ elim (holds default x) [
        | true ↦ after_switch (look knowing w default c x t)
        | false ↦ on t
      ]
    ]

-- ---- frames

-- what becomes of the values that were collected
abbrev pub received : Knowing → World → Context → Callee → List ValueData → State → Res
received knowing w c (callee.Function f used) vs t =
    answered c.line used (w (calls c.line f vs) t)
received knowing w c (callee.Known f) vs t =
    done_there c.line (effect_of (known_view f.now) t.memory vs) t
received knowing w c (callee.Library n) vs t = without_answer (knowing w c (library n vs) t)
received knowing w c callee.Object vs t = on t

-- behind steps
abbrev pub behind_by : Context → List FullStep → Knowing → World → Res → Res
behind_by c xs knowing w o = followed knowing w c (map full_step_view xs) o

-- ---- ways out of functions

abbrev pub outside : Way → Env → Env
outside x e = record e { scope = cut x.height x.count e.scope; first = x.first }

-- what the call gives, from what the body led to
abbrev pub left_by : Way → Res → Res
left_by x o =
    answered x.line.0 x.used
    (function_end (option_map word_view x.function.now.otherwise) (closing x.mark o))

-- where the frames below stand
abbrev pub below : Env → Frame → Env
below e (frame.Arguments line callee n es xs) = record e { values = without_last n e.values }
below e (frame.Call x) = outside x e
below e (frame.Called line n xs) = record e { values = without_last n e.values }
below e (frame.Close mark height count) = record e { scope = cut height count e.scope }
below e f = e

-- what a frame makes of the answer that it waits for
abbrev pub plug : Knowing → World → Env → Frame → Res → Res
plug knowing w e (frame.Steps line xs) o =
    followed knowing w (here e line) (map full_step_view xs.now) o
plug knowing w e (frame.Right line step v old xs) o =
    behind_by (here e line) xs.now knowing w
    (on_value o (both_on line.0 step.now (word_view v) (word_view old)))
plug knowing w e (frame.Arguments line callee n es xs) o =
    followed knowing w (here e line) (map full_step_view xs.now) (on_value o (λ v t.
    collect knowing w (here e line) (waiting n e ++ v ∷ [])
    (expressions_view es.now) t (received knowing w (here e line) callee)))
plug knowing w e (frame.Call x) o =
    behind_by (here (outside x e) x.line) x.steps.now knowing w
    (left_by x (settle w (here e x.line) (statements_view x.function.now.body) o))
plug knowing w e (frame.Called line n xs) o =
    followed knowing w (here e line) (map full_step_view xs.now) o
plug knowing w e frame.Do o = on_value o (λ v t. on t)
plug knowing w e frame.Give o = on_value o (λ v t. returned e.first (Some v) t)
plug knowing w e (frame.Choose line a b) o =
    on_value o (λ v t. elim (is_true v) [
      | true ↦ run knowing w (here e line) (statement_view a.now) t
      | false ↦ run knowing w (here e line) (statement_view b.now) t
    ])
plug knowing w e (frame.Choice line a b) o =
    on_value o (λ v t. elim (is_true v) [
      | true ↦ eval knowing w (here e line) (expression_view a.now) t
      | false ↦ eval knowing w (here e line) (expression_view b.now) t
    ])
plug knowing w e (frame.Select line x) o =
    on_value o
    (λ v t. on_number v t (λ z. selected knowing w (here e line) (statement_view x.now) (case z) t))
plug knowing w e frame.Switch o = after_switch o
plug knowing w e (frame.Test line x) o =
    on_value o (λ v t. elim (is_true v) [
      | true ↦ w (turn_of (here e line) (test_of x.now) (behind_of x.now) (body_of x.now)) t
      | false ↦ on t
    ])
plug knowing w e (frame.Behind line x) o =
    on_value o
    (λ v t. tested knowing w (here e line) (test_of x.now) (behind_of x.now) (body_of x.now) t)
plug knowing w e (frame.Body line x) o =
    after_body o
    (λ t. again knowing w (here e line) (test_of x.now) (behind_of x.now) (body_of x.now) t)
plug knowing w e (frame.Rest line xs) o =
    on_done o (λ t. run_all knowing w (here e line) (statements_view xs.now) t)
plug knowing w e (frame.Settle line xs) o = settle w (here e line) (statements_view xs.now) o
plug knowing w e (frame.Close mark height count) o = closing mark o

-- the value of an expression, for a frame that waits for it
abbrev pub evaluated_for : Env → Line → Exp → Frame → Knowing → World → State → Res
evaluated_for e line x f knowing w t = plug knowing w e f (eval knowing w (here e line) x t)

-- what the frames make of an answer, the innermost first, and the first `main` behind them
abbrev pub resume : Knowing → World → Env → List Frame → Res → Res
resume knowing w e [] o = finished (option_map word_view e.otherwise) o
resume knowing w e (f ∷ fs) o = resume knowing w (below e f) fs (plug knowing w e f o)

-- ---- what is looked at

-- what a statement led to
abbrev pub led : Flow → State → Res
led flow.On s = on s
led flow.Broke s = broke s
led flow.Continued s = continued s
led (flow.Went l) s = went l s
led (flow.Back v) s = back (option_map word_view v) s

abbrev pub denote : Knowing → World → Env → Line → List ℕ → Focus → State → Res
denote knowing w e line text (focus.Runs x) s = run knowing w (here e line) (statement_view x.now) s
denote knowing w e line text (focus.Looks l x) s =
    look knowing w (mark_view l) (here e line) (statement_view x.now) s
denote knowing w e line text (focus.Evaluates x) s =
    eval knowing w (here e line) (expression_view x.now) s
denote knowing w e line text (focus.Value v) s = value (word_view v) s
denote knowing w e line text (focus.Puts channel v) s =
    done_there line.0 (puts_bytes (channel_view channel) (option_map word_view v) s.memory text) s
denote knowing w e line text (focus.Calls n k) s =
    without_answer (knowing w (here e line) (library n (waiting k e)) s)
denote knowing w e line text (focus.Leads f) s = led f s
