-- What is left to do, one form at a time.
use Rattle.std.proofs.Common.{◌≡◌, ◌∙◌, rules, refl, sym, ap, subst, arith, IsErrAnd, true, false, ℕ, zero, suc, ◌+◌, ◌-◌, ◌<◌, ◌≤◌, List, [], ◌∷◌, ◌++◌, length, get_or, take, drop, Option, Bool, Result, Ok, Err}
use Rattle.ec_base.specs.declared.line.Line.{Line}
use Rattle.ec_code.specs.declared.expression.Expression.{Expression, the_lemmas as expression_lemmas}
use Rattle.ec_code.specs.declared.expression.Expression.TheVariants as expression
use Rattle.ec_code.specs.declared.expression.Full.{Full, out-Full, the_lemmas as full_lemmas}
use Rattle.ec_code.specs.declared.expression.FullStep.{FullStep, the_lemmas as step_lemmas}
use Rattle.ec_code.specs.declared.expression.FullStep.TheVariants as step
use Rattle.ec_code.specs.declared.expression.Head.{the_lemmas as head_lemmas}
use Rattle.ec_code.specs.declared.expression.Head.TheVariants as head
use Rattle.ec_code.specs.declared.expression.Plain.{Plain}
use Rattle.ec_code.specs.declared.program.ObjectSize.{ObjectSize}
use Rattle.ec_code.specs.declared.statement.Loop.{Loop, out-Loop, the_lemmas as loop_lemmas}
use Rattle.ec_code.specs.declared.statement.Statement.{Statement, the_lemmas}
use Rattle.ec_code.specs.declared.statement.Statement.TheVariants as statement
use Rattle.ec_code.specs.declared.step.Binary.{Binary}
use Rattle.ec_code.specs.declared.step.Unary.{Unary}
use Rattle.ec_code.specs.declared.mark.Mark.{Mark}
use Rattle.ec_printf.specs.declared.formats.known.Known.{Known}
use Rattle.ec_machine.specs.declared.frame.Flow.{Flow}
use Rattle.ec_machine.specs.declared.frame.Flow.TheVariants as flow
use Rattle.ec_machine.specs.declared.frame.Focus.{Focus}
use Rattle.ec_machine.specs.declared.frame.Focus.TheVariants as focus
use Rattle.ec_machine.specs.declared.frame.Frame.{Frame}
use Rattle.ec_machine.specs.declared.frame.Frame.TheVariants as frame
use Rattle.ec_machine.specs.declared.machine.Machine.{Machine}
use Rattle.ec_machine.specs.declared.stop.Stop.{Stop}
use Rattle.ec_machine.proofs.Parts.{front_is}
use Rattle.ec_machine.specs.Weights.{expression_weight, expressions_weight, flow_weight, focus_weight, frame_answer, frame_weight, frames_answer, frames_weight, full_step_weight, full_weight, head_weight, remaining, loop_weight, optional_weight, statement_weight, statements_weight, steps_weight, weight}

-- ---- the sizes of trees

pub weight-OnLine : (line : Line) (x : Statement) → statement_weight (statement.OnLine line x) ≡ suc (statement_weight x)
unfolding statement_weight loop_weight
weight-OnLine line x = search (rules, the_lemmas)

pub weight-Nothing : statement_weight statement.Nothing ≡ 1
unfolding statement_weight loop_weight
weight-Nothing = search (rules, the_lemmas)

pub weight-Leave : statement_weight statement.Leave ≡ 1
unfolding statement_weight loop_weight
weight-Leave = search (rules, the_lemmas)

pub weight-Next : statement_weight statement.Next ≡ 1
unfolding statement_weight loop_weight
weight-Next = search (rules, the_lemmas)

pub weight-Evaluate : (e : Expression) → statement_weight (statement.Evaluate e) ≡ 2 + expression_weight e
unfolding statement_weight loop_weight
weight-Evaluate e = search (rules, the_lemmas)

pub weight-Declare : (i size : ℕ) → statement_weight (statement.Declare i size) ≡ 1
unfolding statement_weight loop_weight
weight-Declare i size = search (rules, the_lemmas)

pub weight-Initialize : (i size : ℕ) (es : List Expression) → statement_weight (statement.Initialize i size es) ≡ 4 + expressions_weight es
unfolding statement_weight loop_weight
weight-Initialize i size es = search (rules, the_lemmas)

pub weight-Block : (sizes : List ObjectSize) (b : List Statement) → statement_weight (statement.Block sizes b) ≡ 3 + statements_weight b
unfolding statement_weight loop_weight
weight-Block sizes b = search (rules, the_lemmas)

pub weight-Choose : (e : Expression) (a b : Statement) → statement_weight (statement.Choose e a b) ≡ 2 + expression_weight e + statement_weight a + statement_weight b
unfolding statement_weight loop_weight
weight-Choose e a b = search (rules, the_lemmas)

weight-loop : (x : Loop) → loop_weight x ≡ 4 + optional_weight (out-Loop x).test + optional_weight (out-Loop x).behind + statement_weight (out-Loop x).body
unfolding statement_weight loop_weight
weight-loop x = search (rules, loop_lemmas)

weight-Loop-loop : (x : Loop) → statement_weight (statement.Loop x) ≡ loop_weight x
unfolding statement_weight loop_weight
weight-Loop-loop x = search (rules, the_lemmas)

pub weight-Loop : (x : Loop) → statement_weight (statement.Loop x) ≡ 4 + optional_weight (out-Loop x).test + optional_weight (out-Loop x).behind + statement_weight (out-Loop x).body
weight-Loop x = weight-Loop-loop x ∙ weight-loop x

pub weight-Return : (e : Option Expression) → statement_weight (statement.Return e) ≡ 2 + optional_weight e
unfolding statement_weight loop_weight
weight-Return e = search (rules, the_lemmas)

pub weight-Goto : (l : ℕ) → statement_weight (statement.Goto l) ≡ 1
unfolding statement_weight loop_weight
weight-Goto l = search (rules, the_lemmas)

pub weight-Label : (l : Mark) (x : Statement) → statement_weight (statement.Label l x) ≡ suc (statement_weight x)
unfolding statement_weight loop_weight
weight-Label l x = search (rules, the_lemmas)

pub weight-Switch : (e : Expression) (x : Statement) → statement_weight (statement.Switch e x) ≡ 3 + expression_weight e + statement_weight x
unfolding statement_weight loop_weight
weight-Switch e x = search (rules, the_lemmas)

pub weight-Embedded : (n : ℕ) → statement_weight (statement.Embedded n) ≡ 1
unfolding statement_weight loop_weight
weight-Embedded n = search (rules, the_lemmas)

pub weight-Plain : (p : Plain) → expression_weight (expression.Plain p) ≡ 1
unfolding expression_weight full_weight head_weight full_step_weight
weight-Plain p = search (rules, expression_lemmas)

pub weight-Full : (p : Full) → expression_weight (expression.Full p) ≡ full_weight p
unfolding expression_weight full_weight head_weight full_step_weight
weight-Full p = search (rules, expression_lemmas)

pub weight-full : (x : Full) → full_weight x ≡ head_weight (out-Full x).head + steps_weight (out-Full x).steps
unfolding expression_weight full_weight head_weight full_step_weight
weight-full x = search (rules, full_lemmas)

pub weight-Begun : (p : Plain) → head_weight (head.Begun p) ≡ 1
unfolding expression_weight full_weight head_weight full_step_weight
weight-Begun p = search (rules, head_lemmas)

pub weight-Call : (f : ℕ) (used : Bool) (es : List Expression) → head_weight (head.Call f used es) ≡ 3 + expressions_weight es
unfolding expression_weight full_weight head_weight full_step_weight
weight-Call f used es = search (rules, head_lemmas)

pub weight-Known : (f : Known) (es : List Expression) → head_weight (head.Known f es) ≡ 3 + expressions_weight es
unfolding expression_weight full_weight head_weight full_step_weight
weight-Known f es = search (rules, head_lemmas)

pub weight-LibraryCall : (n : ℕ) (es : List Expression) → head_weight (head.LibraryCall n es) ≡ 3 + expressions_weight es
unfolding expression_weight full_weight head_weight full_step_weight
weight-LibraryCall n es = search (rules, head_lemmas)

pub weight-Choice : (e a b : Expression) → head_weight (head.Choice e a b) ≡ 3 + expression_weight e + expression_weight a + expression_weight b
unfolding expression_weight full_weight head_weight full_step_weight
weight-Choice e a b = search (rules, head_lemmas)

pub weight-One : (u : Unary) → full_step_weight (step.One u) ≡ 0
unfolding expression_weight full_weight head_weight full_step_weight
weight-One u = search (rules, step_lemmas)

pub weight-Two : (b : Binary) (e : Expression) → full_step_weight (step.Two b e) ≡ suc (expression_weight e)
unfolding expression_weight full_weight head_weight full_step_weight
weight-Two b e = search (rules, step_lemmas)

-- the operand of `?:` that a value chooses is no larger than both
pub chosen_weight : (b : Bool) (x y z : Expression) → z ≡ elim b [ true ↦ x | false ↦ y ] → expression_weight z ≤ expression_weight x + expression_weight y
chosen_weight true x y z p = omega (arith, ap expression_weight p)
chosen_weight false x y z p = omega (arith, ap expression_weight p)

-- ---- frames

pub pushed_weight : (fs : List Frame) (f : Frame) → frames_weight (fs ++ f ∷ []) ≡ frames_weight fs + frame_weight f
unfolding frames_weight
pushed_weight [] f = omega arith
pushed_weight (g ∷ fs) f = omega (arith, pushed_weight fs f)

pub pushed_answer : (fs : List Frame) (f : Frame) → frames_answer (fs ++ f ∷ []) ≡ frames_answer fs + frame_answer f
unfolding frames_answer
pushed_answer [] f = omega arith
pushed_answer (g ∷ fs) f = omega (arith, pushed_answer fs f)

-- ---- what is left

pub remaining_most : (t : ℕ) (f : Focus) (m : Machine) → remaining t (Ok f) m ≤ suc (weight m.frames f)
unfolding remaining
remaining_most t f m = most (t - m.turns)
  where
    most : (n : ℕ) → elim n [ zero ↦ suc (weight m.frames f) | suc k ↦ 0 ] ≤ suc (weight m.frames f)
    most zero = omega arith
    most (suc n) = omega arith

pub remaining_err : (t : ℕ) (x : Stop) (m : Machine) → remaining t (Err x) m ≡ 0
unfolding remaining
remaining_err t x m = refl

-- there are fewer turns
none_there : (n a : ℕ) → (n ≡ 0 → ⊥) → elim n as (λ _. ℕ) [ zero ↦ a | suc k ↦ 0 ] ≡ 0
none_there zero a i = absurd (i refl)
none_there (suc n) a i = refl

pub remaining_none : (t : ℕ) (r : Result Focus Stop) (m : Machine) → m.turns < t → remaining t r m ≡ 0
unfolding remaining
remaining_none t (Err x) m h = refl
remaining_none t (Ok f) m h = none_there (t - m.turns) (suc (weight m.frames f)) (λ e. omega (arith, h, e))

-- there are not
pub remaining_all : (t : ℕ) (f : Focus) (m : Machine) → t ≤ m.turns → remaining t (Ok f) m ≡ suc (weight m.frames f)
unfolding remaining
remaining_all t f m h = all (t - m.turns) (omega (arith, h))
  where
    all : (n : ℕ) → n ≡ 0 → elim n [ zero ↦ suc (weight m.frames f) | suc k ↦ 0 ] ≡ suc (weight m.frames f)
    all zero i = refl
    all (suc n) i = absurd (omega (arith, i))

-- a focus behind frames that were pushed
pub nearer : (t n : ℕ) (f : Focus) (m : Machine) → suc (frames_weight m.frames + focus_weight f m.frames) ≤ n → remaining t (Ok f) m ≤ n
nearer t n f m h = omega (arith, remaining_most t f m, h)

-- a focus behind one more frame
pub pushes : (t n : ℕ) (fs : List Frame) (g : Frame) (f : Focus) (m : Machine) → m.frames ≡ fs ++ g ∷ [] → suc (frames_weight fs + frame_weight g + focus_weight f m.frames) ≤ n → remaining t (Ok f) m ≤ n
pushes t n fs g f m e h = omega (arith, remaining_most t f m, ap frames_weight e, pushed_weight fs g, h)

-- where there is no focus, nothing is left
pub err_near : (t n : ℕ) (x : Stop) (m : Machine) → remaining t (Err x) m ≤ n
err_near t n x m = omega (arith, remaining_err t x m)

pub err_exit : (t n : ℕ) (r : Result Focus Stop) (m : Machine) (P : Stop → Type 0) → IsErrAnd r P → remaining t r m ≤ n
err_exit t n (Ok f) m P h = absurd h
err_exit t n (Err x) m P h = err_near t n x m

pub err_is_near : (t n : ℕ) (r : Result Focus Stop) (m : Machine) (x : Stop) → r ≡ Err x → remaining t r m ≤ n
err_is_near t n r m x p = subst (λ r. remaining t r m ≤ n) (sym p) (err_near t n x m)

pub err_none : (t : ℕ) (r : Result Focus Stop) (m : Machine) (P : Stop → Type 0) → IsErrAnd r P → remaining t r m ≡ 0
err_none t (Ok f) m P h = absurd h
err_none t (Err x) m P h = remaining_err t x m

-- a frame as another that it is
pub value_given : (fs : List Frame) (f g : Frame) (n : ℕ) → f ≡ g → n ≤ frames_weight fs + frame_weight g → n ≤ frames_weight fs + frame_weight f
value_given fs f g n e h = subst (λ z. n ≤ frames_weight fs + frame_weight z) (sym e) h

pub flow_given : (fs : List Frame) (x : Flow) (f g : Frame) (n : ℕ) → f ≡ g → n ≤ frames_weight fs + frame_weight g + flow_weight x (frame_answer g + frames_answer fs) → n ≤ frames_weight fs + frame_weight f + flow_weight x (frame_answer f + frames_answer fs)
flow_given fs x f g n e h = subst (λ z. n ≤ frames_weight fs + frame_weight z + flow_weight x (frame_answer z + frames_answer fs)) (sym e) h

-- what a `goto` leaves may answer it
pub flow_more : (f : Flow) (a b : ℕ) → a ≤ b → flow_weight f a ≤ flow_weight f b
flow_more flow.On a b h = omega arith
flow_more flow.Broke a b h = omega arith
flow_more flow.Continued a b h = omega arith
flow_more (flow.Went l) a b h = h
flow_more (flow.Back v) a b h = omega arith

some_weight : (g : Frame) → 1 ≤ frame_weight g
some_weight (frame.Steps line xs) = omega arith
some_weight (frame.Right line step v old xs) = omega arith
some_weight (frame.Arguments line callee n es xs) = omega arith
some_weight (frame.Call x) = omega arith
some_weight (frame.Called line n xs) = omega arith
some_weight frame.Do = omega arith
some_weight frame.Give = omega arith
some_weight (frame.Choose line a b) = omega arith
some_weight (frame.Choice line a b) = omega arith
some_weight (frame.Select line x) = omega arith
some_weight frame.Switch = omega arith
some_weight (frame.Test line x) = omega arith
some_weight (frame.Behind line x) = omega arith
some_weight (frame.Body line x) = omega arith
some_weight (frame.Rest line xs) = omega arith
some_weight (frame.Settle line xs) = omega arith
some_weight (frame.Close mark height count) = omega arith

-- a frame lets a flow pass
pub passes_on : (t : ℕ) (f : Flow) (m : Machine) (g : Frame) → remaining t (Ok (focus.Leads f)) m ≤ frames_weight m.frames + frame_weight g + flow_weight f (frame_answer g + frames_answer m.frames)
passes_on t f m g = omega (arith, remaining_most t (focus.Leads f) m, some_weight g, flow_more f (frames_answer m.frames) (frame_answer g + frames_answer m.frames) (omega arith))

-- a frame that was pushed, and may answer
pub pushed_flow : (x : Flow) (fs fs' : List Frame) (f : Frame) → fs' ≡ fs ++ f ∷ [] → flow_weight x (frame_answer f + frames_answer fs) ≡ flow_weight x (frames_answer fs')
pushed_flow x fs fs' f e = ap (flow_weight x) (omega (arith, ap frames_answer e, pushed_answer fs f))

-- ---- lists

pub front_weight : (xs : List Statement) (x : Statement) → 1 ≤ length xs → x ≡ get_or xs 0 x → statements_weight xs ≡ suc (statement_weight x) + statements_weight (take (length xs - 1) (drop 1 xs))
front_weight xs x h e = ap statements_weight (front_is xs x h e)

pub front_expressions : (xs : List Expression) (x : Expression) → 1 ≤ length xs → x ≡ get_or xs 0 x → expressions_weight xs ≡ suc (expression_weight x) + expressions_weight (take (length xs - 1) (drop 1 xs))
front_expressions xs x h e = ap expressions_weight (front_is xs x h e)

pub front_steps : (xs : List FullStep) (x : FullStep) → 1 ≤ length xs → x ≡ get_or xs 0 x → steps_weight xs ≡ suc (full_step_weight x) + steps_weight (take (length xs - 1) (drop 1 xs))
front_steps xs x h e = omega (arith, ap steps_weight (front_is xs x h e))

-- ---- what a function names once, by `#[tactic(auto, using(..))]`

pub ruleset weights = (pushed_weight, remaining_most, remaining_err, remaining_none)
