-- How much is left to do before the next turn: the sizes of the trees that are left. A step that takes no turn makes it smaller.
use Rattle.std.specs.Prelude.{ℕ, zero, suc, ◌+◌, ◌-◌, List, [], ◌∷◌, map, Option, Some, None, option_map, Result, Ok, Err}
use Rattle.ec_code.specs.declared.expression.Expression.{Expression, fold-Expression}
use Rattle.ec_code.specs.declared.expression.Expression.TheOpen.{Expression-F, Full-F, Head-F, FullStep-F}
use Rattle.ec_code.specs.declared.expression.Full.{Full, fold-Full}
use Rattle.ec_code.specs.declared.expression.FullStep.{FullStep, fold-FullStep}
use Rattle.ec_code.specs.declared.expression.Head.{Head, fold-Head}
use Rattle.ec_code.specs.declared.statement.Loop.{Loop, out-Loop, fold-Loop}
use Rattle.ec_code.specs.declared.statement.Statement.{Statement, fold-Statement}
use Rattle.ec_code.specs.declared.statement.Statement.TheOpen.{Statement-F, Loop-F}
use Rattle.ec_machine.specs.declared.frame.Flow.{Flow}
use Rattle.ec_machine.specs.declared.frame.Flow.TheVariants as flow
use Rattle.ec_machine.specs.declared.frame.Focus.{Focus}
use Rattle.ec_machine.specs.declared.frame.Focus.TheVariants as focus
use Rattle.ec_machine.specs.declared.frame.Frame.{Frame}
use Rattle.ec_machine.specs.declared.frame.Frame.TheVariants as frame
use Rattle.ec_machine.specs.declared.machine.Machine.{Machine}
use Rattle.ec_machine.specs.declared.stop.Stop.{Stop}

-- parts one after the other, of which each begins with a step
abbrev pub each : List ℕ → ℕ
each [] = 0
each (n ∷ ns) = suc n + each ns

abbrev pub or_nothing : Option ℕ → ℕ
or_nothing None = 0
or_nothing (Some n) = n

-- ---- expressions

abbrev pub expression_step : Expression-F ℕ ℕ ℕ ℕ → ℕ
expression_step (Expression-F.Plain p) = 1
expression_step (Expression-F.Full f) = f

abbrev pub full_step : Full-F ℕ ℕ ℕ ℕ → ℕ
full_step f = f.head + (1 + each f.steps)

abbrev pub head_step : Head-F ℕ ℕ ℕ ℕ → ℕ
head_step (Head-F.Begun p) = 1
head_step (Head-F.Call f used es) = 3 + each es
head_step (Head-F.Known f es) = 3 + each es
head_step (Head-F.LibraryCall n es) = 3 + each es
head_step (Head-F.Choice e a b) = 3 + e + a + b

abbrev pub full_step_step : FullStep-F ℕ ℕ ℕ ℕ → ℕ
full_step_step (FullStep-F.One u) = 0
full_step_step (FullStep-F.Two b e) = suc e

unfoldable pub expression_weight : Expression → ℕ
expression_weight = fold-Expression ℕ ℕ ℕ ℕ expression_step full_step_step head_step full_step

unfoldable pub full_weight : Full → ℕ
full_weight = fold-Full ℕ ℕ ℕ ℕ expression_step full_step_step head_step full_step

unfoldable pub head_weight : Head → ℕ
head_weight = fold-Head ℕ ℕ ℕ ℕ expression_step full_step_step head_step full_step

unfoldable pub full_step_weight : FullStep → ℕ
full_step_weight = fold-FullStep ℕ ℕ ℕ ℕ expression_step full_step_step head_step full_step

abbrev pub expressions_weight : List Expression → ℕ
expressions_weight es = each (map expression_weight es)

-- the steps behind a value
abbrev pub steps_weight : List FullStep → ℕ
steps_weight xs = 1 + each (map full_step_weight xs)

-- ---- statements

abbrev pub optional_weight : Option Expression → ℕ
optional_weight e = or_nothing (option_map expression_weight e)

abbrev pub statement_step : Statement-F ℕ ℕ → ℕ
statement_step (Statement-F.OnLine line x) = suc x
statement_step Statement-F.Nothing = 1
statement_step (Statement-F.Evaluate e) = 2 + expression_weight e
statement_step (Statement-F.Declare i size) = 1
statement_step (Statement-F.Initialize i size es) = 4 + expressions_weight es
statement_step (Statement-F.Block sizes b) = 3 + each b
statement_step (Statement-F.Choose e a b) = 2 + expression_weight e + a + b
statement_step (Statement-F.Loop x) = x
statement_step Statement-F.Leave = 1
statement_step Statement-F.Next = 1
statement_step (Statement-F.Return e) = 2 + optional_weight e
statement_step (Statement-F.Goto l) = 1
statement_step (Statement-F.Label l x) = suc x
statement_step (Statement-F.Switch e x) = 3 + expression_weight e + x
statement_step (Statement-F.Embedded n) = 1

abbrev pub loop_step : Loop-F ℕ ℕ → ℕ
loop_step x = 4 + optional_weight x.test + optional_weight x.behind + x.body

unfoldable pub statement_weight : Statement → ℕ
statement_weight = fold-Statement ℕ ℕ statement_step loop_step

unfoldable pub loop_weight : Loop → ℕ
loop_weight = fold-Loop ℕ ℕ statement_step loop_step

abbrev pub statements_weight : List Statement → ℕ
statements_weight xs = each (map statement_weight xs)

-- a loop from its test
abbrev pub test_weight : Loop → ℕ
test_weight x = 1 + optional_weight (out-Loop x).test

-- a loop behind its body
abbrev pub again_weight : Loop → ℕ
again_weight x = 1 + test_weight x + optional_weight (out-Loop x).behind

-- ---- frames

abbrev pub frame_weight : Frame → ℕ
frame_weight (frame.Steps line xs) = steps_weight xs.now
frame_weight (frame.Right line step v old xs) = 1 + steps_weight xs.now
frame_weight (frame.Arguments line callee n es xs) =
    2 + expressions_weight es.now + steps_weight xs.now
frame_weight (frame.Call x) = 1 + steps_weight x.steps.now
frame_weight (frame.Called line n xs) = steps_weight xs.now
frame_weight frame.Do = 1
frame_weight frame.Give = 1
frame_weight (frame.Choose line a b) = 1 + statement_weight a.now + statement_weight b.now
frame_weight (frame.Choice line a b) = 1 + expression_weight a.now + expression_weight b.now
frame_weight (frame.Select line x) = 2 + statement_weight x.now
frame_weight frame.Switch = 1
frame_weight (frame.Test line x) = 1
frame_weight (frame.Behind line x) = 1 + test_weight x.now
frame_weight (frame.Body line x) = 1 + again_weight x.now
frame_weight (frame.Rest line xs) = 1 + statements_weight xs.now
frame_weight (frame.Settle line xs) = 1
frame_weight (frame.Close mark height count) = 1

unfoldable pub frames_weight : List Frame → ℕ
frames_weight [] = 0
frames_weight (f ∷ fs) = frame_weight f + frames_weight fs

-- what a block has left to do where it answers a `goto`
abbrev pub frame_answer : Frame → ℕ
frame_answer (frame.Steps line xs) = 0
frame_answer (frame.Right line step v old xs) = 0
frame_answer (frame.Arguments line callee n es xs) = 0
frame_answer (frame.Call x) = 1 + statements_weight x.function.now.body
frame_answer (frame.Called line n xs) = 0
frame_answer frame.Do = 0
frame_answer frame.Give = 0
frame_answer (frame.Choose line a b) = 0
frame_answer (frame.Choice line a b) = 0
frame_answer (frame.Select line x) = 0
frame_answer frame.Switch = 0
frame_answer (frame.Test line x) = 0
frame_answer (frame.Behind line x) = 0
frame_answer (frame.Body line x) = 0
frame_answer (frame.Rest line xs) = 0
frame_answer (frame.Settle line xs) = 1 + statements_weight xs.now
frame_answer (frame.Close mark height count) = 0

unfoldable pub frames_answer : List Frame → ℕ
frames_answer [] = 0
frames_answer (f ∷ fs) = frame_answer f + frames_answer fs

-- ---- the whole

-- a `goto` on its way may be answered by any block that it leaves
abbrev pub flow_weight : Flow → ℕ → ℕ
flow_weight flow.On n = 0
flow_weight flow.Broke n = 0
flow_weight flow.Continued n = 0
flow_weight (flow.Went l) n = n
flow_weight (flow.Back v) n = 0

abbrev pub focus_weight : Focus → List Frame → ℕ
focus_weight (focus.Runs x) fs = statement_weight x.now
focus_weight (focus.Looks l x) fs = statement_weight x.now
focus_weight (focus.Evaluates x) fs = expression_weight x.now
focus_weight (focus.Value v) fs = 0
focus_weight (focus.Puts channel v) fs = 1
focus_weight (focus.Calls n k) fs = 1
focus_weight (focus.Leads f) fs = flow_weight f (frames_answer fs)

abbrev pub weight : List Frame → Focus → ℕ
weight fs f = frames_weight fs + focus_weight f fs

-- the steps that are left at most, beginning with this focus, before there are fewer turns than these: none where there are fewer
unfoldable pub remaining : ℕ → Result Focus Stop → Machine → ℕ
remaining turns (Err x) m = 0
remaining turns (Ok f) m = elim (turns - m.turns) [ zero ↦ suc (weight m.frames f) | suc n ↦ 0 ]

-- what is done outside of the machine: bytes are to be put, or the library is called
abbrev pub IsOutside : Focus → Type 0
IsOutside (focus.Puts channel v) = Unit {0}
IsOutside (focus.Calls n k) = Unit {0}
IsOutside (focus.Runs x) = ⊥
IsOutside (focus.Looks l x) = ⊥
IsOutside (focus.Evaluates x) = ⊥
IsOutside (focus.Value v) = ⊥
IsOutside (focus.Leads f) = ⊥
