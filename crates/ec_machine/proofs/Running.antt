-- What statements do, one form at a time.
use Rattle.std.proofs.Common.{◌≡◌, ◌∙◌, refl, sym, ap, ℕ, List, [], ◌∷◌, map, Option, true, false}
use Rattle.std.specs.Option.{option_map}
use Rattle.std.specs.Borrow.{Bor}
use Rattle.ec_base.specs.declared.line.Line.{Line}
use Rattle.ec_code.specs.declared.expression.Expression.{Expression}
use Rattle.ec_code.specs.declared.program.ObjectSize.{ObjectSize}
use Rattle.ec_code.specs.declared.statement.Loop.{Loop, out-Loop}
use Rattle.ec_code.specs.declared.statement.Statement.{Statement}
use Rattle.ec_code.specs.declared.statement.Statement.TheVariants as statement
use Rattle.ec_code.specs.declared.mark.Mark.{Mark}
use Rattle.ec_code.specs.Marks.{mark_view}
use Rattle.ec_code.specs.Views.{expression_view, expressions_view, size_view, loop_view, statement_view, statements_view}
use Rattle.ec_meaning_defs.specs.evaluation.Evaluate.{Context, World, Step as Knowing, turn_of, eval}
use Rattle.ec_meaning_defs.specs.evaluation.Execute.{run, run_all, look, look_all, tested, declared, initialized, enter, returning}
use Rattle.ec_meaning_defs.specs.evaluation.Results.{Res, value, on, broke, continued, went, back, over, turn, on_done}
use Rattle.ec_meaning_defs.specs.evaluation.State.{State, stuck}
use Rattle.ec_meaning_defs.specs.resolved.Labels.{holds, same}
use Rattle.ec_meaning_defs.specs.resolved.Resolved.{Stm}
use Rattle.ec_meaning_defs.specs.resolved.Resolved as of
use Rattle.ec_machine.specs.declared.frame.Frame.TheVariants as frame
use Rattle.ec_machine.specs.Frames.{Env, here, plug, test_of, behind_of, body_of}
use Rattle.ec_machine.specs.Goes.{Fits}
use Rattle.ec_machine.proofs.Views.{view-Nothing, view-Leave, view-Next, view-OnLine, view-Evaluate, view-Declare, view-Initialize, view-Block, view-Choose, view-loop, view-Loop, view-Return, view-Goto, view-Label, view-Switch, view-Embedded}

choice : (knowing : Knowing) (w : World) (e : Env) (s : State) (line : Line) (y : Expression) (a b : Statement) (a' b' : Bor Statement) → a'.now ≡ a → b'.now ≡ b → run knowing w (here e line) (of.choose (expression_view y) (statement_view a) (statement_view b)) s ≡ plug knowing w e (frame.Choose line a' b') (eval knowing w (here e line) (expression_view y) s)
choice knowing w e s line y a b a' b' j m = λ i. run knowing w (here e line) (of.choose (expression_view y) (statement_view (sym j i)) (statement_view (sym m i))) s

selection : (knowing : Knowing) (w : World) (e : Env) (s : State) (line : Line) (y : Expression) (a : Statement) (a' : Bor Statement) → a'.now ≡ a → run knowing w (here e line) (of.select (expression_view y) (statement_view a)) s ≡ plug knowing w e (frame.Select line a') (eval knowing w (here e line) (expression_view y) s)
selection knowing w e s line y a a' j = λ i. run knowing w (here e line) (of.select (expression_view y) (statement_view (sym j i))) s

-- a loop that is reached
module _ (knowing : Knowing) (w : World) (c : Context) (s : State) (y : Loop) where
  pub loop_tested : (out-Loop y).tested ≡ true → run knowing w c (loop_view y) s ≡ tested knowing w c (test_of y) (behind_of y) (body_of y) s
  loop_tested h = ap (λ z. run knowing w c z s) (view-loop y) ∙ ap (λ z. run knowing w c (of.loop z (test_of y) (behind_of y) (body_of y)) s) h

  pub loop_turned : (out-Loop y).tested ≡ false → run knowing w c (loop_view y) s ≡ w (turn_of c (test_of y) (behind_of y) (body_of y)) s
  loop_turned h = ap (λ z. run knowing w c z s) (view-loop y) ∙ ap (λ z. run knowing w c (of.loop z (test_of y) (behind_of y) (body_of y)) s) h

module _ (knowing : Knowing) (w : World) (e : Env) (s : State) (line : Line) (x : Statement) where
  to : (y : Stm) → statement_view x ≡ y → run knowing w (here e line) (statement_view x) s ≡ run knowing w (here e line) y s
  to y p = ap (λ z. run knowing w (here e line) z s) p

  pub to_OnLine : (l : Line) (y y' : Statement) → x ≡ statement.OnLine l y → y' ≡ y → run knowing w (here e line) (statement_view x) s ≡ run knowing w (here e l) (statement_view y') s
  to_OnLine l y y' p q = to (of.on_line l.0 (statement_view y)) (ap statement_view p ∙ view-OnLine l y) ∙ ap (λ z. run knowing w (here e l) (statement_view z) s) (sym q)

  pub to_Evaluate : (y : Expression) → x ≡ statement.Evaluate y → run knowing w (here e line) (statement_view x) s ≡ plug knowing w e frame.Do (eval knowing w (here e line) (expression_view y) s)
  to_Evaluate y p = to (of.evaluate (expression_view y)) (ap statement_view p ∙ view-Evaluate y)

  pub to_Declare : (i size : ℕ) → x ≡ statement.Declare i size → run knowing w (here e line) (statement_view x) s ≡ declared (here e line) i size s
  to_Declare i size p = to (of.declare i size) (ap statement_view p ∙ view-Declare i size)

  pub to_Initialize : (i size : ℕ) (es es' : List Expression) → x ≡ statement.Initialize i size es → es' ≡ es → run knowing w (here e line) (statement_view x) s ≡ initialized knowing w (here e line) i size (expressions_view es') s
  to_Initialize i size es es' p q = to (of.initialize i size (expressions_view es)) (ap statement_view p ∙ view-Initialize i size es) ∙ ap (λ z. initialized knowing w (here e line) i size (expressions_view z) s) (sym q)

  pub to_Block : (sizes sizes' : List ObjectSize) (b b' : List Statement) → x ≡ statement.Block sizes b → sizes' ≡ sizes → b' ≡ b → run knowing w (here e line) (statement_view x) s ≡ enter w (here e line) (map size_view sizes') (statements_view b') (λ d t. run_all knowing w d (statements_view b') t) s
  to_Block sizes sizes' b b' p q r =
      to (of.block (map size_view sizes) (statements_view b)) (ap statement_view p ∙ view-Block sizes b)
      ∙ (λ i. enter w (here e line) (map size_view (sym q i)) (statements_view (sym r i)) (λ d t. run_all knowing w d (statements_view (sym r i)) t) s)

  pub to_Choose : (y : Expression) (a b : Statement) (a' b' : Bor Statement) → x ≡ statement.Choose y a b → a'.now ≡ a → b'.now ≡ b → run knowing w (here e line) (statement_view x) s ≡ plug knowing w e (frame.Choose line a' b') (eval knowing w (here e line) (expression_view y) s)
  to_Choose y a b a' b' p j m = to (of.choose (expression_view y) (statement_view a) (statement_view b)) (ap statement_view p ∙ view-Choose y a b) ∙ choice knowing w e s line y a b a' b' j m

  pub run_choice : (y : Expression) (a b : Statement) → x ≡ statement.Choose y a b → run knowing w (here e line) (statement_view x) s ≡ run knowing w (here e line) (of.choose (expression_view y) (statement_view a) (statement_view b)) s
  run_choice y a b p = to (of.choose (expression_view y) (statement_view a) (statement_view b)) (ap statement_view p ∙ view-Choose y a b)

  view-of-loop : (y y' : Loop) → x ≡ statement.Loop y → y' ≡ y → statement_view x ≡ of.loop (out-Loop y').tested (test_of y') (behind_of y') (body_of y')
  view-of-loop y y' p q = ap statement_view p ∙ view-Loop y ∙ view-loop y ∙ ap (λ z. of.loop (out-Loop z).tested (test_of z) (behind_of z) (body_of z)) (sym q)

  pub to_Loop : (y y' : Loop) → x ≡ statement.Loop y → y' ≡ y → run knowing w (here e line) (statement_view x) s ≡ run knowing w (here e line) (loop_view y') s
  to_Loop y y' p q = to (loop_view y) (ap statement_view p ∙ view-Loop y) ∙ ap (λ z. run knowing w (here e line) (loop_view z) s) (sym q)

  pub to_Nothing : x ≡ statement.Nothing → run knowing w (here e line) (statement_view x) s ≡ on s
  to_Nothing p = to of.nothing (ap statement_view p ∙ view-Nothing)

  pub to_Leave : x ≡ statement.Leave → run knowing w (here e line) (statement_view x) s ≡ broke s
  to_Leave p = to of.leave (ap statement_view p ∙ view-Leave)

  pub to_Next : x ≡ statement.Next → run knowing w (here e line) (statement_view x) s ≡ continued s
  to_Next p = to of.next (ap statement_view p ∙ view-Next)

  pub to_tested : (y y' : Loop) → x ≡ statement.Loop y → y' ≡ y → (out-Loop y').tested ≡ true → run knowing w (here e line) (statement_view x) s ≡ tested knowing w (here e line) (test_of y') (behind_of y') (body_of y') s
  to_tested y y' p q h =
      to (of.loop (out-Loop y').tested (test_of y') (behind_of y') (body_of y')) (view-of-loop y y' p q)
      ∙ ap (λ z. run knowing w (here e line) (of.loop z (test_of y') (behind_of y') (body_of y')) s) h

  pub to_turned : (y y' : Loop) → x ≡ statement.Loop y → y' ≡ y → (out-Loop y').tested ≡ false → run knowing w (here e line) (statement_view x) s ≡ w (turn_of (here e line) (test_of y') (behind_of y') (body_of y')) s
  to_turned y y' p q h =
      to (of.loop (out-Loop y').tested (test_of y') (behind_of y') (body_of y')) (view-of-loop y y' p q)
      ∙ ap (λ z. run knowing w (here e line) (of.loop z (test_of y') (behind_of y') (body_of y')) s) h

  pub to_Return : (y : Option Expression) → x ≡ statement.Return y → run knowing w (here e line) (statement_view x) s ≡ returning knowing w (here e line) (option_map expression_view y) s
  to_Return y p = to (of.return (option_map expression_view y)) (ap statement_view p ∙ view-Return y)

  pub to_Goto : (l : ℕ) → x ≡ statement.Goto l → run knowing w (here e line) (statement_view x) s ≡ turn s (λ t. went l t)
  to_Goto l p = to (of.goto l) (ap statement_view p ∙ view-Goto l)

  pub to_Label : (l : Mark) (y y' : Statement) → x ≡ statement.Label l y → y' ≡ y → run knowing w (here e line) (statement_view x) s ≡ run knowing w (here e line) (statement_view y') s
  to_Label l y y' p q = to (of.label (mark_view l) (statement_view y)) (ap statement_view p ∙ view-Label l y) ∙ ap (λ z. run knowing w (here e line) (statement_view z) s) (sym q)

  pub to_Switch : (y : Expression) (a : Statement) (a' : Bor Statement) → x ≡ statement.Switch y a → a'.now ≡ a → run knowing w (here e line) (statement_view x) s ≡ plug knowing w e (frame.Select line a') (eval knowing w (here e line) (expression_view y) s)
  to_Switch y a a' p j = to (of.select (expression_view y) (statement_view a)) (ap statement_view p ∙ view-Switch y a) ∙ selection knowing w e s line y a a' j

  pub to_Embedded : (n : ℕ) → Fits knowing → x ≡ statement.Embedded n → run knowing w (here e line) (statement_view x) s ≡ over stuck s
  to_Embedded n fits p = to (of.embedded_statement n) (ap statement_view p ∙ view-Embedded n) ∙ fits.embeds w (here e line) n s

  -- ---- looking for a label or a case

  looks : (l : of.Mark) (y : Stm) → statement_view x ≡ y → look knowing w l (here e line) (statement_view x) s ≡ look knowing w l (here e line) y s
  looks l y p = ap (λ z. look knowing w l (here e line) z s) p

  pub look_OnLine : (l : of.Mark) (n : Line) (y y' : Statement) → x ≡ statement.OnLine n y → y' ≡ y → look knowing w l (here e line) (statement_view x) s ≡ look knowing w l (here e n) (statement_view y') s
  look_OnLine l n y y' p q = looks l (of.on_line n.0 (statement_view y)) (ap statement_view p ∙ view-OnLine n y) ∙ ap (λ z. look knowing w l (here e n) (statement_view z) s) (sym q)

  pub look_Block : (l : of.Mark) (sizes sizes' : List ObjectSize) (b b' : List Statement) → x ≡ statement.Block sizes b → sizes' ≡ sizes → b' ≡ b → look knowing w l (here e line) (statement_view x) s ≡ enter w (here e line) (map size_view sizes') (statements_view b') (λ d t. look_all knowing w l d (statements_view b') t) s
  look_Block l sizes sizes' b b' p q r =
      looks l (of.block (map size_view sizes) (statements_view b)) (ap statement_view p ∙ view-Block sizes b)
      ∙ (λ i. enter w (here e line) (map size_view (sym q i)) (statements_view (sym r i)) (λ d t. look_all knowing w l d (statements_view (sym r i)) t) s)

  pub look_first : (l : of.Mark) (y : Expression) (a a' b : Statement) → x ≡ statement.Choose y a b → a' ≡ a → holds l (statement_view a') ≡ true → look knowing w l (here e line) (statement_view x) s ≡ look knowing w l (here e line) (statement_view a') s
  look_first l y a a' b p q h =
      looks l (of.choose (expression_view y) (statement_view a) (statement_view b)) (ap statement_view p ∙ view-Choose y a b)
      ∙ ap (λ z. look knowing w l (here e line) (of.choose (expression_view y) (statement_view z) (statement_view b)) s) (sym q)
      ∙ ap (λ t. elim t [ true ↦ look knowing w l (here e line) (statement_view a') s | false ↦ look knowing w l (here e line) (statement_view b) s ]) h

  pub look_second : (l : of.Mark) (y : Expression) (a a' b b' : Statement) → x ≡ statement.Choose y a b → a' ≡ a → b' ≡ b → holds l (statement_view a') ≡ false → look knowing w l (here e line) (statement_view x) s ≡ look knowing w l (here e line) (statement_view b') s
  look_second l y a a' b b' p q r h =
      looks l (of.choose (expression_view y) (statement_view a) (statement_view b)) (ap statement_view p ∙ view-Choose y a b)
      ∙ (λ i. look knowing w l (here e line) (of.choose (expression_view y) (statement_view (sym q i)) (statement_view (sym r i))) s)
      ∙ ap (λ t. elim t [ true ↦ look knowing w l (here e line) (statement_view a') s | false ↦ look knowing w l (here e line) (statement_view b') s ]) h

  pub look_Loop : (l : of.Mark) (y : Loop) (y' : Bor Loop) → x ≡ statement.Loop y → y'.now ≡ y → look knowing w l (here e line) (statement_view x) s ≡ plug knowing w e (frame.Body line y') (look knowing w l (here e line) (body_of y'.now) s)
  look_Loop l y y' p q = looks l (of.loop (out-Loop y'.now).tested (test_of y'.now) (behind_of y'.now) (body_of y'.now)) (view-of-loop y y'.now p q)

  pub look_Switch : (l : of.Mark) (y : Expression) (a : Statement) (a' : Statement) → x ≡ statement.Switch y a → a' ≡ a → look knowing w l (here e line) (statement_view x) s ≡ plug knowing w e frame.Switch (look knowing w l (here e line) (statement_view a') s)
  look_Switch l y a a' p q =
      looks l (of.select (expression_view y) (statement_view a)) (ap statement_view p ∙ view-Switch y a)
      ∙ ap (λ z. look knowing w l (here e line) (of.select (expression_view y) (statement_view z)) s) (sym q)

  pub look_there : (l : of.Mark) (m : Mark) (y y' : Statement) → x ≡ statement.Label m y → y' ≡ y → same (mark_view m) l ≡ true → look knowing w l (here e line) (statement_view x) s ≡ run knowing w (here e line) (statement_view y') s
  look_there l m y y' p q h =
      looks l (of.label (mark_view m) (statement_view y)) (ap statement_view p ∙ view-Label m y)
      ∙ ap (λ z. look knowing w l (here e line) (of.label (mark_view m) (statement_view z)) s) (sym q)
      ∙ ap (λ t. elim t [ true ↦ run knowing w (here e line) (statement_view y') s | false ↦ look knowing w l (here e line) (statement_view y') s ]) h

  pub look_further : (l : of.Mark) (m : Mark) (y y' : Statement) → x ≡ statement.Label m y → y' ≡ y → same (mark_view m) l ≡ false → look knowing w l (here e line) (statement_view x) s ≡ look knowing w l (here e line) (statement_view y') s
  look_further l m y y' p q h =
      looks l (of.label (mark_view m) (statement_view y)) (ap statement_view p ∙ view-Label m y)
      ∙ ap (λ z. look knowing w l (here e line) (of.label (mark_view m) (statement_view z)) s) (sym q)
      ∙ ap (λ t. elim t [ true ↦ run knowing w (here e line) (statement_view y') s | false ↦ look knowing w l (here e line) (statement_view y') s ]) h

  pub look_Nothing : (l : of.Mark) → x ≡ statement.Nothing → look knowing w l (here e line) (statement_view x) s ≡ on s
  look_Nothing l p = looks l (of.nothing) (ap statement_view p ∙ view-Nothing)

  pub look_Evaluate : (l : of.Mark) (y : Expression) → x ≡ statement.Evaluate y → look knowing w l (here e line) (statement_view x) s ≡ on s
  look_Evaluate l y p = looks l (of.evaluate (expression_view y)) (ap statement_view p ∙ view-Evaluate y)

  pub look_Declare : (l : of.Mark) (i size : ℕ) → x ≡ statement.Declare i size → look knowing w l (here e line) (statement_view x) s ≡ on s
  look_Declare l i size p = looks l (of.declare i size) (ap statement_view p ∙ view-Declare i size)

  pub look_Initialize : (l : of.Mark) (i size : ℕ) (es : List Expression) → x ≡ statement.Initialize i size es → look knowing w l (here e line) (statement_view x) s ≡ on s
  look_Initialize l i size es p = looks l (of.initialize i size (expressions_view es)) (ap statement_view p ∙ view-Initialize i size es)

  pub look_Leave : (l : of.Mark) → x ≡ statement.Leave → look knowing w l (here e line) (statement_view x) s ≡ on s
  look_Leave l p = looks l (of.leave) (ap statement_view p ∙ view-Leave)

  pub look_Next : (l : of.Mark) → x ≡ statement.Next → look knowing w l (here e line) (statement_view x) s ≡ on s
  look_Next l p = looks l (of.next) (ap statement_view p ∙ view-Next)

  pub look_Return : (l : of.Mark) (y : Option Expression) → x ≡ statement.Return y → look knowing w l (here e line) (statement_view x) s ≡ on s
  look_Return l y p = looks l (of.return (option_map expression_view y)) (ap statement_view p ∙ view-Return y)

  pub look_Goto : (l : of.Mark) (m : ℕ) → x ≡ statement.Goto m → look knowing w l (here e line) (statement_view x) s ≡ on s
  look_Goto l m p = looks l (of.goto m) (ap statement_view p ∙ view-Goto m)

  pub look_Embedded : (l : of.Mark) (n : ℕ) → x ≡ statement.Embedded n → look knowing w l (here e line) (statement_view x) s ≡ on s
  look_Embedded l n p = looks l (of.embedded_statement n) (ap statement_view p ∙ view-Embedded n)

-- ---- the last statement

pub done_on : (r : Res) → on_done r on ≡ r
done_on (value v s) = refl
done_on (on s) = refl
done_on (broke s) = refl
done_on (continued s) = refl
done_on (went l s) = refl
done_on (back v s) = refl
done_on (over e s) = refl

pub only_run : (knowing : Knowing) (w : World) (c : Context) (xs : List Statement) (x : Statement) (s : State) → xs ≡ x ∷ [] → run_all knowing w c (statements_view xs) s ≡ run knowing w c (statement_view x) s
only_run knowing w c xs x s p = ap (λ ys. run_all knowing w c (statements_view ys) s) p ∙ done_on (run knowing w c (statement_view x) s)
