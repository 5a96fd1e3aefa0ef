-- The views of statements and expressions, one level at a time.
use Rattle.std.proofs.Common.{◌≡◌, rules, ℕ, List, map, Option, Bool}
use Rattle.std.specs.Option.{option_map}
use Rattle.ec_base.specs.declared.line.Line.{Line}
use Rattle.ec_code.specs.declared.expression.Expression.{Expression, the_lemmas as expression_lemmas}
use Rattle.ec_code.specs.declared.expression.Expression.TheVariants as expression
use Rattle.ec_code.specs.declared.expression.Full.{Full, out-Full, the_lemmas as full_lemmas}
use Rattle.ec_code.specs.declared.expression.FullStep.{the_lemmas as step_lemmas}
use Rattle.ec_code.specs.declared.expression.FullStep.TheVariants as step
use Rattle.ec_code.specs.declared.expression.Head.{the_lemmas as head_lemmas}
use Rattle.ec_code.specs.declared.expression.Head.TheVariants as head
use Rattle.ec_code.specs.declared.expression.Plain.{Plain}
use Rattle.ec_code.specs.declared.program.ObjectSize.{ObjectSize}
use Rattle.ec_code.specs.declared.statement.Loop.{Loop, out-Loop, the_lemmas as loop_lemmas}
use Rattle.ec_code.specs.declared.statement.Statement.{Statement, the_lemmas}
use Rattle.ec_code.specs.declared.statement.Statement.TheVariants as statement
use Rattle.ec_code.specs.declared.step.Binary.{Binary}
use Rattle.ec_code.specs.declared.step.Unary.{Unary}
use Rattle.ec_code.specs.declared.mark.Mark.{Mark}
use Rattle.ec_code.specs.Marks.{mark_view}
use Rattle.ec_code.specs.Trees.{one, two, walked}
use Rattle.ec_code.specs.Views.{expression_view, expressions_view, full_step_view, full_view, head_view, plain_view, size_view, statement_view, statements_view, loop_view}
use Rattle.ec_printf.specs.declared.formats.known.Known.{Known}
use Rattle.ec_printf.specs.formats.Known.{known_view}
use Rattle.ec_meaning_defs.specs.resolved.Resolved as of
use Rattle.ec_machine.specs.Frames.{test_of, behind_of, body_of}

pub view-OnLine : (line : Line) (x : Statement) → statement_view (statement.OnLine line x) ≡ of.on_line line.0 (statement_view x)
view-OnLine line x = search (rules, the_lemmas)

pub view-Nothing : statement_view statement.Nothing ≡ of.nothing
view-Nothing = search (rules, the_lemmas)

pub view-Leave : statement_view statement.Leave ≡ of.leave
view-Leave = search (rules, the_lemmas)

pub view-Next : statement_view statement.Next ≡ of.next
view-Next = search (rules, the_lemmas)

pub view-Evaluate : (e : Expression) → statement_view (statement.Evaluate e) ≡ of.evaluate (expression_view e)
view-Evaluate e = search (rules, the_lemmas)

pub view-Declare : (i size : ℕ) → statement_view (statement.Declare i size) ≡ of.declare i size
view-Declare i size = search (rules, the_lemmas)

pub view-Initialize : (i size : ℕ) (es : List Expression) → statement_view (statement.Initialize i size es) ≡ of.initialize i size (expressions_view es)
view-Initialize i size es = search (rules, the_lemmas)

pub view-Block : (sizes : List ObjectSize) (b : List Statement) → statement_view (statement.Block sizes b) ≡ of.block (map size_view sizes) (statements_view b)
view-Block sizes b = search (rules, the_lemmas)

pub view-Choose : (e : Expression) (a b : Statement) → statement_view (statement.Choose e a b) ≡ of.choose (expression_view e) (statement_view a) (statement_view b)
view-Choose e a b = search (rules, the_lemmas)

pub view-loop : (x : Loop) → loop_view x ≡ of.loop (out-Loop x).tested (test_of x) (behind_of x) (body_of x)
view-loop x = search (rules, loop_lemmas)

pub view-Loop : (x : Loop) → statement_view (statement.Loop x) ≡ loop_view x
view-Loop x = search (rules, the_lemmas)

pub view-Return : (e : Option Expression) → statement_view (statement.Return e) ≡ of.return (option_map expression_view e)
view-Return e = search (rules, the_lemmas)

pub view-Goto : (l : ℕ) → statement_view (statement.Goto l) ≡ of.goto l
view-Goto l = search (rules, the_lemmas)

pub view-Label : (l : Mark) (x : Statement) → statement_view (statement.Label l x) ≡ of.label (mark_view l) (statement_view x)
view-Label l x = search (rules, the_lemmas)

pub view-Switch : (e : Expression) (x : Statement) → statement_view (statement.Switch e x) ≡ of.select (expression_view e) (statement_view x)
view-Switch e x = search (rules, the_lemmas)

pub view-Embedded : (n : ℕ) → statement_view (statement.Embedded n) ≡ of.embedded_statement n
view-Embedded n = search (rules, the_lemmas)

pub view-Plain : (p : Plain) → expression_view (expression.Plain p) ≡ plain_view p
view-Plain p = search (rules, expression_lemmas)

pub view-Full : (p : Full) → expression_view (expression.Full p) ≡ full_view p
view-Full p = search (rules, expression_lemmas)

pub view-full : (x : Full) → full_view x ≡ walked (head_view (out-Full x).head) (map full_step_view (out-Full x).steps)
view-full x = search (rules, full_lemmas)

pub view-Begun : (p : Plain) → head_view (head.Begun p) ≡ plain_view p
view-Begun p = search (rules, head_lemmas)

pub view-Call : (f : ℕ) (used : Bool) (es : List Expression) → head_view (head.Call f used es) ≡ of.call f used (expressions_view es)
view-Call f used es = search (rules, head_lemmas)

pub view-Known : (f : Known) (es : List Expression) → head_view (head.Known f es) ≡ of.known (known_view f) (expressions_view es)
view-Known f es = search (rules, head_lemmas)

pub view-LibraryCall : (n : ℕ) (es : List Expression) → head_view (head.LibraryCall n es) ≡ of.library_call n (expressions_view es)
view-LibraryCall n es = search (rules, head_lemmas)

pub view-Choice : (e a b : Expression) → head_view (head.Choice e a b) ≡ of.choice (expression_view e) (expression_view a) (expression_view b)
view-Choice e a b = search (rules, head_lemmas)

pub view-One : (u : Unary) → full_step_view (step.One u) ≡ one u
view-One u = search (rules, step_lemmas)

pub view-Two : (b : Binary) (e : Expression) → full_step_view (step.Two b e) ≡ two b (expression_view e)
view-Two b e = search (rules, step_lemmas)
