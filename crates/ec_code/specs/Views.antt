-- The trees of code, as those of the definition.
use Rattle.std.specs.Prelude.{ℕ, List, map, option_map}
use Rattle.ec_memory_defs.specs.Kinds.{kind_type}
use Rattle.ec_memory_defs.specs.Memory.{number}
use Rattle.ec_code.specs.declared.step.Binary.TheVariants as binary
use Rattle.ec_code.specs.declared.step.Leaf.TheVariants as leaf
use Rattle.ec_meaning_defs.specs.resolved.Resolved as of
use Rattle.ec_meaning_defs.specs.resolved.Programs as programs
use Rattle.ec_printf.specs.formats.Known.{known_view}
use Rattle.ec_values.specs.Words.{word_view}
use Rattle.ec_code.specs.Marks.{mark_view}
use Rattle.ec_code.specs.Trees.{Step, one, two, leaf_view, walked, exps_of, stms_of}
use Rattle.ec_code.specs.declared.expression.Plain.{Plain, fold-Plain}
use Rattle.ec_code.specs.declared.expression.PlainStep.TheOpen.{Plain-F, PlainStep-F}
use Rattle.ec_code.specs.declared.expression.PlainStep.{PlainStep, fold-PlainStep}
use Rattle.ec_code.specs.declared.expression.Expression.{Expression, fold-Expression}
use Rattle.ec_code.specs.declared.expression.Expression.TheOpen.{Expression-F, Full-F, Head-F, FullStep-F}
use Rattle.ec_code.specs.declared.expression.Full.{Full, fold-Full}
use Rattle.ec_code.specs.declared.expression.FullStep.{FullStep, fold-FullStep}
use Rattle.ec_code.specs.declared.expression.Head.{Head, fold-Head}
use Rattle.ec_code.specs.declared.program.Function.{Function}
use Rattle.ec_code.specs.declared.program.ObjectSize.{ObjectSize}
use Rattle.ec_code.specs.declared.program.Program.{Program}
use Rattle.ec_code.specs.declared.statement.Loop.{Loop, fold-Loop}
use Rattle.ec_code.specs.declared.statement.Statement.{Statement, fold-Statement}
use Rattle.ec_code.specs.declared.statement.Statement.TheOpen.{Statement-F, Loop-F}

abbrev pub plain_step : Plain-F Step of.Exp → of.Exp
plain_step p = walked (leaf_view p.leaf) p.steps

abbrev pub plain_step_step : PlainStep-F Step of.Exp → Step
plain_step_step (PlainStep-F.One u) = one u
plain_step_step (PlainStep-F.Two b p) = two b p
plain_step_step (PlainStep-F.WithNumber op z) = two (binary.Operate op) (of.constant (number z))
plain_step_step (PlainStep-F.WithInt op i) = two (binary.Operate op) (leaf_view (leaf.IntValue i))
plain_step_step (PlainStep-F.WithLong op i) = two (binary.Operate op) (leaf_view (leaf.LongValue i))
plain_step_step (PlainStep-F.ChangeBy u z) = two (binary.Update u) (of.constant (number z))

abbrev pub plain_view : Plain → of.Exp
plain_view = fold-Plain Step of.Exp plain_step_step plain_step

abbrev pub plain_step_view : PlainStep → Step
plain_step_view = fold-PlainStep Step of.Exp plain_step_step plain_step

abbrev pub expression_step : Expression-F of.Exp Step of.Exp of.Exp → of.Exp
expression_step (Expression-F.Plain p) = plain_view p
expression_step (Expression-F.Full f) = f

abbrev pub full_step : Full-F of.Exp Step of.Exp of.Exp → of.Exp
full_step f = walked f.head f.steps

abbrev pub head_step : Head-F of.Exp Step of.Exp of.Exp → of.Exp
head_step (Head-F.Begun p) = plain_view p
head_step (Head-F.Call f used es) = of.call f used (exps_of es)
head_step (Head-F.Known f es) = of.known (known_view f) (exps_of es)
head_step (Head-F.LibraryCall n es) = of.library_call n (exps_of es)
head_step (Head-F.Choice e a b) = of.choice e a b

abbrev pub full_step_step : FullStep-F of.Exp Step of.Exp of.Exp → Step
full_step_step (FullStep-F.One u) = one u
full_step_step (FullStep-F.Two b e) = two b e

abbrev pub expression_view : Expression → of.Exp
expression_view =
    fold-Expression of.Exp Step of.Exp of.Exp expression_step full_step_step head_step full_step

abbrev pub full_view : Full → of.Exp
full_view = fold-Full of.Exp Step of.Exp of.Exp expression_step full_step_step head_step full_step

abbrev pub head_view : Head → of.Exp
head_view = fold-Head of.Exp Step of.Exp of.Exp expression_step full_step_step head_step full_step

abbrev pub full_step_view : FullStep → Step
full_step_view =
    fold-FullStep of.Exp Step of.Exp of.Exp expression_step full_step_step head_step full_step

abbrev pub expressions_view : List Expression → of.Exps
expressions_view es = exps_of (map expression_view es)

abbrev pub size_view : ObjectSize → ℕ
size_view s = s.bytes

abbrev pub statement_step : Statement-F of.Stm of.Stm → of.Stm
statement_step (Statement-F.OnLine line x) = of.on_line line.0 x
statement_step Statement-F.Nothing = of.nothing
statement_step (Statement-F.Evaluate e) = of.evaluate (expression_view e)
statement_step (Statement-F.Declare i size) = of.declare i size
statement_step (Statement-F.Initialize i size es) = of.initialize i size (expressions_view es)
statement_step (Statement-F.Block sizes b) = of.block (map size_view sizes) (stms_of b)
statement_step (Statement-F.Choose e a b) = of.choose (expression_view e) a b
statement_step (Statement-F.Loop x) = x
statement_step Statement-F.Leave = of.leave
statement_step Statement-F.Next = of.next
statement_step (Statement-F.Return e) = of.return (option_map expression_view e)
statement_step (Statement-F.Goto l) = of.goto l
statement_step (Statement-F.Label l x) = of.label (mark_view l) x
statement_step (Statement-F.Switch e x) = of.select (expression_view e) x
statement_step (Statement-F.Embedded n) = of.embedded_statement n

abbrev pub loop_step : Loop-F of.Stm of.Stm → of.Stm
loop_step x =
    of.loop x.tested (option_map expression_view x.test)
    (option_map expression_view x.behind) x.body

abbrev pub statement_view : Statement → of.Stm
statement_view = fold-Statement of.Stm of.Stm statement_step loop_step

abbrev pub loop_view : Loop → of.Stm
loop_view = fold-Loop of.Stm of.Stm statement_step loop_step

abbrev pub statements_view : List Statement → of.Stms
statements_view ss = stms_of (map statement_view ss)

abbrev pub function_view : Function → programs.Function
function_view f =
    record {
      parameters = map kind_type f.parameters;
      objects = map size_view f.objects;
      body = statements_view f.body;
      otherwise = option_map word_view f.otherwise;
    }

abbrev pub program_view : Program → programs.Program
program_view p = record {
  globals = p.globals;
  literals = p.literals;
  functions = map function_view p.functions;
  main = p.main;
}
