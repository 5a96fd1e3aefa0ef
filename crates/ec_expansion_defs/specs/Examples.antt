-- Sources and what is written of them, as examples write them.
use Rattle.std.specs.Prelude.{ℕ, zero, suc, [], ◌∷◌, codes, Option, Some, None, Result, Ok, Err, Bool, false}
use Prim.Native.String.{String}
use Rattle.ec_base.specs.declared.stop.Stop.{Stop}
use Rattle.ec_ctypes.specs.declared.embedded.emb.Cond.{Cond}
use Rattle.ec_ctypes.specs.declared.embedded.emb.Cond.TheVariants.{NotFound, Warning, Error}
use Rattle.ec_ctypes.specs.trees.Embedded.{ActionData}
use Rattle.ec_ctypes.specs.trees.Exprs.{exprs, no_exprs}
use Rattle.ec_ctypes.specs.trees.Stmts.{stmt, StmtKindData, block_stmt}
use Rattle.ec_ctypes.specs.trees.Units.{UnitData}
use Rattle.ec_language.specs.Letters.{Text}
use Rattle.ec_language.specs.ReadText.{read_text}
use Rattle.ec_writing_defs.specs.Chunks.{text_of}
use Rattle.ec_writing_defs.specs.Programs.{tops_chunks, items_chunks}
use Rattle.ec_writing_defs.specs.Shapes.{are_written_tops}
use Rattle.ec_expansion_defs.specs.Declarations.{at_line}
use Rattle.ec_expansion_defs.specs.Handlers.{called, int_constant, tests}
use Rattle.ec_expansion_defs.specs.Statements.{listed_stmts, written_tops}

-- a block with a call, in the place of each embedded statement; the first one is a directive
abbrev pub example_block : ℕ → Option StmtKindData
example_block zero = None
example_block (suc k) =
    Some (block_stmt
    (listed_stmts (stmt (at_line 9) (called "call" (exprs (int_constant (suc k)) no_exprs)) ∷ [])))

abbrev pub text_behind : Result UnitData Stop → Result Text Stop
text_behind (Err stop) = Err stop
text_behind (Ok u) = Ok (text_of (tops_chunks (written_tops example_block u.tops)))

-- what is written of the source, but for the head of the text
abbrev pub written_of : String → Result Text Stop
written_of text = text_behind (read_text false (codes text))

abbrev pub is : String → Result Text Stop
is text = Ok (codes text)

-- whether what is written of the source can be read back
abbrev pub shape_behind : Result UnitData Stop → Result Bool Stop
shape_behind (Err stop) = Err stop
shape_behind (Ok u) = Ok (are_written_tops (written_tops example_block u.tops))

abbrev pub is_read_back : String → Result Bool Stop
is_read_back text = shape_behind (read_text false (codes text))

-- ---- tests

-- the same action for each condition
abbrev pub always : ActionData → Cond → Option ActionData
always a c = Some a

abbrev pub only : Cond → ActionData → Cond → Option ActionData
only NotFound a NotFound = Some a
only Warning a Warning = Some a
only Error a Error = Some a
only _ a _ = None

-- the tests of a statement on line 5
abbrev pub tests_text : (Cond → Option ActionData) → Text
tests_text action = text_of (items_chunks (listed_stmts (tests (at_line 5) action)))
