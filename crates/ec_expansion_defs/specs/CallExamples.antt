-- Statements with what is bound for them, and the calls that are written, as examples write them.
use Rattle.std.specs.Prelude.{ℕ, List, [], ◌∷◌, codes, Option, Some, None, Result, Ok, Err, false}
use Prim.Native.String.{String}
use Rattle.ec_base.specs.declared.stop.Stop.{Stop}
use Rattle.ec_ctypes.specs.declared.checked.library.Sym.TheVariants as sym
use Rattle.ec_ctypes.specs.declared.tree.expr.UnOp.TheVariants.{Addr}
use Rattle.ec_ctypes.specs.trees.Checked.{MarkData, PlaceData, BoundData, TypedData}
use Rattle.ec_ctypes.specs.trees.Embedded.{EmbKindData, EmbData, HostData, TextArgData, word_arg}
use Rattle.ec_ctypes.specs.trees.Exprs.{ExprData, string, identifier, unary}
use Rattle.ec_ctypes.specs.trees.Units.{UnitData}
use Rattle.ec_language.specs.Letters.{Text}
use Rattle.ec_language.specs.ReadText.{read_text}
use Rattle.ec_writing_defs.specs.Chunks.{text_of}
use Rattle.ec_writing_defs.specs.Expressions.{expr_chunks}
use Rattle.ec_writing_defs.specs.Programs.{written_text}
use Rattle.ec_expansion_defs.specs.Calls.{call_of, call_expr}
use Rattle.ec_expansion_defs.specs.Declarations.{at_line}
use Rattle.ec_expansion_defs.specs.Programs.{written_program}

-- ---- statements and what is bound

-- on line 3
abbrev pub emb : EmbKindData → EmbData
emb kind = record { line = at_line 3; place = 5; at = None; kind = kind }

abbrev pub bound : String → List ExprData → List PlaceData → List PlaceData → BoundData
bound text texts ins outs = record { text = codes text; texts = texts; ins = ins; outs = outs }

abbrev pub null : ExprData
null = identifier (codes "NULL")

abbrev pub lit : String → ExprData
lit text = string (codes text)

abbrev pub var : String → ExprData
var x = identifier (codes x)

abbrev pub address : String → ExprData
address x = unary Addr (var x)

abbrev pub w : String → TextArgData
w text = word_arg (codes text)

abbrev pub plain : String → HostData
plain x = record { value = var x; indicator = None }

-- an int, alone and with an indicator of type short
abbrev pub int_place : String → PlaceData
int_place x = record { sym = sym.Int; value = address x; size = 0; count = 1; step = 4; ind = None }

abbrev pub told_place : String → String → PlaceData
told_place x i = record {
  sym = sym.Int;
  value = address x;
  size = 0;
  count = 1;
  step = 4;
  ind = Some (sym.Short, address i, 1, 2);
}

-- a constant, and a descriptor in a list
abbrev pub constant_place : String → PlaceData
constant_place text =
    record { sym = sym.Const; value = lit text; size = 0; count = 1; step = 0; ind = None }

abbrev pub area_place : ExprData → PlaceData
area_place name =
    record { sym = sym.Descriptor; value = name; size = 1; count = 1; step = 1; ind = None }

-- ---- what is written

abbrev pub call_text_by : Option ExprData → Option Text
call_text_by None = None
call_text_by (Some e) = Some (text_of (expr_chunks e))

abbrev pub written_call : List EmbData → ℕ → EmbData → BoundData → Option ExprData
written_call es n e b =
    elim (call_of es n e b) [ None ↦ None | Some c ↦ Some (call_expr e.line.0 c) ]

-- the call of a statement alone
abbrev pub call_text : EmbKindData → BoundData → Option Text
call_text kind b = call_text_by (written_call [] 0 (emb kind) b)

-- of a statement behind another
abbrev pub call_behind : EmbKindData → EmbKindData → BoundData → Option Text
call_behind first kind b = call_text_by (written_call (emb first ∷ emb kind ∷ []) 1 (emb kind) b)

abbrev pub writes : String → Option Text
writes text = Some (codes text)

-- ---- programs

abbrev pub typed : UnitData → List EmbData → List MarkData → TypedData
typed u es handlers = record {
  unit = record { tops = u.tops; embs = es; last = u.last };
  structs = [];
  names = [];
  hosts = [];
  handlers = handlers;
  denoted = [];
}

abbrev pub program_by : Result UnitData Stop → List EmbData →
    List MarkData → List BoundData → Result Text Stop
program_by (Err stop) es handlers bounds = Err stop
program_by (Ok u) es handlers bounds =
    Ok (written_text (written_program (typed u es handlers) bounds))

-- what is written of a source with these statements, handlers and bound hosts
abbrev pub program_text : String → List EmbData → List MarkData → List BoundData → Result Text Stop
program_text text es handlers bounds = program_by (read_text false (codes text)) es handlers bounds
