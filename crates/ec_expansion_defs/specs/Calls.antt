-- The call of the library that is written for a statement (PostgreSQL manual, 36.17), by its connection, its hosts and its text as they are bound.
use Rattle.std.specs.Prelude.{ℕ, zero, suc, List, [], ◌∷◌, map, Option, Some, None, option_map, option_and_then, drop, codes, if◌then◌else◌, Bool, true, false, slice_get}
use Rattle.ec_ctypes.specs.declared.types.arith.Arith.TheVariants.{Int, Long}
use Rattle.ec_ctypes.specs.declared.embedded.emb.Item.{Item}
use Rattle.ec_ctypes.specs.declared.checked.library.Sym.{Sym}
use Rattle.ec_ctypes.specs.declared.checked.library.Sym.TheVariants.{Const, Descriptor}
use Rattle.ec_ctypes.specs.Texts.{symbol_text, library_text}
use Rattle.ec_ctypes.specs.trees.Types.{arithmetic}
use Rattle.ec_ctypes.specs.trees.Exprs.{ExprData, integer, string, identifier, call, ExprList, no_exprs, exprs}
use Rattle.ec_ctypes.specs.trees.Checked.{IndicatorData, PlaceData, BoundData}
use Rattle.ec_ctypes.specs.trees.Embedded.{connect, set_connection, disconnect, autocommit, trans, server_text, declare_cursor, open_cursor, execute_immediate, prepare, execute, deallocate, allocate_area, free_area, get_count, get_items, set_count, set_items, whenever, include_sqlca, EmbData, EmbKindData}
use Rattle.ec_language.specs.Letters.{Text, same_text}
use Rattle.ec_arguments.specs.Arguments as library
use Rattle.ec_arguments.specs.Arguments.{Arg, symbol, literal, null, int_constant, long_constant, pointer, stray, TextArg, absent, word, held, Indicator, Place, Member, host, constant, descriptor, Statement, normal, prepared, immediate, opening, ItemMember, Call, run, Cut, name_of}
use Rattle.ec_arguments.specs.Writing.{arguments}
use Rattle.ec_typing_defs.specs.statement_parts.Cursors.{declare_opened}

-- ---- what is bound, as the parts of a call

-- the bytes of a literal
abbrev pub bytes_in : ExprData → Text
bytes_in (string bytes) = bytes
bytes_in _ = []

-- a text: a literal, NULL for none, or a pointer
abbrev pub text_of : ExprData → TextArg ExprData
text_of (string bytes) = word bytes
text_of (identifier x) = if same_text x (codes "NULL") then absent else held (identifier x)
text_of e = held e

abbrev pub indicator_of : IndicatorData → Indicator ExprData
indicator_of i = record { sym = i.0; value = i.1; count = i.2; step = i.3 }

abbrev pub host_of : PlaceData → Member ExprData
host_of p =
    host (record {
      sym = p.sym;
      value = p.value;
      size = p.size;
      count = p.count;
      step = p.step;
      ind = option_map indicator_of p.ind;
    })

abbrev pub is_const : Sym → Bool
is_const Const = true
is_const _ = false

abbrev pub is_descriptor : Sym → Bool
is_descriptor Descriptor = true
is_descriptor _ = false

-- a constant, a descriptor or a host, by its symbol
abbrev pub member_of : PlaceData → Member ExprData
member_of p = if is_const p.sym then constant (bytes_in p.value)
    else (if is_descriptor p.sym then descriptor (text_of p.value) else host_of p)

-- the text of this number among those of the call
abbrev pub text_at : ℕ → List ExprData → TextArg ExprData
text_at n es = elim (slice_get es n) [ None ↦ absent | Some e ↦ text_of e ]

-- the member of this number
abbrev pub member_at : ℕ → List PlaceData → Member ExprData
member_at n ps = elim (slice_get ps n) [ None ↦ constant [] | Some p ↦ member_of p ]

-- items with what they are stored into or set from, which are the members from this number on
abbrev pub items_from : ℕ → List Item → List PlaceData → List (ItemMember ExprData)
items_from n [] ps = []
items_from n (i ∷ is) ps = (i, member_at n ps) ∷ items_from (suc n) is ps

abbrev pub kinds_of : {V : Type 0} → List (Item × V) → List Item
kinds_of items = map (λ i. i.0) items

-- ---- the call

-- the prepared name for which a cursor is declared
abbrev pub prepared_in : EmbData → Option Text
prepared_in e = elim e.kind [ declare_cursor cursor parts name ↦ name | _ ↦ None ]

-- the prepared name of the cursor that the statement of this number opens
abbrev pub prepared_opened : List EmbData → ℕ → EmbData → Option Text
prepared_opened es n e = option_and_then prepared_in (declare_opened es n e)

-- OPEN sends the text of its cursor; one for a prepared statement has the head of a text, and the name
abbrev pub opens : Option Text → Text → Statement ExprData
opens None text = normal text
opens (Some name) head = opening head name

abbrev pub runs : BoundData → Statement ExprData → Call ExprData
runs b statement = run (text_at 0 b.texts) statement (map member_of b.ins) (map member_of b.outs)

-- the call of a statement, with the prepared name of the cursor that it opens; a directive has none
abbrev pub call_by : Option Text → EmbKindData → BoundData → Option (Call ExprData)
call_by prepared_name kind b = elim kind [
  | connect target name user password ↦ Some (library.connect (text_at 0 b.texts)
      (text_at 1 b.texts) (text_at 2 b.texts) (text_at 3 b.texts))
  | set_connection name ↦ Some (library.set_connection (text_at 0 b.texts))
  | disconnect name ↦ Some (library.disconnect (text_at 0 b.texts))
  | autocommit on ↦ Some (library.set_autocommit on (text_at 0 b.texts))
  | trans text ↦ Some (library.control (text_at 0 b.texts) text)
  | server_text parts outs ↦ Some (runs b (normal b.text))
  | declare_cursor cursor parts name ↦ None
  | open_cursor cursor ins ↦ Some (runs b (opens prepared_name b.text))
  | execute_immediate text ↦ Some (runs b (immediate (text_at 1 b.texts)))
  | prepare name text ↦ Some (library.prepare (text_at 0 b.texts) name (text_at 1 b.texts))
  | execute name ins outs ↦ Some (runs b (prepared name))
  | deallocate name ↦ Some (library.deallocate (text_at 0 b.texts) name)
  | allocate_area area ↦ Some (library.allocate_descriptor (text_at 0 b.texts))
  | free_area area ↦ Some (library.deallocate_descriptor (text_at 0 b.texts))
  | get_count area target ↦ Some (library.get_count (text_at 0 b.texts) (member_at 0 b.outs))
  | get_items area index items ↦ Some (library.get_items (text_at 0 b.texts)
      (member_at 0 b.ins) (items_from 0 (kinds_of items) b.outs))
  | set_count area value ↦ Some (library.set_count (text_at 0 b.texts) (member_at 0 b.ins))
  | set_items area index items ↦ Some (library.set_items (text_at 0 b.texts)
      (member_at 0 b.ins) (items_from 1 (kinds_of items) b.ins))
  | whenever condition action ↦ None
  | include_sqlca ↦ None
]

-- the call of the statement of this number
abbrev pub call_of : List EmbData → ℕ → EmbData → BoundData → Option (Call ExprData)
call_of es n e b = call_by (prepared_opened es n e) e.kind b

-- ---- the call as an expression

abbrev pub argument_expr : Arg ExprData → ExprData
argument_expr (symbol s) = identifier (symbol_text s)
argument_expr (literal bytes) = string bytes
argument_expr null = identifier (codes "NULL")
argument_expr (int_constant n) = integer n (arithmetic Int)
argument_expr (long_constant n) = integer n (arithmetic Long)
argument_expr (pointer e) = e
-- no call has one
argument_expr stray = string []

abbrev pub argument_exprs : List (Arg ExprData) → ExprList
argument_exprs [] = no_exprs
argument_exprs (a ∷ more) = exprs (argument_expr a) (argument_exprs more)

abbrev pub call_expr : ℕ → Call ExprData → ExprData
call_expr line c =
    call (library_text (name_of c)) (argument_exprs (arguments (record { line = line; call = c })))
