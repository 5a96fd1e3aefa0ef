-- The block that is written in the place of an embedded statement is flat.
use Rattle.std.proofs.Common.{◌≡◌, ℕ, zero, suc, Bool, true, false, List, [], ◌∷◌, ◌++◌, map, Option, Some, None, if◌then◌else◌}
use Rattle.std.specs.Prelude.{codes, option_map}
use Rattle.ec_base.specs.declared.line.Line.{Line}
use Rattle.ec_arguments.specs.Arguments.{Arg, symbol, literal, null, int_constant, long_constant, pointer, stray, TextArg, absent, word, held, Indicator, Member, host, constant, descriptor, Statement, normal, prepared, immediate, opening, ItemMember, Call}
use Rattle.ec_arguments.specs.Writing.{text_argument, indicator_arguments, ten_values, member_arguments, members_arguments, items_arguments, statement_arguments, call_arguments}
use Rattle.ec_ctypes.specs.declared.embedded.emb.Cond.{Cond}
use Rattle.ec_ctypes.specs.declared.embedded.emb.Cond.TheVariants.{NotFound, Warning, Error}
use Rattle.ec_ctypes.specs.declared.embedded.emb.Item.{Item}
use Rattle.ec_ctypes.specs.declared.checked.library.Sym.{Sym}
use Rattle.ec_ctypes.specs.declared.checked.library.Sym.TheVariants as sym
use Rattle.ec_ctypes.specs.trees.Checked.{MarkData, IndicatorData, PlaceData, BoundData}
use Rattle.ec_ctypes.specs.trees.Embedded.{ActionData, continue_action, goto_action, print_action, stop_action, break_action, next_action, call_action, EmbKindData, connect, set_connection, disconnect, autocommit, trans, server_text, declare_cursor, open_cursor, execute_immediate, prepare, execute, deallocate, allocate_area, free_area, get_count, get_items, set_count, set_items, whenever, include_sqlca, EmbData}
use Rattle.ec_ctypes.specs.trees.Exprs.{ExprData, string, identifier}
use Rattle.ec_ctypes.specs.trees.Stmts.{StmtData, StmtKindData, no_stmts}
use Rattle.ec_expansion_defs.specs.Calls.{text_of, indicator_of, host_of, is_const, is_descriptor, member_of, text_at, member_at, items_from, kinds_of, prepared_opened, opens, runs, call_by, call_of, bytes_in, argument_expr, argument_exprs}
use Rattle.ec_expansion_defs.specs.Handlers.{condition, action_statement, test_of, test_for, tests}
use Rattle.ec_expansion_defs.specs.Programs.{block_of, block_for}
use Rattle.ec_expansion_defs.specs.Statements.{before_stmts}
use Rattle.ec_language.specs.Letters.{Text, same_text}
use Rattle.ec_sim_program_laws.specs.types.Flat.{IsFlat, AreFlat, KindIsFlat, StmtsAreFlat}
use Rattle.ec_sound_text_laws.proofs.Bound.{both, are_simple_flat, IndicatorIsFlat, PlaceIsFlat, BoundIsFlat}
use Rattle.ec_typing_defs.specs.statement_parts.Handlers.{action_among}
use Rattle.ec_written_laws.specs.bound.Names.{are_simple, have_plain_members, is_simple_action}
use Rattle.ec_written_laws.proofs.bound_lemmas.Each.{OfList}

pick : {A : Type 0} (P : A → Type 0) (b : Bool) (x y : A) → P x → P y → P (if b then x else y)
pick P true x y p q = p
pick P false x y p q = q

-- ---- arguments

abbrev ArgIsFlat : Arg ExprData → Type 0
ArgIsFlat (pointer e) = IsFlat e
ArgIsFlat _ = Unit {0}

arg_flat : (a : Arg ExprData) → ArgIsFlat a → IsFlat (argument_expr a)
arg_flat (symbol s) h = tt
arg_flat (literal bytes) h = tt
arg_flat null h = tt
arg_flat (int_constant k) h = tt
arg_flat (long_constant k) h = tt
arg_flat (pointer e) h = h
arg_flat stray h = tt

args_flat : (xs : List (Arg ExprData)) → OfList ArgIsFlat xs → AreFlat (argument_exprs xs)
args_flat [] h = tt
args_flat (a ∷ more) h = (arg_flat a h.0, args_flat more h.1)

-- ---- parts of calls

abbrev TextIsFlat : TextArg ExprData → Type 0
TextIsFlat absent = Unit {0}
TextIsFlat (word bytes) = Unit {0}
TextIsFlat (held e) = IsFlat e

text_arg : (t : TextArg ExprData) → TextIsFlat t → ArgIsFlat (text_argument t)
text_arg absent h = tt
text_arg (word bytes) h = tt
text_arg (held e) h = h

abbrev OwnIndicatorIsFlat : Option (Indicator ExprData) → Type 0
OwnIndicatorIsFlat None = Unit {0}
OwnIndicatorIsFlat (Some i) = IsFlat i.value

indicator_args : (i : Option (Indicator ExprData)) (rest : List (Arg ExprData)) → OwnIndicatorIsFlat i → OfList ArgIsFlat rest → OfList ArgIsFlat (indicator_arguments i rest)
indicator_args None rest h k = (tt, (tt, (tt, (tt, (tt, k)))))
indicator_args (Some i) rest h k = (tt, (h, (tt, (tt, (tt, k)))))

abbrev MemberIsFlat : Member ExprData → Type 0
MemberIsFlat (host p) = IsFlat p.value × OwnIndicatorIsFlat p.ind
MemberIsFlat (constant bytes) = Unit {0}
MemberIsFlat (descriptor t) = TextIsFlat t

ten_args : (s : Sym) (v : TextArg ExprData) (size count step : ℕ) (i : Option (Indicator ExprData)) (rest : List (Arg ExprData)) → TextIsFlat v → OwnIndicatorIsFlat i → OfList ArgIsFlat rest → OfList ArgIsFlat (ten_values s v size count step i rest)
ten_args s v size count step i rest h j k = (tt, (text_arg v h, (tt, (tt, (tt, indicator_args i rest j k)))))

member_args : (m : Member ExprData) (rest : List (Arg ExprData)) → MemberIsFlat m → OfList ArgIsFlat rest → OfList ArgIsFlat (member_arguments m rest)
member_args (host p) rest h k = ten_args p.sym (held p.value) p.size p.count p.step p.ind rest h.0 h.1 k
member_args (constant bytes) rest h k = ten_args sym.Const (word bytes) 0 1 0 None rest tt tt k
member_args (descriptor t) rest h k = ten_args sym.Descriptor t 1 1 1 None rest h tt k

members_args : (ms : List (Member ExprData)) (rest : List (Arg ExprData)) → OfList MemberIsFlat ms → OfList ArgIsFlat rest → OfList ArgIsFlat (members_arguments ms rest)
members_args [] rest h k = k
members_args (m ∷ ms) rest h k = member_args m (members_arguments ms rest) h.0 (members_args ms rest h.1 k)

abbrev ItemIsFlat : ItemMember ExprData → Type 0
ItemIsFlat i = MemberIsFlat i.1

items_args : (is : List (ItemMember ExprData)) (rest : List (Arg ExprData)) → OfList ItemIsFlat is → OfList ArgIsFlat rest → OfList ArgIsFlat (items_arguments is rest)
items_args [] rest h k = k
items_args (i ∷ is) rest h k = (tt, member_args i.1 (items_arguments is rest) h.0 (items_args is rest h.1 k))

abbrev RunIsFlat : Statement ExprData → Type 0
RunIsFlat (normal text) = Unit {0}
RunIsFlat (prepared name) = Unit {0}
RunIsFlat (immediate text) = TextIsFlat text
RunIsFlat (opening head name) = Unit {0}

run_args : (s : Statement ExprData) (rest : List (Arg ExprData)) → RunIsFlat s → OfList ArgIsFlat rest → OfList ArgIsFlat (statement_arguments s rest)
run_args (normal text) rest h k = (tt, (tt, k))
run_args (prepared name) rest h k = (tt, (tt, k))
run_args (immediate text) rest h k = (tt, (text_arg text h, k))
run_args (opening head name) rest h k = (tt, (tt, (tt, k)))

-- ---- what is bound

text_is : (e : ExprData) → IsFlat e → TextIsFlat (text_of e)
text_is (string bytes) h = tt
text_is (identifier x) h = pick TextIsFlat (same_text x (codes "NULL")) absent (held (identifier x)) tt tt
text_is _ h = h

indicator_is : (i : Option IndicatorData) → IndicatorIsFlat i → OwnIndicatorIsFlat (option_map indicator_of i)
indicator_is None h = tt
indicator_is (Some i) h = h

member_is : (p : PlaceData) → PlaceIsFlat p → MemberIsFlat (member_of p)
member_is p h =
    pick MemberIsFlat (is_const p.sym) (constant (bytes_in p.value)) (if is_descriptor p.sym then descriptor (text_of p.value) else host_of p) tt
    (pick MemberIsFlat (is_descriptor p.sym) (descriptor (text_of p.value)) (host_of p) (text_is p.value h.value) (h.value, indicator_is p.ind h.indicator))

members_are : (ps : List PlaceData) → OfList PlaceIsFlat ps → OfList MemberIsFlat (map member_of ps)
members_are [] h = tt
members_are (p ∷ ps) h = (member_is p h.0, members_are ps h.1)

text_at_is : (k : ℕ) (es : List ExprData) → OfList IsFlat es → TextIsFlat (text_at k es)
text_at_is k [] h = tt
text_at_is zero (e ∷ es) h = text_is e h.0
text_at_is (suc k) (e ∷ es) h = text_at_is k es h.1

member_at_is : (k : ℕ) (ps : List PlaceData) → OfList PlaceIsFlat ps → MemberIsFlat (member_at k ps)
member_at_is k [] h = tt
member_at_is zero (p ∷ ps) h = member_is p h.0
member_at_is (suc k) (p ∷ ps) h = member_at_is k ps h.1

items_are : (k : ℕ) (is : List Item) (ps : List PlaceData) → OfList PlaceIsFlat ps → OfList ItemIsFlat (items_from k is ps)
items_are k [] ps h = tt
items_are k (i ∷ is) ps h = (member_at_is k ps h, items_are (suc k) is ps h)

-- ---- the call

opens_is : (name : Option Text) (text : Text) → RunIsFlat (opens name text)
opens_is None text = tt
opens_is (Some name) text = tt

abbrev CallIsFlat : Option (Call ExprData) → Type 0
CallIsFlat None = Unit {0}
CallIsFlat (Some c) = OfList ArgIsFlat (call_arguments c)

runs_args : (b : BoundData) (s : Statement ExprData) → BoundIsFlat b → RunIsFlat s → CallIsFlat (Some (runs b s))
runs_args b s h k = (
  text_arg (text_at 0 b.texts) (text_at_is 0 b.texts h.texts),
  run_args s (members_arguments (map member_of b.ins) (symbol sym.EndOfInputs ∷ members_arguments (map member_of b.outs) (symbol sym.EndOfOutputs ∷ []))) k
      (members_args (map member_of b.ins) (symbol sym.EndOfInputs ∷ members_arguments (map member_of b.outs) (symbol sym.EndOfOutputs ∷ [])) (members_are b.ins h.ins)
      (tt, members_args (map member_of b.outs) (symbol sym.EndOfOutputs ∷ []) (members_are b.outs h.outs) (tt, tt))),
)

module _ (b : BoundData) (o : BoundIsFlat b) where
  at : (j : ℕ) → ArgIsFlat (text_argument (text_at j b.texts))
  at j = text_arg (text_at j b.texts) (text_at_is j b.texts o.texts)

  call_args : (name : Option Text) (kind : EmbKindData) → CallIsFlat (call_by name kind b)
  call_args name (connect target c user password) = (at 0, (at 1, (at 2, (at 3, tt))))
  call_args name (set_connection c) = (at 0, tt)
  call_args name (disconnect c) = (at 0, tt)
  call_args name (autocommit on) = (tt, (at 0, tt))
  call_args name (trans text) = (at 0, (tt, tt))
  call_args name (server_text parts outs) = runs_args b (normal b.text) o tt
  call_args name (declare_cursor cursor parts c) = tt
  call_args name (open_cursor cursor ins) = runs_args b (opens name b.text) o (opens_is name b.text)
  call_args name (execute_immediate text) = runs_args b (immediate (text_at 1 b.texts)) o (text_at_is 1 b.texts o.texts)
  call_args name (prepare c text) = (at 0, (tt, (at 1, tt)))
  call_args name (execute c ins outs) = runs_args b (prepared c) o tt
  call_args name (deallocate c) = (at 0, (tt, tt))
  call_args name (allocate_area area) = (at 0, tt)
  call_args name (free_area area) = (at 0, tt)
  call_args name (get_count area target) = (at 0, member_args (member_at 0 b.outs) [] (member_at_is 0 b.outs o.outs) tt)
  call_args name (get_items area index items) =
      (at 0, member_args (member_at 0 b.ins) (items_arguments (items_from 0 (kinds_of items) b.outs) (symbol sym.EndOfItems ∷ [])) (member_at_is 0 b.ins o.ins) (items_args (items_from 0 (kinds_of items) b.outs) (symbol sym.EndOfItems ∷ []) (items_are 0 (kinds_of items) b.outs o.outs) (tt, tt)))
  call_args name (set_count area value) = (at 0, member_args (member_at 0 b.ins) [] (member_at_is 0 b.ins o.ins) tt)
  call_args name (set_items area index items) =
      (at 0, member_args (member_at 0 b.ins) (items_arguments (items_from 1 (kinds_of items) b.ins) (symbol sym.EndOfItems ∷ [])) (member_at_is 0 b.ins o.ins) (items_args (items_from 1 (kinds_of items) b.ins) (symbol sym.EndOfItems ∷ []) (items_are 1 (kinds_of items) b.ins o.ins) (tt, tt)))
  call_args name (whenever c a) = tt
  call_args name include_sqlca = tt

-- ---- actions

condition_is : (c : Cond) → IsFlat (condition c)
condition_is NotFound = (tt, tt)
condition_is Warning = ((tt, tt), tt)
condition_is Error = (tt, tt)

-- what may be written, or nothing
abbrev pub MayBeFlat : Option StmtKindData → Type 0
MayBeFlat None = Unit {0}
MayBeFlat (Some kind) = KindIsFlat kind

-- an action whose arguments are names with their suffixes and constants, or none
abbrev pub IsSimpleOption : Option ActionData → Type 0
IsSimpleOption None = Unit {0}
IsSimpleOption (Some a) = is_simple_action a ≡ true

action_is : (a : ActionData) → is_simple_action a ≡ true → MayBeFlat (action_statement a)
action_is continue_action h = tt
action_is (goto_action l) h = tt
action_is print_action h = tt
action_is stop_action h = (tt, tt)
action_is break_action h = tt
action_is next_action h = tt
action_is (call_action f es) h = are_simple_flat es (both (are_simple es) (have_plain_members es) h).0

module _ (line : Line) where
  test_is : (c : Cond) (s : Option StmtKindData) → MayBeFlat s → StmtsAreFlat (before_stmts (test_of line c s) no_stmts)
  test_is c None h = tt
  test_is c (Some s) h = ((condition_is c, h, tt), tt)

  test_for_is : (c : Cond) (a : Option ActionData) → IsSimpleOption a → StmtsAreFlat (before_stmts (test_for line c a) no_stmts)
  test_for_is c None h = tt
  test_for_is c (Some a) h = test_is c (action_statement a) (action_is a h)

  both_lists : (xs ys : List StmtData) → StmtsAreFlat (before_stmts xs no_stmts) → StmtsAreFlat (before_stmts ys no_stmts) → StmtsAreFlat (before_stmts (xs ++ ys) no_stmts)
  both_lists [] ys h k = k
  both_lists (x ∷ xs) ys h k = (h.0, both_lists xs ys h.1 k)

  tests_are : (action : Cond → Option ActionData) → ((c : Cond) → IsSimpleOption (action c)) → StmtsAreFlat (before_stmts (tests line action) no_stmts)
  tests_are action h =
      both_lists (test_for line NotFound (action NotFound)) (test_for line Warning (action Warning) ++ test_for line Error (action Error)) (test_for_is NotFound (action NotFound) (h NotFound))
      (both_lists (test_for line Warning (action Warning)) (test_for line Error (action Error)) (test_for_is Warning (action Warning) (h Warning)) (test_for_is Error (action Error) (h Error)))

pub block_for_flat : (handlers : List MarkData) (es : List EmbData) (n : ℕ) (e : EmbData) (b : BoundData) → ((c : Cond) → IsSimpleOption (action_among handlers e.place c)) → BoundIsFlat b → MayBeFlat (block_for handlers es n e b)
block_for_flat handlers es n e b simple h = go (call_of es n e b) (call_args b h (prepared_opened es n e) e.kind)
  where
    go : (c : Option (Call ExprData)) → CallIsFlat c → MayBeFlat (option_map (block_of handlers e) c)
    go None x = tt
    go (Some c) x = (args_flat (int_constant e.line.0 ∷ call_arguments c) (tt, x), tests_are e.line (action_among handlers e.place) simple)
