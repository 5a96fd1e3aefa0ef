-- What is written in the place of an embedded statement has the written shape.
use Rattle.std.proofs.Common.{◌≡◌, ℕ, zero, suc, Bool, true, false, ◌&&◌, List, [], ◌∷◌, ◌++◌, map, refl, Option, Some, None, slice_get, option_map, arith}
use Rattle.std.specs.Prelude.{codes, nat_lt, pos, int_le, option_and_then, if◌then◌else◌}
use Rattle.std.proofs.lemmas.Bool.Decides.{nat_tests}
use Rattle.ec_base.specs.declared.line.Line.{Line}
use Rattle.ec_ctypes.specs.declared.types.arith.Arith.TheVariants.{Int}
use Rattle.ec_ctypes.specs.declared.embedded.emb.Cond.{Cond}
use Rattle.ec_ctypes.specs.declared.embedded.emb.Cond.TheVariants.{NotFound, Warning, Error}
use Rattle.ec_ctypes.specs.declared.embedded.emb.Item.{Item}
use Rattle.ec_ctypes.specs.declared.checked.library.Sym.{Sym}
use Rattle.ec_ctypes.specs.declared.checked.library.Sym.TheVariants as sym
use Rattle.ec_ctypes.specs.declared.checked.library.LibName.{LibName}
use Rattle.ec_ctypes.specs.declared.checked.library.LibName.TheVariants as library
use Rattle.ec_ctypes.specs.Texts.{symbol_text, library_text}
use Rattle.ec_ctypes.specs.trees.Checked.{MarkData, IndicatorData, PlaceData, BoundData}
use Rattle.ec_ctypes.specs.trees.Embedded.{ActionData, continue_action, goto_action, print_action, stop_action, break_action, next_action, call_action, EmbKindData, connect, set_connection, disconnect, autocommit, trans, server_text, declare_cursor, open_cursor, execute_immediate, prepare, execute, deallocate, allocate_area, free_area, get_count, get_items, set_count, set_items, whenever, include_sqlca, EmbData}
use Rattle.ec_ctypes.specs.trees.Exprs.{ExprData, string, identifier}
use Rattle.ec_ctypes.specs.trees.Stmts.{StmtData, StmtKindData, no_stmts}
use Rattle.ec_ctypes.specs.trees.Types.{arithmetic}
use Rattle.ec_language.specs.Letters.{Text, each, same_text}
use Rattle.ec_language.proofs.Ends.{both}
use Rattle.ec_arguments.specs.Arguments.{Arg, symbol, literal, null, int_constant, long_constant, pointer, stray, TextArg, absent, word, held, Indicator, Member, host, constant, descriptor, Statement, normal, prepared, immediate, opening, ItemMember, Call, name_of}
use Rattle.ec_arguments.specs.Writing.{switch_word, text_argument, indicator_arguments, ten_values, member_arguments, members_arguments, items_arguments, statement_arguments, call_arguments}
use Rattle.ec_typing_defs.specs.statement_parts.Handlers.{action_among}
use Rattle.ec_typing_defs.specs.statement_parts.Cursors.{declared_above, opened_cursor}
use Rattle.ec_writing_defs.specs.Shapes.{is_free_name, fits_type, is_byte, is_line, is_written_expr, are_written_exprs, is_written_kind, are_written_items, is_written_item}
use Rattle.ec_expansion_defs.specs.Calls.{bytes_in, text_of, indicator_of, host_of, is_const, is_descriptor, member_of, text_at, member_at, items_from, kinds_of, prepared_in, prepared_opened, opens, runs, call_by, call_of, argument_expr, argument_exprs}
use Rattle.ec_expansion_defs.specs.Handlers.{condition, action_statement, test_of, test_for, tests}
use Rattle.ec_expansion_defs.specs.Programs.{block_of, block_for}
use Rattle.ec_expansion_defs.specs.Statements.{before_stmts}
use Rattle.ec_written_laws.specs.written.Blocks.{IsBlock, IsBlockOption}
use Rattle.ec_written_laws.specs.written.Bounds.{is_written_action, is_written_action_option, are_written_actions, is_written_name_option, is_written_statement, are_written_statements, is_long, is_written_indicator, is_written_place, are_written_places, are_written_texts, is_written_bound}
use Rattle.ec_written_laws.proofs.written_lemmas.WrittenParts.{join}

-- ---- names of the library

symbol_is : (s : Sym) → is_free_name (symbol_text s) ≡ true
symbol_is sym.Char = refl
symbol_is _ = refl

library_is : (l : LibName) → is_free_name (library_text l) ≡ true
library_is library.Do = refl
library_is _ = refl

pick : {A : Type 0} (P : A → Type 0) (b : Bool) (x y : A) → P x → P y → P (if b then x else y)
pick P true x y p q = p
pick P false x y p q = q

-- what is bound for a statement on this line, part by part
record OfBound (n : ℕ) (b : BoundData) : Type 0 where
  text : each is_byte b.text ≡ true
  texts : are_written_texts n b.texts ≡ true
  ins : are_written_places n b.ins ≡ true
  outs : are_written_places n b.outs ≡ true

module _ (n : ℕ) where
  -- ---- arguments

  abbrev is_arg : Arg ExprData → Bool
  is_arg (symbol s) = true
  is_arg (literal bytes) = each is_byte bytes
  is_arg null = true
  is_arg (int_constant k) = fits_type k (arithmetic Int)
  is_arg (long_constant k) = is_long k
  is_arg (pointer e) = is_written_expr n e
  is_arg stray = true

  abbrev are_args : List (Arg ExprData) → Bool
  are_args [] = true
  are_args (a ∷ as') = is_arg a && are_args as'

  arg_is : (a : Arg ExprData) → is_arg a ≡ true → is_written_expr n (argument_expr a) ≡ true
  arg_is (symbol s) h = symbol_is s
  arg_is (literal bytes) h = h
  arg_is null h = refl
  arg_is (int_constant k) h = h
  arg_is (long_constant k) h = h
  arg_is (pointer e) h = h
  arg_is stray h = refl

  args_are : (as' : List (Arg ExprData)) → are_args as' ≡ true → are_written_exprs n (argument_exprs as') ≡ true
  args_are [] h = refl
  args_are (a ∷ more) h = let p = both (is_arg a) (are_args more) h in join (arg_is a p.0) (args_are more p.1)

  -- ---- parts of calls

  abbrev is_text : TextArg ExprData → Bool
  is_text absent = true
  is_text (word bytes) = each is_byte bytes
  is_text (held e) = is_written_expr n e

  text_arg : (t : TextArg ExprData) → is_text t ≡ true → is_arg (text_argument t) ≡ true
  text_arg absent h = refl
  text_arg (word bytes) h = h
  text_arg (held e) h = h

  abbrev is_indicator : Option (Indicator ExprData) → Bool
  is_indicator None = true
  is_indicator (Some i) = is_written_expr n i.value && (is_long i.count && is_long i.step)

  indicator_args : (i : Option (Indicator ExprData)) (rest : List (Arg ExprData)) → is_indicator i ≡ true → are_args rest ≡ true → are_args (indicator_arguments i rest) ≡ true
  indicator_args None rest h k = join refl (join refl (join refl (join refl (join refl k))))
  indicator_args (Some i) rest h k =
      let p = both (is_written_expr n i.value) (is_long i.count && is_long i.step) h in
      let q = both (is_long i.count) (is_long i.step) p.1 in
      join refl (join p.0 (join refl (join q.0 (join q.1 k))))

  abbrev is_member : Member ExprData → Bool
  is_member (host p) = is_written_expr n p.value && ((is_long p.size && (is_long p.count && is_long p.step)) && is_indicator p.ind)
  is_member (constant bytes) = each is_byte bytes
  is_member (descriptor t) = is_text t

  ten_args : (s : Sym) (v : TextArg ExprData) (size count step : ℕ) (i : Option (Indicator ExprData)) (rest : List (Arg ExprData)) → is_text v ≡ true → is_long size ≡ true → is_long count ≡ true → is_long step ≡ true → is_indicator i ≡ true → are_args rest ≡ true
      → are_args (ten_values s v size count step i rest) ≡ true
  ten_args s v size count step i rest h a b c j k = join refl (join (text_arg v h) (join a (join b (join c (indicator_args i rest j k)))))

  member_args : (m : Member ExprData) (rest : List (Arg ExprData)) → is_member m ≡ true → are_args rest ≡ true → are_args (member_arguments m rest) ≡ true
  member_args (host p) rest h k =
      let a = both (is_written_expr n p.value) ((is_long p.size && (is_long p.count && is_long p.step)) && is_indicator p.ind) h in
      let b = both (is_long p.size && (is_long p.count && is_long p.step)) (is_indicator p.ind) a.1 in
      let c = both (is_long p.size) (is_long p.count && is_long p.step) b.0 in
      let d = both (is_long p.count) (is_long p.step) c.1 in
      ten_args p.sym (held p.value) p.size p.count p.step p.ind rest a.0 c.0 d.0 d.1 b.1 k
  member_args (constant bytes) rest h k = ten_args sym.Const (word bytes) 0 1 0 None rest h refl refl refl refl k
  member_args (descriptor t) rest h k = ten_args sym.Descriptor t 1 1 1 None rest h refl refl refl refl k

  abbrev are_members : List (Member ExprData) → Bool
  are_members [] = true
  are_members (m ∷ ms) = is_member m && are_members ms

  members_args : (ms : List (Member ExprData)) (rest : List (Arg ExprData)) → are_members ms ≡ true → are_args rest ≡ true → are_args (members_arguments ms rest) ≡ true
  members_args [] rest h k = k
  members_args (m ∷ ms) rest h k = let p = both (is_member m) (are_members ms) h in member_args m (members_arguments ms rest) p.0 (members_args ms rest p.1 k)

  abbrev are_items : List (ItemMember ExprData) → Bool
  are_items [] = true
  are_items (i ∷ is) = is_member i.1 && are_items is

  items_args : (is : List (ItemMember ExprData)) (rest : List (Arg ExprData)) → are_items is ≡ true → are_args rest ≡ true → are_args (items_arguments is rest) ≡ true
  items_args [] rest h k = k
  items_args (i ∷ is) rest h k = let p = both (is_member i.1) (are_items is) h in join refl (member_args i.1 (items_arguments is rest) p.0 (items_args is rest p.1 k))

  abbrev is_run : Statement ExprData → Bool
  is_run (normal text) = each is_byte text
  is_run (prepared name) = each is_byte name
  is_run (immediate text) = is_text text
  is_run (opening head name) = each is_byte head && each is_byte name

  run_args : (s : Statement ExprData) (rest : List (Arg ExprData)) → is_run s ≡ true → are_args rest ≡ true → are_args (statement_arguments s rest) ≡ true
  run_args (normal text) rest h k = join refl (join h k)
  run_args (prepared name) rest h k = join refl (join h k)
  run_args (immediate text) rest h k = join refl (join (text_arg text h) k)
  run_args (opening head name) rest h k = let p = both (each is_byte head) (each is_byte name) h in join refl (join p.0 (join p.1 k))

  -- ---- what is bound

  text_is : (e : ExprData) → is_written_expr n e ≡ true → is_text (text_of e) ≡ true
  text_is (string bytes) h = h
  text_is (identifier x) h = pick (λ t. is_text t ≡ true) (same_text x (codes "NULL")) absent (held (identifier x)) refl h
  text_is _ h = h

  bytes_are : (e : ExprData) → is_written_expr n e ≡ true → each is_byte (bytes_in e) ≡ true
  bytes_are (string bytes) h = h
  bytes_are _ h = refl

  indicator_is : (i : Option IndicatorData) → is_written_indicator n i ≡ true → is_indicator (option_map indicator_of i) ≡ true
  indicator_is None h = refl
  indicator_is (Some i) h = h

  host_is : (p : PlaceData) → is_written_place n p ≡ true → is_member (host_of p) ≡ true
  host_is p h =
      let a = both (is_written_expr n p.value) ((is_long p.size && (is_long p.count && is_long p.step)) && is_written_indicator n p.ind) h in
      let b = both (is_long p.size && (is_long p.count && is_long p.step)) (is_written_indicator n p.ind) a.1 in
      join a.0 (join b.0 (indicator_is p.ind b.1))

  member_is : (p : PlaceData) → is_written_place n p ≡ true → is_member (member_of p) ≡ true
  member_is p h =
      let v = (both (is_written_expr n p.value) ((is_long p.size && (is_long p.count && is_long p.step)) && is_written_indicator n p.ind) h).0 in
      pick (λ m. is_member m ≡ true) (is_const p.sym) (constant (bytes_in p.value)) (if is_descriptor p.sym then descriptor (text_of p.value) else host_of p) (bytes_are p.value v)
      (pick (λ m. is_member m ≡ true) (is_descriptor p.sym) (descriptor (text_of p.value)) (host_of p) (text_is p.value v) (host_is p h))

  members_are : (ps : List PlaceData) → are_written_places n ps ≡ true → are_members (map member_of ps) ≡ true
  members_are [] h = refl
  members_are (p ∷ ps) h = let q = both (is_written_place n p) (are_written_places n ps) h in join (member_is p q.0) (members_are ps q.1)

  text_at_is : (k : ℕ) (es : List ExprData) → are_written_texts n es ≡ true → is_text (text_at k es) ≡ true
  text_at_is k [] h = refl
  text_at_is zero (e ∷ es) h = text_is e (both (is_written_expr n e) (are_written_texts n es) h).0
  text_at_is (suc k) (e ∷ es) h = text_at_is k es (both (is_written_expr n e) (are_written_texts n es) h).1

  member_at_is : (k : ℕ) (ps : List PlaceData) → are_written_places n ps ≡ true → is_member (member_at k ps) ≡ true
  member_at_is k [] h = refl
  member_at_is zero (p ∷ ps) h = member_is p (both (is_written_place n p) (are_written_places n ps) h).0
  member_at_is (suc k) (p ∷ ps) h = member_at_is k ps (both (is_written_place n p) (are_written_places n ps) h).1

  items_are : (k : ℕ) (is : List Item) (ps : List PlaceData) → are_written_places n ps ≡ true → are_items (items_from k is ps) ≡ true
  items_are k [] ps h = refl
  items_are k (i ∷ is) ps h = join (member_at_is k ps h) (items_are (suc k) is ps h)

  -- ---- the call

  opens_is : (name : Option Text) (text : Text) → is_written_name_option name ≡ true → each is_byte text ≡ true → is_run (opens name text) ≡ true
  opens_is None text h k = k
  opens_is (Some name) text h k = join k h

  abbrev AreCallArgs : Option (Call ExprData) → Type 0
  AreCallArgs None = Unit {0}
  AreCallArgs (Some c) = are_args (call_arguments c) ≡ true

  of_bound : (b : BoundData) → is_written_bound n b ≡ true → OfBound n b
  of_bound b h =
      let p = both (each is_byte b.text) (are_written_texts n b.texts && (are_written_places n b.ins && are_written_places n b.outs)) h in
      let q = both (are_written_texts n b.texts) (are_written_places n b.ins && are_written_places n b.outs) p.1 in
      let r = both (are_written_places n b.ins) (are_written_places n b.outs) q.1 in
      record { text = p.0; texts = q.0; ins = r.0; outs = r.1 }

  runs_args : (b : BoundData) (s : Statement ExprData) → OfBound n b → is_run s ≡ true → AreCallArgs (Some (runs b s))
  runs_args b s h k =
      join (text_arg (text_at 0 b.texts) (text_at_is 0 b.texts h.texts))
      (run_args s (members_arguments (map member_of b.ins) (symbol sym.EndOfInputs ∷ members_arguments (map member_of b.outs) (symbol sym.EndOfOutputs ∷ []))) k
      (members_args (map member_of b.ins) (symbol sym.EndOfInputs ∷ members_arguments (map member_of b.outs) (symbol sym.EndOfOutputs ∷ [])) (members_are b.ins h.ins)
      (join refl (members_args (map member_of b.outs) (symbol sym.EndOfOutputs ∷ []) (members_are b.outs h.outs) (join refl refl)))))

  switch_is : (on : Bool) → each is_byte (switch_word on) ≡ true
  switch_is true = refl
  switch_is false = refl

  call_args : (name : Option Text) (kind : EmbKindData) (b : BoundData) → is_written_name_option name ≡ true → is_written_statement kind ≡ true → OfBound n b → AreCallArgs (call_by name kind b)
  call_args name (connect target c user password) b h k o = join (at 0) (join (at 1) (join (at 2) (join (at 3) refl)))
    where
      at : (j : ℕ) → is_arg (text_argument (text_at j b.texts)) ≡ true
      at j = text_arg (text_at j b.texts) (text_at_is j b.texts o.texts)
  call_args name (set_connection c) b h k o = join (text_arg (text_at 0 b.texts) (text_at_is 0 b.texts o.texts)) refl
  call_args name (disconnect c) b h k o = join (text_arg (text_at 0 b.texts) (text_at_is 0 b.texts o.texts)) refl
  call_args name (autocommit on) b h k o = join (switch_is on) (join (text_arg (text_at 0 b.texts) (text_at_is 0 b.texts o.texts)) refl)
  call_args name (trans text) b h k o = join (text_arg (text_at 0 b.texts) (text_at_is 0 b.texts o.texts)) (join k refl)
  call_args name (server_text parts outs) b h k o = runs_args b (normal b.text) o o.text
  call_args name (declare_cursor cursor parts c) b h k o = tt
  call_args name (open_cursor cursor ins) b h k o = runs_args b (opens name b.text) o (opens_is name b.text h o.text)
  call_args name (execute_immediate text) b h k o = runs_args b (immediate (text_at 1 b.texts)) o (text_at_is 1 b.texts o.texts)
  call_args name (prepare c text) b h k o = join (text_arg (text_at 0 b.texts) (text_at_is 0 b.texts o.texts)) (join k (join (text_arg (text_at 1 b.texts) (text_at_is 1 b.texts o.texts)) refl))
  call_args name (execute c ins outs) b h k o = runs_args b (prepared c) o k
  call_args name (deallocate c) b h k o = join (text_arg (text_at 0 b.texts) (text_at_is 0 b.texts o.texts)) (join k refl)
  call_args name (allocate_area area) b h k o = join (text_arg (text_at 0 b.texts) (text_at_is 0 b.texts o.texts)) refl
  call_args name (free_area area) b h k o = join (text_arg (text_at 0 b.texts) (text_at_is 0 b.texts o.texts)) refl
  call_args name (get_count area target) b h k o = join (text_arg (text_at 0 b.texts) (text_at_is 0 b.texts o.texts)) (member_args (member_at 0 b.outs) [] (member_at_is 0 b.outs o.outs) refl)
  call_args name (get_items area index items) b h k o =
      join (text_arg (text_at 0 b.texts) (text_at_is 0 b.texts o.texts)) (member_args (member_at 0 b.ins) (items_arguments (items_from 0 (kinds_of items) b.outs) (symbol sym.EndOfItems ∷ [])) (member_at_is 0 b.ins o.ins) (items_args (items_from 0 (kinds_of items) b.outs) (symbol sym.EndOfItems ∷ []) (items_are 0 (kinds_of items) b.outs o.outs) (join refl refl)))
  call_args name (set_count area value) b h k o = join (text_arg (text_at 0 b.texts) (text_at_is 0 b.texts o.texts)) (member_args (member_at 0 b.ins) [] (member_at_is 0 b.ins o.ins) refl)
  call_args name (set_items area index items) b h k o =
      join (text_arg (text_at 0 b.texts) (text_at_is 0 b.texts o.texts)) (member_args (member_at 0 b.ins) (items_arguments (items_from 1 (kinds_of items) b.ins) (symbol sym.EndOfItems ∷ [])) (member_at_is 0 b.ins o.ins) (items_args (items_from 1 (kinds_of items) b.ins) (symbol sym.EndOfItems ∷ []) (items_are 1 (kinds_of items) b.ins o.ins) (join refl refl)))
  call_args name (whenever c a) b h k o = tt
  call_args name include_sqlca b h k o = tt

-- ---- actions

condition_is : (n : ℕ) (c : Cond) → is_written_expr n (condition c) ≡ true
condition_is n NotFound = refl
condition_is n Warning = refl
condition_is n Error = refl

-- the statement that an action is
abbrev IsKind : ℕ → Option StmtKindData → Type 0
IsKind n None = Unit {0}
IsKind n (Some kind) = is_written_kind n kind ≡ true

kind_is : (n : ℕ) (a : ActionData) → is_written_action n a ≡ true → IsKind n (action_statement a)
kind_is n continue_action h = tt
kind_is n (goto_action l) h = h
kind_is n print_action h = refl
kind_is n stop_action h = refl
kind_is n break_action h = refl
kind_is n next_action h = refl
kind_is n (call_action f es) h = h

module _ (line : Line) (l : is_line line.0 ≡ true) where
  test_is : (c : Cond) (s : Option StmtKindData) → IsKind line.0 s → are_written_items (before_stmts (test_of line c s) no_stmts) ≡ true
  test_is c None h = refl
  test_is c (Some s) h = join (join l (join (condition_is line.0 c) (join (join l h) refl))) refl

  test_for_is : (c : Cond) (a : Option ActionData) → is_written_action_option line.0 a ≡ true → are_written_items (before_stmts (test_for line c a) no_stmts) ≡ true
  test_for_is c None h = refl
  test_for_is c (Some a) h = test_is c (action_statement a) (kind_is line.0 a h)

  both_lists : (xs ys : List StmtData) → are_written_items (before_stmts xs no_stmts) ≡ true → are_written_items (before_stmts ys no_stmts) ≡ true → are_written_items (before_stmts (xs ++ ys) no_stmts) ≡ true
  both_lists [] ys h k = k
  both_lists (x ∷ xs) ys h k = let p = both (is_written_item x) (are_written_items (before_stmts xs no_stmts)) h in join p.0 (both_lists xs ys p.1 k)

  tests_are : (action : Cond → Option ActionData) → are_written_actions line.0 action ≡ true → are_written_items (before_stmts (tests line action) no_stmts) ≡ true
  tests_are action h =
      let p = both (is_written_action_option line.0 (action NotFound)) (is_written_action_option line.0 (action Warning) && is_written_action_option line.0 (action Error)) h in
      let q = both (is_written_action_option line.0 (action Warning)) (is_written_action_option line.0 (action Error)) p.1 in
      both_lists (test_for line NotFound (action NotFound)) (test_for line Warning (action Warning) ++ test_for line Error (action Error)) (test_for_is NotFound (action NotFound) p.0)
      (both_lists (test_for line Warning (action Warning)) (test_for line Error (action Error)) (test_for_is Warning (action Warning) q.0) (test_for_is Error (action Error) q.1))

line_fits : (n : ℕ) → is_line n ≡ true → fits_type n (arithmetic Int) ≡ true
line_fits n h = let p = both (nat_lt 0 n) (nat_lt n 1000000000) h in small p.1
  where
    small : nat_lt n 1000000000 ≡ true → fits_type n (arithmetic Int) ≡ true
    small e = let k : int_le (pos n) (pos 2147483647) ≡ true = grind (arith, nat_tests) in k

block_is : (handlers : List MarkData) (e : EmbData) (c : Call ExprData) → is_line e.line.0 ≡ true → are_written_actions e.line.0 (action_among handlers e.place) ≡ true → are_args e.line.0 (call_arguments c) ≡ true → IsBlock (block_of handlers e c)
block_is handlers e c l m h = record {
  shut = refl;
  shape = λ n. join (join l (join (library_is (name_of c)) (args_are e.line.0 (int_constant e.line.0 ∷ call_arguments c) (join (line_fits e.line.0 l) h)))) (tests_are e.line l (action_among handlers e.place) m);
}

-- ---- the statement of a number

prepared_is : (e : EmbData) → is_written_statement e.kind ≡ true → is_written_name_option (prepared_in e) ≡ true
prepared_is e h = go e.kind h
  where
    go : (kind : EmbKindData) → is_written_statement kind ≡ true → is_written_name_option (elim kind [ declare_cursor cursor parts name ↦ name | _ ↦ None ]) ≡ true
    go (declare_cursor cursor parts name) h = h
    go _ h = refl

found_name : (es : List EmbData) (k : ℕ) → are_written_statements es ≡ true → is_written_name_option (option_and_then prepared_in (slice_get es k)) ≡ true
found_name [] k h = refl
found_name (e ∷ es) zero h = prepared_is e (both (is_written_statement e.kind) (are_written_statements es) h).0
found_name (e ∷ es) (suc k) h = found_name es k (both (is_written_statement e.kind) (are_written_statements es) h).1

opened_name : (es : List EmbData) (n : ℕ) (e : EmbData) → are_written_statements es ≡ true → is_written_name_option (prepared_opened es n e) ≡ true
opened_name es n e h = go (opened_cursor e)
  where
    at : (k : Option ℕ) → is_written_name_option (option_and_then prepared_in (option_and_then (λ k. slice_get es k) k)) ≡ true
    at None = refl
    at (Some k) = found_name es k h

    go : (c : Option Text) → is_written_name_option (option_and_then prepared_in (option_and_then (λ cursor. option_and_then (λ k. slice_get es k) (declared_above es n cursor)) c)) ≡ true
    go None = refl
    go (Some c) = at (declared_above es n c)

pub block_for_is : (handlers : List MarkData) (es : List EmbData) (n : ℕ) (e : EmbData) (b : BoundData) → is_line e.line.0 ≡ true → are_written_actions e.line.0 (action_among handlers e.place) ≡ true → are_written_statements es ≡ true → is_written_statement e.kind ≡ true → is_written_bound e.line.0 b ≡ true
    → IsBlockOption (block_for handlers es n e b)
block_for_is handlers es n e b l m s k h = go (call_of es n e b) (call_args e.line.0 (prepared_opened es n e) e.kind b (opened_name es n e s) k (of_bound e.line.0 b h))
  where
    go : (c : Option (Call ExprData)) → AreCallArgs e.line.0 c → IsBlockOption (option_map (block_of handlers e) c)
    go None x = tt
    go (Some c) x = block_is handlers e c l m x
