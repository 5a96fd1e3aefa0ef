-- The arguments of a call, as they are written. Each function puts its own before others.
use Rattle.std.specs.Prelude.{ℕ, Bool, true, false, List, [], ◌∷◌, Option, Some, None, codes}
use Rattle.ec_ctypes.specs.declared.checked.library.Sym.{Sym}
use Rattle.ec_ctypes.specs.declared.checked.library.Sym.TheVariants as sym
use Rattle.ec_ctypes.specs.declared.embedded.emb.Item.{Item}
use Rattle.ec_ctypes.specs.declared.embedded.emb.Item.TheVariants as item
use Rattle.ec_arguments.specs.Arguments.{Arg, symbol, literal, null, int_constant, long_constant, pointer, TextArg, absent, word, held, Indicator, Member, host, constant, descriptor, Statement, normal, prepared, immediate, opening, ItemMember, Call, run, connect, disconnect, set_connection, set_autocommit, control, prepare, deallocate, allocate_descriptor, deallocate_descriptor, get_count, set_count, get_items, set_items, Cut}

-- the symbol of an item
abbrev pub item_symbol : Item → Sym
item_symbol item.Content = sym.ItemData
item_symbol item.Indicator = sym.ItemIndicator
item_symbol item.Label = sym.ItemName
item_symbol item.Code = sym.ItemType
item_symbol item.Octets = sym.ItemOctets

-- whether each statement is a transaction by itself, as a word
abbrev pub switch_word : Bool → List ℕ
switch_word true = codes "on"
switch_word false = codes "off"

module _ {A : Type 0} where
  abbrev pub text_argument : TextArg A → Arg A
  text_argument absent = null
  text_argument (word bytes) = literal bytes
  text_argument (held a) = pointer a

  -- the five values of indicators, or of none
  abbrev pub indicator_arguments : Option (Indicator A) → List (Arg A) → List (Arg A)
  indicator_arguments None rest =
      symbol sym.NoIndicator ∷ null ∷ long_constant 0 ∷ long_constant 0 ∷ long_constant 0 ∷ rest
  indicator_arguments (Some i) rest = symbol i.sym ∷ pointer i.value
      ∷ long_constant 0 ∷ long_constant i.count ∷ long_constant i.step ∷ rest

  -- the ten values of a member: its symbol, what it is, its length, count and distance, and its indicator
  abbrev pub ten_values : Sym → TextArg A → ℕ → ℕ → ℕ →
      Option (Indicator A) → List (Arg A) → List (Arg A)
  ten_values s value size count step ind rest =
      symbol s ∷ text_argument value ∷ long_constant size ∷ long_constant count
      ∷ long_constant step ∷ indicator_arguments ind rest

  abbrev pub member_arguments : Member A → List (Arg A) → List (Arg A)
  member_arguments (host p) rest = ten_values p.sym (held p.value) p.size p.count p.step p.ind rest
  member_arguments (constant bytes) rest = ten_values sym.Const (word bytes) 0 1 0 None rest
  member_arguments (descriptor name) rest = ten_values sym.Descriptor name 1 1 1 None rest

  abbrev pub members_arguments : List (Member A) → List (Arg A) → List (Arg A)
  members_arguments [] rest = rest
  members_arguments (m ∷ ms) rest = member_arguments m (members_arguments ms rest)

  abbrev pub items_arguments : List (ItemMember A) → List (Arg A) → List (Arg A)
  items_arguments [] rest = rest
  items_arguments (i ∷ is) rest =
      symbol (item_symbol i.0) ∷ member_arguments i.1 (items_arguments is rest)

  abbrev pub statement_arguments : Statement A → List (Arg A) → List (Arg A)
  statement_arguments (normal text) rest = symbol sym.StatementNormal ∷ literal text ∷ rest
  statement_arguments (prepared name) rest = symbol sym.StatementExecute ∷ literal name ∷ rest
  statement_arguments (immediate text) rest =
      symbol sym.StatementExecImmediate ∷ text_argument text ∷ rest
  statement_arguments (opening head name) rest =
      symbol sym.StatementOpen ∷ literal head ∷ literal name ∷ rest

  -- the arguments behind the line
  abbrev pub call_arguments : Call A → List (Arg A)
  call_arguments (run connection statement ins outs) =
      text_argument connection
      ∷ statement_arguments statement (members_arguments ins
      (symbol sym.EndOfInputs ∷ members_arguments outs (symbol sym.EndOfOutputs ∷ [])))
  call_arguments (connect target user password name) =
      text_argument target ∷ text_argument user ∷ text_argument password ∷ text_argument name ∷ []
  call_arguments (disconnect name) = text_argument name ∷ []
  call_arguments (set_connection name) = text_argument name ∷ []
  call_arguments (set_autocommit on connection) =
      literal (switch_word on) ∷ text_argument connection ∷ []
  call_arguments (control connection text) = text_argument connection ∷ literal text ∷ []
  call_arguments (prepare connection name text) =
      text_argument connection ∷ literal name ∷ text_argument text ∷ []
  call_arguments (deallocate connection name) = text_argument connection ∷ literal name ∷ []
  call_arguments (allocate_descriptor name) = text_argument name ∷ []
  call_arguments (deallocate_descriptor name) = text_argument name ∷ []
  call_arguments (get_count name target) = text_argument name ∷ member_arguments target []
  call_arguments (set_count name value) = text_argument name ∷ member_arguments value []
  call_arguments (get_items name index items) =
      text_argument name
      ∷ member_arguments index (items_arguments items (symbol sym.EndOfItems ∷ []))
  call_arguments (set_items name index items) =
      text_argument name
      ∷ member_arguments index (items_arguments items (symbol sym.EndOfItems ∷ []))

  -- the arguments of a call
  abbrev pub arguments : Cut A → List (Arg A)
  arguments c = int_constant c.line ∷ call_arguments c.call
