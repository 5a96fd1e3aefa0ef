-- Arguments are read from their front: the symbols and the literals that a call has at its places, texts, and members of ten values each. Which members stand where, and with which numbers, is a rule of its own.
use Rattle.std.specs.Prelude.{ℕ, zero, suc, nat_eq, Bool, true, false, List, [], ◌∷◌, length, Option, Some, None, codes}
use Rattle.std.specs.Cmp.Lexicographic.{pointwise}
use Rattle.ec_ctypes.specs.declared.checked.library.Sym.{Sym}
use Rattle.ec_ctypes.specs.declared.checked.library.Sym.TheVariants as sym
use Rattle.ec_ctypes.specs.declared.checked.library.LibName.{LibName}
use Rattle.ec_ctypes.specs.declared.checked.library.LibName.TheVariants as library
use Rattle.ec_ctypes.specs.declared.embedded.emb.Item.{Item}
use Rattle.ec_ctypes.specs.declared.embedded.emb.Item.TheVariants as item
use Rattle.ec_arguments.specs.Arguments.{Arg, symbol, literal, null, int_constant, long_constant, pointer, TextArg, absent, word, held, Indicator, Member, host, constant, descriptor, Statement, normal, prepared, immediate, opening, ItemMember, Call, run, connect, disconnect, set_connection, set_autocommit, control, prepare, deallocate, allocate_descriptor, deallocate_descriptor, get_count, set_count, get_items, set_items, Cut}

-- what was read, and the arguments behind it
abbrev pub Read : Type 0 → Type 0 → Type 0
Read A B = Option (B × List (Arg A))

module _ {A : Type 0} where
  abbrev pub and_then : {B C : Type 0} → Read A B → (B → List (Arg A) → Read A C) → Read A C
  and_then None next = None
  and_then (Some read) next = next read.0 read.1

  -- one argument
  abbrev pub next_symbol : List (Arg A) → Read A Sym
  next_symbol (symbol s ∷ rest) = Some (s, rest)
  next_symbol _ = None

  abbrev pub next_literal : List (Arg A) → Read A (List ℕ)
  next_literal (literal bytes ∷ rest) = Some (bytes, rest)
  next_literal _ = None

  abbrev pub next_int : List (Arg A) → Read A ℕ
  next_int (int_constant n ∷ rest) = Some (n, rest)
  next_int _ = None

  abbrev pub next_long : List (Arg A) → Read A ℕ
  next_long (long_constant n ∷ rest) = Some (n, rest)
  next_long _ = None

  abbrev pub next_text : List (Arg A) → Read A (TextArg A)
  next_text (null ∷ rest) = Some (absent, rest)
  next_text (literal bytes ∷ rest) = Some (word bytes, rest)
  next_text (pointer a ∷ rest) = Some (held a, rest)
  next_text _ = None

  -- the five values of indicators, by their symbol
  abbrev pub indicator_of : Sym → TextArg A → ℕ → ℕ → ℕ → Option (Option (Indicator A))
  indicator_of sym.NoIndicator absent zero zero zero = Some None
  indicator_of sym.NoIndicator _ _ _ _ = None
  indicator_of s (held a) zero count step =
      Some (Some (record { sym = s; value = a; count = count; step = step }))
  indicator_of _ _ _ _ _ = None

  -- a value that is one, and what is behind it
  abbrev pub before : {B : Type 0} → Option B → List (Arg A) → Read A B
  before None rest = None
  before (Some b) rest = Some (b, rest)

  abbrev pub next_indicator : List (Arg A) → Read A (Option (Indicator A))
  next_indicator args =
      and_then (next_symbol args) (λ s r.
      and_then (next_text r) (λ value r.
      and_then (next_long r) (λ nothing r.
      and_then (next_long r) (λ count r.
      and_then (next_long r) (λ step r.
      before (indicator_of s value nothing count step) r)))))

  abbrev pub constant_of : TextArg A → ℕ → ℕ → ℕ → Option (Indicator A) → Option (Member A)
  constant_of (word bytes) zero (suc zero) zero None = Some (constant bytes)
  constant_of _ _ _ _ _ = None

  abbrev pub descriptor_of : TextArg A → ℕ → ℕ → ℕ → Option (Indicator A) → Option (Member A)
  descriptor_of name (suc zero) (suc zero) (suc zero) None = Some (descriptor name)
  descriptor_of _ _ _ _ _ = None

  abbrev pub host_of : Sym → TextArg A → ℕ → ℕ → ℕ → Option (Indicator A) → Option (Member A)
  host_of s (held a) size count step ind =
      Some (host
      (record { sym = s; value = a; size = size; count = count; step = step; ind = ind }))
  host_of s _ _ _ _ _ = None

  -- a member, by its symbol
  abbrev pub member_of : Sym → TextArg A → ℕ → ℕ → ℕ → Option (Indicator A) → Option (Member A)
  member_of sym.Const value size count step ind = constant_of value size count step ind
  member_of sym.Descriptor value size count step ind = descriptor_of value size count step ind
  member_of s value size count step ind = host_of s value size count step ind

  -- ten values
  abbrev pub next_member : List (Arg A) → Read A (Member A)
  next_member args =
      and_then (next_symbol args) (λ s r.
      and_then (next_text r) (λ value r.
      and_then (next_long r) (λ size r.
      and_then (next_long r) (λ count r.
      and_then (next_long r) (λ step r.
      and_then (next_indicator r) (λ ind r.
      before (member_of s value size count step ind) r))))))

  -- whether a symbol of some kind comes next
  abbrev pub begins_with : (Sym → Bool) → List (Arg A) → Bool
  begins_with is (symbol s ∷ rest) = is s
  begins_with is _ = false

  abbrev pub behind_first : List (Arg A) → List (Arg A)
  behind_first [] = []
  behind_first (x ∷ rest) = rest

  -- members up to a symbol, fewer than so many
  abbrev pub next_members : (Sym → Bool) → ℕ → List (Arg A) → Read A (List (Member A))
  next_members ends zero args = None
  next_members ends (suc n) args = elim (begins_with ends args) [
    | true ↦ Some ([], behind_first args)
    | false ↦ and_then (next_member args)
        (λ m r. and_then (next_members ends n r) (λ ms r. Some (m ∷ ms, r)))
  ]

-- the symbols that end the inputs, the outputs and the items
abbrev pub ends_inputs : Sym → Bool
ends_inputs sym.EndOfInputs = true
ends_inputs _ = false

abbrev pub ends_outputs : Sym → Bool
ends_outputs sym.EndOfOutputs = true
ends_outputs _ = false

abbrev pub ends_items : Sym → Bool
ends_items sym.EndOfItems = true
ends_items _ = false

-- the item of a symbol
abbrev pub item_of : Sym → Option Item
item_of sym.ItemData = Some item.Content
item_of sym.ItemIndicator = Some item.Indicator
item_of sym.ItemName = Some item.Label
item_of sym.ItemType = Some item.Code
item_of sym.ItemOctets = Some item.Octets
item_of _ = None

abbrev pub same_text : List ℕ → List ℕ → Bool
same_text a b = pointwise nat_eq a b

-- the word `on` or `off`
abbrev pub switch_of : List ℕ → Option Bool
switch_of text = elim (same_text text (codes "on")) [
  | true ↦ Some true
  | false ↦ elim (same_text text (codes "off")) [ true ↦ Some false | false ↦ None ]
]

module _ {A : Type 0} where
  -- items up to their end, fewer than so many
  abbrev pub next_items : ℕ → List (Arg A) → Read A (List (ItemMember A))
  next_items zero args = None
  next_items (suc n) args = elim (begins_with ends_items args) [
    | true ↦ Some ([], behind_first args)
    | false ↦
        and_then (next_symbol args) (λ s r.
        and_then (before (item_of s) r) (λ i r.
        and_then (next_member r) (λ m r.
        and_then (next_items n r) (λ is r. Some ((i, m) ∷ is, r)))))
  ]

  -- a statement, by its symbol
  abbrev pub statement_of : Sym → List (Arg A) → Read A (Statement A)
  statement_of sym.StatementNormal args =
      and_then (next_literal args) (λ text r. Some (normal text, r))
  statement_of sym.StatementExecute args =
      and_then (next_literal args) (λ name r. Some (prepared name, r))
  statement_of sym.StatementExecImmediate args =
      and_then (next_text args) (λ text r. Some (immediate text, r))
  statement_of sym.StatementOpen args = and_then (next_literal args)
      (λ head r. and_then (next_literal r) (λ name r. Some (opening head name, r)))
  statement_of _ args = None

  abbrev pub next_statement : List (Arg A) → Read A (Statement A)
  next_statement args = and_then (next_symbol args) (λ s r. statement_of s r)

  -- a text and nothing else
  abbrev pub read_name : (TextArg A → Call A) → List (Arg A) → Read A (Call A)
  read_name made args = and_then (next_text args) (λ name r. Some (made name, r))

  abbrev pub read_run : List (Arg A) → Read A (Call A)
  read_run args =
      and_then (next_text args) (λ connection r.
      and_then (next_statement r) (λ statement r.
      and_then (next_members ends_inputs (length args) r) (λ ins r.
      and_then (next_members ends_outputs (length args) r)
      (λ outs r. Some (run connection statement ins outs, r)))))

  abbrev pub read_connect : List (Arg A) → Read A (Call A)
  read_connect args =
      and_then (next_text args) (λ target r.
      and_then (next_text r) (λ user r.
      and_then (next_text r) (λ password r.
      and_then (next_text r) (λ name r. Some (connect target user password name, r)))))

  abbrev pub read_autocommit : List (Arg A) → Read A (Call A)
  read_autocommit args =
      and_then (next_literal args) (λ switch r.
      and_then (before (switch_of switch) r) (λ on r.
      and_then (next_text r) (λ connection r. Some (set_autocommit on connection, r))))

  -- a connection, a literal and nothing else
  abbrev pub read_literal : (TextArg A → List ℕ → Call A) → List (Arg A) → Read A (Call A)
  read_literal made args = and_then (next_text args)
      (λ connection r. and_then (next_literal r) (λ text r. Some (made connection text, r)))

  abbrev pub read_prepare : List (Arg A) → Read A (Call A)
  read_prepare args =
      and_then (next_text args) (λ connection r.
      and_then (next_literal r) (λ name r.
      and_then (next_text r) (λ text r. Some (prepare connection name text, r))))

  abbrev pub read_count : (TextArg A → Member A → Call A) → List (Arg A) → Read A (Call A)
  read_count made args =
      and_then (next_text args) (λ name r. and_then (next_member r) (λ m r. Some (made name m, r)))

  abbrev pub read_items : (TextArg A → Member A → List (ItemMember A) → Call A) →
      List (Arg A) → Read A (Call A)
  read_items made args =
      and_then (next_text args) (λ name r.
      and_then (next_member r) (λ index r.
      and_then (next_items (length args) r) (λ items r. Some (made name index items, r))))

  -- a call, by its name
  abbrev pub read_call : LibName → List (Arg A) → Read A (Call A)
  read_call library.Do args = read_run args
  read_call library.Connect args = read_connect args
  read_call library.Disconnect args = read_name disconnect args
  read_call library.SetConn args = read_name set_connection args
  read_call library.SetCommit args = read_autocommit args
  read_call library.Trans args = read_literal control args
  read_call library.Prepare args = read_prepare args
  read_call library.Deallocate args = read_literal deallocate args
  read_call library.AllocateDesc args = read_name allocate_descriptor args
  read_call library.DeallocateDesc args = read_name deallocate_descriptor args
  read_call library.GetDescHeader args = read_count get_count args
  read_call library.SetDescHeader args = read_count set_count args
  read_call library.GetDesc args = read_items get_items args
  read_call library.SetDesc args = read_items set_items args

  -- a call that is read, and nothing behind it
  abbrev pub to_end : ℕ → Read A (Call A) → Option (Cut A)
  to_end line None = None
  to_end line (Some (call, [])) = Some (record { line = line; call = call })
  to_end line (Some (call, more ∷ rest)) = None

  -- the line, and then the call
  abbrev pub read_from : LibName → Read A ℕ → Option (Cut A)
  read_from name None = None
  read_from name (Some (line, rest)) = to_end line (read_call name rest)

  abbrev pub read : LibName → List (Arg A) → Option (Cut A)
  read name args = read_from name (next_int args)
