-- The calls of the library (PostgreSQL manual, chapter ECPG), and what their arguments are made of. `A` is the kind of value that a pointer is: an expression where a call is written, a number where it is made.
use Rattle.std.specs.Prelude.{ℕ, Bool, List, Option}
use Rattle.ec_ctypes.specs.declared.checked.library.Sym.{Sym}
use Rattle.ec_ctypes.specs.declared.checked.library.LibName.{LibName}
use Rattle.ec_ctypes.specs.declared.checked.library.LibName.TheVariants as library
use Rattle.ec_ctypes.specs.declared.embedded.emb.Item.{Item}

-- an argument, by what it is
pub data Arg (A : Type 0) : Type 0 where
  symbol : Sym → Arg A
  -- a string literal
  literal : List ℕ → Arg A
  -- NULL
  null : Arg A
  -- a constant of type int, and one of type long
  int_constant : ℕ → Arg A
  long_constant : ℕ → Arg A
  pointer : A → Arg A
  -- anything else, which no call takes
  stray : Arg A

-- a text: none, the bytes of a literal, or those that a pointer leads to
pub data TextArg (A : Type 0) : Type 0 where
  absent : TextArg A
  word : List ℕ → TextArg A
  held : A → TextArg A

-- the indicators of a host: their symbol, the pointer to the first one, how many there are, and how many bytes lie between the beginnings of two neighbours
pub record Indicator (A : Type 0) : Type 0 where
  pub sym : Sym
  pub value : A
  pub count : ℕ
  pub step : ℕ

-- a host: its symbol, the pointer to its first element, the length of a text, how many elements there are, how many bytes lie between the beginnings of two neighbours, and its indicators
pub record Place (A : Type 0) : Type 0 where
  pub sym : Sym
  pub value : A
  pub size : ℕ
  pub count : ℕ
  pub step : ℕ
  pub ind : Option (Indicator A)

-- a member of a list of inputs or of outputs
pub data Member (A : Type 0) : Type 0 where
  host : Place A → Member A
  -- a value that the statement names itself
  constant : List ℕ → Member A
  -- the name of a descriptor
  descriptor : TextArg A → Member A

-- what ECPGdo runs
pub data Statement (A : Type 0) : Type 0 where
  -- a text
  normal : List ℕ → Statement A
  -- the statement that is prepared under a name
  prepared : List ℕ → Statement A
  -- a text that is known when it runs
  immediate : TextArg A → Statement A
  -- a cursor for a prepared statement: the head of its text, and the name
  opening : List ℕ → List ℕ → Statement A

-- an item of a descriptor, with what it is stored into or set from
abbrev pub ItemMember : Type 0 → Type 0
ItemMember A = Item × Member A

-- a call, without its line
pub data Call (A : Type 0) : Type 0 where
  -- the connection, the statement, the inputs and the outputs
  run : TextArg A → Statement A → List (Member A) → List (Member A) → Call A
  -- the target, the user, the password and the name
  connect : TextArg A → TextArg A → TextArg A → TextArg A → Call A
  disconnect : TextArg A → Call A
  set_connection : TextArg A → Call A
  -- whether each statement is a transaction by itself, and the connection
  set_autocommit : Bool → TextArg A → Call A
  -- the connection, and the text of the transaction control
  control : TextArg A → List ℕ → Call A
  -- the connection, the name and the text
  prepare : TextArg A → List ℕ → TextArg A → Call A
  -- the connection and the name
  deallocate : TextArg A → List ℕ → Call A
  allocate_descriptor : TextArg A → Call A
  deallocate_descriptor : TextArg A → Call A
  -- the descriptor, and what its count is stored into or set from
  get_count : TextArg A → Member A → Call A
  set_count : TextArg A → Member A → Call A
  -- the descriptor, the index and the items
  get_items : TextArg A → Member A → List (ItemMember A) → Call A
  set_items : TextArg A → Member A → List (ItemMember A) → Call A

-- a call with its line, which its messages name
pub record Cut (A : Type 0) : Type 0 where
  pub line : ℕ
  pub call : Call A

-- the name of a call
abbrev pub name_of : {A : Type 0} → Call A → LibName
name_of (run connection statement ins outs) = library.Do
name_of (connect target user password name) = library.Connect
name_of (disconnect name) = library.Disconnect
name_of (set_connection name) = library.SetConn
name_of (set_autocommit on connection) = library.SetCommit
name_of (control connection text) = library.Trans
name_of (prepare connection name text) = library.Prepare
name_of (deallocate connection name) = library.Deallocate
name_of (allocate_descriptor name) = library.AllocateDesc
name_of (deallocate_descriptor name) = library.DeallocateDesc
name_of (get_count name target) = library.GetDescHeader
name_of (set_count name value) = library.SetDescHeader
name_of (get_items name index items) = library.GetDesc
name_of (set_items name index items) = library.SetDesc
