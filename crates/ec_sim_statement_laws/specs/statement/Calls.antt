-- The call of the library that is written for a statement, by its parts as places with types: of each leaf the symbol and the length that its type has, its place, how many elements there are, and how far apart they lie (PostgreSQL manual, 36.17).
use Rattle.std.specs.Prelude.{ℕ, Bool, true, List, [], ◌∷◌, ◌++◌, map, Option, Some, None, option_map}
use Rattle.ec_arguments.specs.Arguments as library
use Rattle.ec_arguments.specs.Arguments.{TextArg, Indicator, Place, Member, host, constant, descriptor, ItemMember, Call, Cut, run, connect, disconnect, set_connection, set_autocommit, control, prepare, deallocate, allocate_descriptor, deallocate_descriptor, get_count, set_count, get_items, set_items}
use Rattle.ec_arguments.specs.Rules.{is_call}
use Rattle.ec_ctypes.specs.declared.embedded.emb.Item.{Item}
use Rattle.ec_ctypes.specs.trees.Types.{StructData}
use Rattle.ec_host_defs.specs.Leaves.{LeafData}
use Rattle.ec_host_defs.specs.Places.{size_of, symbol_in}
use Rattle.ec_direct_defs.specs.Leaves.{Leaf}
use Rattle.ec_direct_defs.specs.Statements as direct
use Rattle.ec_direct_defs.specs.Statements.{Input, stored, Sent, Outputs, nowhere, into_leaves, into_area, Asked, sends, executes, reads_text, opens, Statement, runs, connects, disconnects, sets_connection, sets_autocommit, controls, prepares, deallocates, allocates, frees, gets_count, sets_count, gets_items, sets_items}

module _ (structs : List StructData) {A : Type 0} where
  abbrev pub indicator_of : A × LeafData → Indicator A
  indicator_of i = record {
    sym = (symbol_in structs i.1).0;
    value = i.0;
    count = i.1.count;
    step = size_of structs i.1.apart;
  }

  -- a leaf by its symbol
  abbrev pub place_of : Leaf A → Place A
  place_of l = record {
    sym = (symbol_in structs l.leaf).0;
    value = l.place;
    size = (symbol_in structs l.leaf).1;
    count = l.leaf.count;
    step = size_of structs l.leaf.apart;
    ind = option_map indicator_of l.indicator;
  }

  abbrev pub host_of : Leaf A → Member A
  host_of l = host (place_of l)

  abbrev pub input_of : Input A → Member A
  input_of (stored l) = host_of l
  input_of (direct.constant bytes) = constant bytes

  abbrev pub area_of : Option (TextArg A) → List (Member A)
  area_of None = []
  area_of (Some name) = descriptor name ∷ []

  -- the values, and behind them the descriptor
  abbrev pub ins_of : Sent A → List (Member A)
  ins_of x = map input_of x.values ++ area_of x.area

  abbrev pub outs_of : Outputs A → List (Member A)
  outs_of nowhere = []
  outs_of (into_leaves ls) = map host_of ls
  outs_of (into_area name) = descriptor name ∷ []

  abbrev pub asked_of : Asked A → library.Statement A
  asked_of (sends bytes) = library.normal bytes
  asked_of (executes name) = library.prepared name
  asked_of (reads_text text) = library.immediate text
  asked_of (opens head name) = library.opening head name

  abbrev pub got_of : Item × Leaf A → ItemMember A
  got_of i = (i.0, host_of i.1)

  abbrev pub given_of : Item × Input A → ItemMember A
  given_of i = (i.0, input_of i.1)

  -- the call of a statement
  abbrev pub call_of : Statement A → Call A
  call_of (runs at asked ins outs) = run at (asked_of asked) (ins_of ins) (outs_of outs)
  call_of (connects target user password name) = connect target user password name
  call_of (disconnects name) = disconnect name
  call_of (sets_connection name) = set_connection name
  call_of (sets_autocommit on at) = set_autocommit on at
  call_of (controls at text) = control at text
  call_of (prepares at name text) = prepare at name text
  call_of (deallocates at name) = deallocate at name
  call_of (allocates name) = allocate_descriptor name
  call_of (frees name) = deallocate_descriptor name
  call_of (gets_count name l) = get_count name (host_of l)
  call_of (sets_count name x) = set_count name (input_of x)
  call_of (gets_items name index items) = get_items name (input_of index) (map got_of items)
  call_of (sets_items name index items) = set_items name (input_of index) (map given_of items)

  -- with the line that its messages name
  abbrev pub cut_of : ℕ → Statement A → Cut A
  cut_of line x = record { line = line; call = call_of x }

  -- whatever a pointer is, it may lead to a text
  abbrev pub any_pointer : A → Bool
  any_pointer a = true

  -- the numbers of its members are those of a call, and its texts are there
  abbrev pub keeps_rules : Statement A → Bool
  keeps_rules x = is_call any_pointer (call_of x)

-- Where an answer goes into leaves there is one: a struct has a member
abbrev pub HasLeaves : {A : Type 0} → Outputs A → Type 0
HasLeaves nowhere = Unit {0}
HasLeaves (into_leaves []) = ⊥
HasLeaves (into_leaves (l ∷ ls)) = Unit {0}
HasLeaves (into_area name) = Unit {0}

abbrev pub HasTargets : {A : Type 0} → Statement A → Type 0
HasTargets (runs at asked ins outs) = HasLeaves outs
HasTargets _ = Unit {0}
