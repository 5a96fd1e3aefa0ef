-- Embedded statements as they are executed: their texts, inputs and outputs as places with types. A place is an expression where the statement stands, and an address where it is executed.
use Rattle.std.specs.Prelude.{ℕ, ◌+◌, Bool, List, [], ◌∷◌, ◌++◌, map, take, drop, slice_get, Option, Some, None, codes}
use Rattle.ec_arguments.specs.Arguments.{TextArg, absent, word, held}
use Rattle.ec_ctypes.specs.declared.embedded.emb.Item.{Item}
use Rattle.ec_ctypes.specs.trees.Types.{TyData, pointer, array, structure, StructData}
use Rattle.ec_ctypes.specs.trees.Exprs.{ExprData}
use Rattle.ec_ctypes.specs.trees.Embedded.{HostData, TextArgData, word_arg, host_arg, host_with_indicator, InputData, host_input, const_input, InsData, listed_ins, area_ins, OutsData, no_outs, listed_outs, area_outs, PartData, bytes_part, host_part, EmbData, connect, set_connection, disconnect, autocommit, trans, server_text, declare_cursor, open_cursor, execute_immediate, prepare, execute, deallocate, allocate_area, free_area, get_count, get_items, set_count, set_items, whenever, include_sqlca}
use Rattle.ec_language.specs.Letters.{Text}
use Rattle.ec_host_defs.specs.Bound.{sent_from}
use Rattle.ec_host_defs.specs.Faults.{host_count}
use Rattle.ec_host_defs.specs.Programs.{ProgramData, Denoted, reference_type, names_count}
use Rattle.ec_memory_defs.specs.Memory.{pointer_type}
use Rattle.ec_meaning_defs.specs.resolved.Resolved.{Exp, load, faulty}
use Rattle.ec_resolving_defs.specs.Storage.{ReferenceForm}
use Rattle.ec_direct_defs.specs.Hosts.{leaves_with_indicators}
use Rattle.ec_direct_defs.specs.Leaves.{Leaf, leaf_at, member_place}

-- a value that is sent: that of a leaf, or a constant of the statement
pub data Input (A : Type 0) : Type 0 where
  stored : Leaf A → Input A
  constant : Text → Input A

-- what a statement sends: values, and behind them the contents of a descriptor, if one is named
pub record Sent (A : Type 0) : Type 0 where
  pub values : List (Input A)
  pub area : Option (TextArg A)

-- values alone
abbrev pub without_area : {A : Type 0} → List (Input A) → Sent A
without_area values = record { values = values; area = None }

-- where an answer goes: nowhere, into leaves, or into a descriptor
pub data Outputs (A : Type 0) : Type 0 where
  nowhere : Outputs A
  into_leaves : List (Leaf A) → Outputs A
  into_area : TextArg A → Outputs A

-- what is run over a connection: a text, a prepared statement, a text that is known when it runs, or a cursor for a prepared statement, by the head of its text and the name
pub data Asked (A : Type 0) : Type 0 where
  sends : Text → Asked A
  executes : Text → Asked A
  reads_text : TextArg A → Asked A
  opens : Text → Text → Asked A

-- a statement that is executed
pub data Statement (A : Type 0) : Type 0 where
  -- the connection, what is run, the inputs and the outputs
  runs : TextArg A → Asked A → Sent A → Outputs A → Statement A
  -- the target, the user, the password and the name
  connects : TextArg A → TextArg A → TextArg A → TextArg A → Statement A
  disconnects : TextArg A → Statement A
  sets_connection : TextArg A → Statement A
  sets_autocommit : Bool → TextArg A → Statement A
  -- the connection, and the text of the transaction control
  controls : TextArg A → Text → Statement A
  -- the connection, the name and the text
  prepares : TextArg A → Text → TextArg A → Statement A
  deallocates : TextArg A → Text → Statement A
  allocates : TextArg A → Statement A
  frees : TextArg A → Statement A
  -- the descriptor, and where its count is stored or what it is set from
  gets_count : TextArg A → Leaf A → Statement A
  sets_count : TextArg A → Input A → Statement A
  -- the descriptor, the index and the items
  gets_items : TextArg A → Input A → List (Item × Leaf A) → Statement A
  sets_items : TextArg A → Input A → List (Item × Input A) → Statement A

-- ---- parts of a statement, by what its variables denote and by its references where it stands

-- the declarations and the references of the parts that are left
pub record Around : Type 0 where
  pub denoted : Denoted
  pub references : List ReferenceForm

pub record Made (A : Type 0) : Type 0 where
  pub made : A
  pub left : Around

abbrev pub made : {A : Type 0} → A → Around → Made A
made a x = record { made = a; left = x }

abbrev pub each_of : {A B : Type 0} → (A → Around → Made (List B)) → List A → Around → Made (List B)
each_of f [] x = made [] x
each_of f (a ∷ as') x =
    let first = f a x in
    let rest = each_of f as' first.left in
    made (first.made ++ rest.made) rest.left

-- behind so many names and so many references
abbrev pub behind : ℕ → ℕ → Around → Around
behind names count x =
    record { denoted = drop names x.denoted; references = drop count x.references }

-- the address of the reference of this number
abbrev pub reference_at : ℕ → Around → Exp
reference_at n x = elim (slice_get x.references n) [ None ↦ faulty | Some r ↦ r.place ]

abbrev pub indicator_at : HostData → Around → Option Exp
indicator_at h x = elim h.indicator [ None ↦ None | Some i ↦ Some (reference_at 1 x) ]

abbrev pub references_of : HostData → ℕ
references_of h = elim h.indicator [ None ↦ 1 | Some i ↦ 2 ]

-- a text: an array of characters, what a pointer leads to, or the characters of a VARCHAR
abbrev pub text_place : List StructData → Option TyData → Exp → Exp
text_place structs (Some (pointer t)) e = load pointer_type e
text_place structs (Some (structure k)) e = member_place structs (k, codes "arr") e
text_place structs (Some (array t n)) e = e
text_place structs _ e = faulty

-- A cursor: the text of its DECLARE, the name of the prepared statement that it is for, and what stands round its hosts
pub record Cursor : Type 0 where
  pub parts : List PartData
  pub prepared : Option Text
  pub around : Around

module _ (p : ProgramData) where
  -- a host as its leaves
  abbrev pub host_leaves : HostData → Around → Made (List (Leaf Exp))
  host_leaves h x =
      made (map (leaf_at p.structs (reference_at 0 x) (indicator_at h x)) (leaves_with_indicators p h x.denoted))
      (behind (host_count h) (references_of h) x)

  abbrev pub input : InputData → Around → Made (List (Input Exp))
  input (host_input h) x = let ls = host_leaves h x in made (map stored ls.made) ls.left
  input (const_input bytes) x = made (constant bytes ∷ []) x

  abbrev pub part : PartData → Around → Made (List (Input Exp))
  part (bytes_part bytes) x = made [] x
  part (host_part h) x = let ls = host_leaves h x in made (map stored ls.made) ls.left

  -- the type of the reference that comes next
  abbrev pub type_of : ExprData → Around → Option TyData
  type_of e x = reference_type p e (take (names_count e) x.denoted)

  abbrev pub text_arg : TextArgData → Around → Made (TextArg Exp)
  text_arg (word_arg bytes) x = made (word bytes) x
  text_arg (host_arg e) x =
      made (held (text_place p.structs (type_of e x) (reference_at 0 x)))
      (behind (names_count e) 1 x)
  text_arg (host_with_indicator e i) x =
      made (held (text_place p.structs (type_of e x) (reference_at 0 x)))
      (behind (names_count e + names_count i) 2 x)

  abbrev pub text_option : Option TextArgData → Around → Made (TextArg Exp)
  text_option None x = made absent x
  text_option (Some a) x = text_arg a x

  abbrev pub sent : InsData → Around → Made (Sent Exp)
  sent (listed_ins is) x =
      let values = each_of input is x in
      made (without_area values.made) values.left
  sent (area_ins a) x =
      let name = text_arg a x in
      made (record { values = []; area = Some name.made }) name.left

  abbrev pub outputs : OutsData → Around → Outputs Exp
  outputs no_outs x = nowhere
  outputs (listed_outs hs) x = into_leaves (each_of host_leaves hs x).made
  outputs (area_outs a) x = into_area (text_arg a x).made

  abbrev pub get_leaves : Item × HostData → Around → Made (List (Item × Leaf Exp))
  get_leaves i x = let ls = host_leaves i.1 x in made (map (λ l. (i.0, l)) ls.made) ls.left

  abbrev pub set_inputs : Item × InputData → Around → Made (List (Item × Input Exp))
  set_inputs i x = let is = input i.1 x in made (map (λ l. (i.0, l)) is.made) is.left

  -- ---- statements

  abbrev pub connecting : TextArgData → Option TextArgData → Option TextArgData
      → Option TextArgData → Around → Statement Exp
  connecting target name user password x =
      let t = text_arg target x in
      let n = text_option name t.left in
      let u = text_option user n.left in
      let w = text_option password u.left in
      connects t.made u.made w.made n.made

  -- with the first of these, which a count and an index have
  abbrev pub first_of : {B : Type 0} → List B → (B → Statement Exp) → Option (Statement Exp)
  first_of [] f = None
  first_of (b ∷ bs) f = Some (f b)

  abbrev pub getting_items : TextArgData → InputData → List (Item × HostData) → Around
      → Option (Statement Exp)
  getting_items a index items x =
      let name = text_arg a x in
      let at = input index name.left in
      first_of at.made (λ i. gets_items name.made i (each_of get_leaves items at.left).made)

  abbrev pub setting_items : TextArgData → InputData → List (Item × InputData) → Around
      → Option (Statement Exp)
  setting_items a index items x =
      let name = text_arg a x in
      let at = input index name.left in
      first_of at.made (λ i. sets_items name.made i (each_of set_inputs items at.left).made)

  abbrev pub server_statement : TextArg Exp → List PartData → OutsData → Around → Statement Exp
  server_statement at parts outs x =
      let values = each_of part parts x in
      runs at (sends (sent_from p 1 parts x.denoted)) (without_area values.made)
      (outputs outs values.left)

  abbrev pub execution : TextArg Exp → Text → InsData → OutsData → Around → Statement Exp
  execution at name ins outs x =
      let values = sent ins x in
      runs at (executes name) values.made (outputs outs values.left)

  abbrev pub opened_by : Option Text → Text → Asked Exp
  opened_by None text = sends text
  opened_by (Some name) head = opens head name

  -- OPEN sends the text of its cursor, with the cursor's hosts first, and then those of USING
  abbrev pub opening : TextArg Exp → Cursor → InsData → Around → Statement Exp
  opening at c ins x =
      let own = sent ins x in
      runs at (opened_by c.prepared (sent_from p 1 c.parts c.around.denoted))
      (record own.made { values = (each_of part c.parts c.around).made ++ own.made.values })
      nowhere

  -- a statement behind its connection, with the cursor that it opens. Directives are not executed
  abbrev pub executed : EmbData → Cursor → TextArg Exp → Around → Option (Statement Exp)
  executed e c at x = elim e.kind [
    | connect target name user password ↦ Some (connecting target name user password x)
    | set_connection name ↦ Some (sets_connection (text_arg name x).made)
    | disconnect name ↦ Some (disconnects (text_arg name x).made)
    | autocommit on ↦ Some (sets_autocommit on at)
    | trans text ↦ Some (controls at text)
    | server_text parts outs ↦ Some (server_statement at parts outs x)
    | declare_cursor name parts prepared ↦ None
    | open_cursor name ins ↦ Some (opening at c ins x)
    | execute_immediate text ↦
        Some (runs at (reads_text (text_arg text x).made) (without_area []) nowhere)
    | prepare name text ↦ Some (prepares at name (text_arg text x).made)
    | execute name ins outs ↦ Some (execution at name ins outs x)
    | deallocate name ↦ Some (deallocates at name)
    | allocate_area a ↦ Some (allocates (text_arg a x).made)
    | free_area a ↦ Some (frees (text_arg a x).made)
    | get_count a host ↦
        let name = text_arg a x in
        first_of (host_leaves host name.left).made (λ l. gets_count name.made l)
    | get_items a index items ↦ getting_items a index items x
    | set_count a value ↦
        let name = text_arg a x in
        first_of (input value name.left).made (λ i. sets_count name.made i)
    | set_items a index items ↦ setting_items a index items x
    | whenever condition action ↦ None
    | include_sqlca ↦ None
  ]

  abbrev pub statement_of : EmbData → Cursor → Around → Option (Statement Exp)
  statement_of e c x = let at = text_option e.at x in executed e c at.made at.left
