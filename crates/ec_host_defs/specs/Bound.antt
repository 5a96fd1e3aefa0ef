-- An embedded statement with its hosts as places, or the fault that it is refused for.
use Rattle.std.specs.Prelude.{ℕ, ◌+◌, List, [], ◌∷◌, ◌++◌, map, take, drop, length, Option, Some, None, option_and_then, Result, Ok, Err}
use Rattle.ec_base.specs.declared.fault.FaultKind.{FaultKind}
use Rattle.ec_base.specs.declared.stop.Stop.{Stop}
use Rattle.ec_base.specs.declared.stop.Stop.TheVariants.{Refused}
use Rattle.ec_ctypes.specs.declared.embedded.emb.Item.{Item}
use Rattle.ec_ctypes.specs.trees.Exprs.{ExprData, string}
use Rattle.ec_ctypes.specs.trees.Checked.{PlaceData, BoundData, TypedData}
use Rattle.ec_ctypes.specs.trees.Embedded.{HostData, TextArgData, word_arg, host_arg, host_with_indicator, InputData, host_input, const_input, InsData, listed_ins, area_ins, OutsData, no_outs, listed_outs, area_outs, PartData, bytes_part, host_part, EmbData, connect, set_connection, disconnect, autocommit, trans, server_text, declare_cursor, open_cursor, execute_immediate, prepare, execute, deallocate, allocate_area, free_area, get_count, get_items, set_count, set_items, whenever, include_sqlca}
use Rattle.ec_language.specs.Letters.{Text}
use Rattle.ec_language.specs.First.{Violation, first_of, stop_at}
use Rattle.ec_embedded.specs.Parameters.{parameters}
use Rattle.ec_host_defs.specs.sections.Declared.{functions_of}
use Rattle.ec_typing_defs.specs.statement_parts.Cursors.{declare_opened}
use Rattle.ec_host_defs.specs.Leaves.{Pair, hosted}
use Rattle.ec_host_defs.specs.Places.{leaf_place, constant_place, descriptor_place, text_pointer, no_text}
use Rattle.ec_host_defs.specs.Programs.{ProgramData, Denoted, reference_type, names_count}
use Rattle.ec_host_defs.specs.Faults.{host_count, value_part, indicator_part, uses_faults, row_at, cursor_part, opening_faults, declaring_faults}
use Rattle.ec_host_defs.specs.Uses.{uses_of}

-- ---- what is made of parts of a statement, by what their variables denote, and the declarations that are left behind

pub record Made (A : Type 0) : Type 0 where
  pub made : A
  pub left : Denoted

abbrev pub made : {A : Type 0} → A → Denoted → Made A
made a ds = record { made = a; left = ds }

-- one part behind another
abbrev pub then : {A B C : Type 0} → (A → B → C) → Made A → (Denoted → Made B) → Made C
then f m g = made (f m.made (g m.left).made) (g m.left).left

abbrev pub each_of : {A B : Type 0} →
    (A → Denoted → Made (List B)) → List A → Denoted → Made (List B)
each_of f [] ds = made [] ds
each_of f (x ∷ xs) ds = then (λ a b. a ++ b) (f x ds) (each_of f xs)

abbrev pub bound_of : Text → List ExprData → List PlaceData → List PlaceData → BoundData
bound_of text texts ins outs = record { text = text; texts = texts; ins = ins; outs = outs }

-- with these texts alone
abbrev pub texts_bound : List ExprData → BoundData
texts_bound texts = bound_of [] texts [] []

-- with the connection first, and then the lists
abbrev pub lists_bound : Text → ExprData → List PlaceData → List PlaceData → BoundData
lists_bound text connection ins outs = bound_of text (connection ∷ []) ins outs

-- Get and set of a descriptor's items: its name, the index, and the items.
abbrev pub area_bound : Made ExprData → List PlaceData → List PlaceData → BoundData
area_bound area ins outs = bound_of [] (area.made ∷ []) ins outs

-- the parts of a DECLARE: its cursor's text, and its hosts
abbrev pub cursor_parts : Option EmbData → List PartData
cursor_parts None = []
cursor_parts (Some d) = elim d.kind [ declare_cursor cursor parts prepared ↦ parts | _ ↦ [] ]

module _ (p : ProgramData) where
  -- the leaves of a host
  abbrev pub pairs_of : HostData → Denoted → List Pair
  pairs_of h ds = hosted p.structs (reference_type p h.value (value_part h ds))
      (option_and_then (λ i. reference_type p i (indicator_part h ds)) h.indicator)

  -- a host as its places
  abbrev pub host_places : HostData → Denoted → Made (List PlaceData)
  host_places h ds =
      made (map (leaf_place p.structs h.value h.indicator) (pairs_of h ds)) (drop (host_count h) ds)

  abbrev pub input_places : InputData → Denoted → Made (List PlaceData)
  input_places (host_input h) ds = host_places h ds
  input_places (const_input bytes) ds = made (constant_place bytes ∷ []) ds

  abbrev pub part_places : PartData → Denoted → Made (List PlaceData)
  part_places (bytes_part bytes) ds = made [] ds
  part_places (host_part h) ds = host_places h ds

  -- a name or a text as the pointer to it
  abbrev pub text_expr : TextArgData → Denoted → Made ExprData
  text_expr (word_arg bytes) ds = made (string bytes) ds
  text_expr (host_arg e) ds =
      made (text_pointer (reference_type p e (take (names_count e) ds)) e) (drop (names_count e) ds)
  text_expr (host_with_indicator e i) ds =
      made (text_pointer (reference_type p e (take (names_count e) ds)) e)
      (drop (names_count e + names_count i) ds)

  abbrev pub text_option_expr : Option TextArgData → Denoted → Made ExprData
  text_option_expr None ds = made no_text ds
  text_option_expr (Some a) ds = text_expr a ds

  abbrev pub area_place : TextArgData → Denoted → Made (List PlaceData)
  area_place a ds = made (descriptor_place (text_expr a ds).made ∷ []) (text_expr a ds).left

  abbrev pub ins_places : InsData → Denoted → Made (List PlaceData)
  ins_places (listed_ins is) ds = each_of input_places is ds
  ins_places (area_ins a) ds = area_place a ds

  abbrev pub outs_places : OutsData → Denoted → Made (List PlaceData)
  outs_places no_outs ds = made [] ds
  outs_places (listed_outs hs) ds = each_of host_places hs ds
  outs_places (area_outs a) ds = area_place a ds

  abbrev pub get_places : Item × HostData → Denoted → Made (List PlaceData)
  get_places i ds = host_places i.1 ds

  abbrev pub set_places : Item × InputData → Denoted → Made (List PlaceData)
  set_places i ds = input_places i.1 ds

  -- The text that is sent: each host stands for as many parameters as it has leaves (PostgreSQL manual, "PREPARE"). The next one has this number.
  abbrev pub sent_from : ℕ → List PartData → Denoted → Text
  sent_from n [] ds = []
  sent_from n (bytes_part bytes ∷ ps) ds = bytes ++ sent_from n ps ds
  sent_from n (host_part h ∷ ps) ds = parameters n (length (pairs_of h ds))
      ++ sent_from (n + length (pairs_of h ds)) ps (drop (host_count h) ds)

  -- ---- statements

  abbrev pub connect_bound : TextArgData → Option TextArgData →
      Option TextArgData → Option TextArgData → Denoted → BoundData
  connect_bound target name user password ds =
      let t = text_expr target ds in
      let n = text_option_expr name t.left in
      let u = text_option_expr user n.left in
      let w = text_option_expr password u.left in
      texts_bound (t.made ∷ u.made ∷ w.made ∷ n.made ∷ [])

  abbrev pub open_bound : ExprData → Option EmbData → InsData → Denoted → Denoted → BoundData
  open_bound connection d is own cursors =
      lists_bound (sent_from 1 (cursor_parts d) cursors) connection
      ((each_of part_places (cursor_parts d) cursors).made ++ (ins_places is own).made) []

  -- a statement behind its connection; `d` is the DECLARE of the cursor that it opens, and `cursors` what the variables of this denote
  abbrev pub kind_bound : EmbData → Option EmbData → ExprData → Denoted → Denoted → BoundData
  kind_bound e d at ds cursors = elim e.kind [
    | connect target name user password ↦ connect_bound target name user password ds
    | set_connection name ↦ texts_bound ((text_expr name ds).made ∷ [])
    | disconnect name ↦ texts_bound ((text_expr name ds).made ∷ [])
    | autocommit on ↦ texts_bound (at ∷ [])
    | trans text ↦ texts_bound (at ∷ [])
    | server_text parts os ↦
        lists_bound (sent_from 1 parts ds) at (each_of part_places parts ds).made
        (outs_places os (each_of part_places parts ds).left).made
    | declare_cursor cursor parts prepared ↦ texts_bound []
    | open_cursor cursor is ↦ open_bound at d is ds cursors
    | execute_immediate text ↦ texts_bound (at ∷ (text_expr text ds).made ∷ [])
    | prepare name text ↦ texts_bound (at ∷ (text_expr text ds).made ∷ [])
    | execute name is os ↦
        lists_bound [] at (ins_places is ds).made (outs_places os (ins_places is ds).left).made
    | deallocate name ↦ texts_bound (at ∷ [])
    | allocate_area area ↦ texts_bound ((text_expr area ds).made ∷ [])
    | free_area area ↦ texts_bound ((text_expr area ds).made ∷ [])
    | get_count area host ↦
        area_bound (text_expr area ds) [] (host_places host (text_expr area ds).left).made
    | get_items area index items ↦
        let i = input_places index (text_expr area ds).left in
        area_bound (text_expr area ds) i.made (each_of get_places items i.left).made
    | set_count area value ↦
        area_bound (text_expr area ds) (input_places value (text_expr area ds).left).made []
    | set_items area index items ↦
        let i = input_places index (text_expr area ds).left in
        area_bound (text_expr area ds) (i.made ++ (each_of set_places items i.left).made) []
    | whenever cond act ↦ texts_bound []
    | include_sqlca ↦ texts_bound []
  ]

  abbrev pub statement_bound : EmbData → Option EmbData → Denoted → BoundData
  statement_bound e d ds = kind_bound e d (text_option_expr e.at ds).made
      (text_option_expr e.at ds).left (cursor_part e ds)

-- ---- the answer

abbrev pub program_of : TypedData → ProgramData
program_of t =
    record {
      structs = t.structs;
      names = t.names;
      hosts = t.hosts;
      functions = functions_of t.unit;
    }

-- all faults of the statement of this number
abbrev pub faults_of : TypedData → ℕ → EmbData → List FaultKind
faults_of t n e = uses_faults (program_of t) (uses_of e) (row_at t.denoted n)
    ++ (opening_faults t.unit.embs t.denoted n e ++ declaring_faults t.unit.embs n e)

-- They stand at one place, that of the statement.
abbrev pub violation_at : ℕ → EmbData → FaultKind → Violation
violation_at n e kind = record { place = n; stop = Refused kind e.line }

abbrev pub violations_at : TypedData → ℕ → EmbData → List Violation
violations_at t n e = map (violation_at n e) (faults_of t n e)

abbrev pub answer_by : BoundData → Option Stop → Result BoundData Stop
answer_by b None = Ok b
answer_by b (Some stop) = Err stop

-- the statement of this number with its places, or the fault of the lowest number
abbrev pub bound_answer : TypedData → ℕ → EmbData → Result BoundData Stop
bound_answer t n e =
    answer_by
    (statement_bound (program_of t) e (declare_opened t.unit.embs n e) (row_at t.denoted n))
    (stop_at (first_of (violations_at t n e)))
