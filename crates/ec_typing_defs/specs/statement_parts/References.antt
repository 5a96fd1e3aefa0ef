-- The references to variables that stand in an embedded statement, in the order of its tree.
use Rattle.std.specs.Prelude.{Bool, true, false, List, [], ◌∷◌, ◌++◌, Option, Some, None}
use Rattle.ec_ctypes.specs.declared.embedded.emb.Item.{Item}
use Rattle.ec_ctypes.specs.trees.Exprs.{ExprData, identifier, index, member, arrow}
use Rattle.ec_ctypes.specs.trees.Embedded.{HostData, TextArgData, word_arg, host_arg, host_with_indicator, InputData, host_input, const_input, InsData, listed_ins, area_ins, OutsData, no_outs, listed_outs, area_outs, PartData, bytes_part, host_part, EmbData, connect, set_connection, disconnect, autocommit, trans, server_text, declare_cursor, open_cursor, execute_immediate, prepare, execute, deallocate, allocate_area, free_area, get_count, get_items, set_count, set_items, whenever, include_sqlca}
use Rattle.ec_language.specs.Letters.{Text}

-- a reference, and whether it is that of a host whose value is sent or stored
pub record ReferenceData : Type 0 where
  pub value : ExprData
  pub is_host : Bool

abbrev pub References : Type 0
References = List ReferenceData

-- ---- the parts of statements

-- an indicator, or a name or text
abbrev pub beside : ExprData → ReferenceData
beside e = record { value = e; is_host = false }

abbrev pub of_option : Option ExprData → References
of_option None = []
of_option (Some e) = beside e ∷ []

abbrev pub of_host : HostData → References
of_host h = record { value = h.value; is_host = true } ∷ of_option h.indicator

abbrev pub of_text : TextArgData → References
of_text (word_arg w) = []
of_text (host_arg e) = beside e ∷ []
of_text (host_with_indicator e i) = beside e ∷ beside i ∷ []

abbrev pub of_text_option : Option TextArgData → References
of_text_option None = []
of_text_option (Some a) = of_text a

abbrev pub of_input : InputData → References
of_input (host_input h) = of_host h
of_input (const_input b) = []

abbrev pub of_part : PartData → References
of_part (bytes_part b) = []
of_part (host_part h) = of_host h

abbrev pub of_get_item : Item × HostData → References
of_get_item i = of_host i.1

abbrev pub of_set_item : Item × InputData → References
of_set_item i = of_input i.1

-- those of each, one after the other
abbrev pub of_all : {A : Type 0} → (A → References) → List A → References
of_all f [] = []
of_all f (x ∷ xs) = f x ++ of_all f xs

abbrev pub of_ins : InsData → References
of_ins (listed_ins is) = of_all of_input is
of_ins (area_ins a) = of_text a

abbrev pub of_outs : OutsData → References
of_outs no_outs = []
of_outs (listed_outs hs) = of_all of_host hs
of_outs (area_outs a) = of_text a

abbrev pub of_kind : EmbData → References
of_kind e = elim e.kind [
  | connect target name user password ↦ of_text target
      ++ (of_text_option name ++ (of_text_option user ++ of_text_option password))
  | set_connection name ↦ of_text name
  | disconnect name ↦ of_text name
  | autocommit on ↦ []
  | trans text ↦ []
  | server_text parts os ↦ of_all of_part parts ++ of_outs os
  | declare_cursor cursor parts prepared ↦ of_all of_part parts
  | open_cursor cursor is ↦ of_ins is
  | execute_immediate text ↦ of_text text
  | prepare name text ↦ of_text text
  | execute name is os ↦ of_ins is ++ of_outs os
  | deallocate name ↦ []
  | allocate_area area ↦ of_text area
  | free_area area ↦ of_text area
  | get_count area host ↦ of_text area ++ of_host host
  | get_items area at items ↦ of_text area ++ (of_input at ++ of_all of_get_item items)
  | set_count area value ↦ of_text area ++ of_input value
  | set_items area at items ↦ of_text area ++ (of_input at ++ of_all of_set_item items)
  | whenever cond act ↦ []
  | include_sqlca ↦ []
]

-- the references of a statement: first that to the connection
abbrev pub references : EmbData → References
references e = of_text_option e.at ++ of_kind e

-- ---- the variables in them

-- the names in a reference, from left to right: the variable, and those that are its indexes
abbrev pub names_in : ExprData → List Text
names_in (identifier x) = x ∷ []
names_in (index a b) = names_in a ++ names_in b
names_in (member e m) = names_in e
names_in (arrow e m) = names_in e
names_in _ = []

abbrev pub all_names : References → List Text
all_names [] = []
all_names (r ∷ rs) = names_in r.value ++ all_names rs

-- the names in the references of a statement
abbrev pub names_of : EmbData → List Text
names_of e = all_names (references e)

abbrev pub names_of_option : Option EmbData → List Text
names_of_option None = []
names_of_option (Some e) = names_of e
