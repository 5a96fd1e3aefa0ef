-- The hosts of an embedded statement, in the order of its tree, with what each of them is for.
use Rattle.std.specs.Prelude.{List, [], ◌∷◌, ◌++◌, Option, Some, None}
use Rattle.ec_ctypes.specs.declared.embedded.emb.Item.{Item}
use Rattle.ec_ctypes.specs.trees.Embedded.{HostData, TextArgData, word_arg, host_arg, host_with_indicator, InputData, host_input, const_input, InsData, listed_ins, area_ins, OutsData, no_outs, listed_outs, area_outs, PartData, bytes_part, host_part, EmbData, connect, set_connection, disconnect, autocommit, trans, server_text, declare_cursor, open_cursor, execute_immediate, prepare, execute, deallocate, allocate_area, free_area, get_count, get_items, set_count, set_items, whenever, include_sqlca}

pub data RoleData : Type 0 where
  -- a name or a text
  text_role : RoleData
  -- a value that is sent
  input_role : RoleData
  -- where an answer is stored
  output_role : RoleData
  -- an index or a count of a descriptor
  number_role : RoleData
  -- an item of a descriptor
  item_role : RoleData

abbrev pub UseData : Type 0
UseData = RoleData × HostData

abbrev pub Uses : Type 0
Uses = List UseData

abbrev pub text_uses : TextArgData → Uses
text_uses (word_arg w) = []
text_uses (host_arg e) = (text_role, record { value = e; indicator = None }) ∷ []
text_uses (host_with_indicator e i) = (text_role, record { value = e; indicator = Some i }) ∷ []

abbrev pub text_option_uses : Option TextArgData → Uses
text_option_uses None = []
text_option_uses (Some a) = text_uses a

abbrev pub input_uses : RoleData → InputData → Uses
input_uses role (host_input h) = (role, h) ∷ []
input_uses role (const_input b) = []

abbrev pub part_uses : PartData → Uses
part_uses (bytes_part b) = []
part_uses (host_part h) = (input_role, h) ∷ []

abbrev pub output_uses : HostData → Uses
output_uses h = (output_role, h) ∷ []

abbrev pub get_uses : Item × HostData → Uses
get_uses i = (item_role, i.1) ∷ []

abbrev pub set_uses : Item × InputData → Uses
set_uses i = input_uses item_role i.1

abbrev pub each_uses : {A : Type 0} → (A → Uses) → List A → Uses
each_uses f [] = []
each_uses f (x ∷ xs) = f x ++ each_uses f xs

abbrev pub ins_uses : InsData → Uses
ins_uses (listed_ins is) = each_uses (input_uses input_role) is
ins_uses (area_ins a) = text_uses a

abbrev pub outs_uses : OutsData → Uses
outs_uses no_outs = []
outs_uses (listed_outs hs) = each_uses output_uses hs
outs_uses (area_outs a) = text_uses a

abbrev pub kind_uses : EmbData → Uses
kind_uses e = elim e.kind [
  | connect target name user password ↦ text_uses target
      ++ (text_option_uses name ++ (text_option_uses user ++ text_option_uses password))
  | set_connection name ↦ text_uses name
  | disconnect name ↦ text_uses name
  | autocommit on ↦ []
  | trans text ↦ []
  | server_text parts os ↦ each_uses part_uses parts ++ outs_uses os
  | declare_cursor cursor parts prepared ↦ each_uses part_uses parts
  | open_cursor cursor is ↦ ins_uses is
  | execute_immediate text ↦ text_uses text
  | prepare name text ↦ text_uses text
  | execute name is os ↦ ins_uses is ++ outs_uses os
  | deallocate name ↦ []
  | allocate_area area ↦ text_uses area
  | free_area area ↦ text_uses area
  | get_count area host ↦ text_uses area ++ (number_role, host) ∷ []
  | get_items area at items ↦ text_uses area
      ++ (input_uses number_role at ++ each_uses get_uses items)
  | set_count area value ↦ text_uses area ++ input_uses number_role value
  | set_items area at items ↦ text_uses area
      ++ (input_uses number_role at ++ each_uses set_uses items)
  | whenever cond act ↦ []
  | include_sqlca ↦ []
]

abbrev pub uses_of : EmbData → Uses
uses_of e = text_option_uses e.at ++ kind_uses e
