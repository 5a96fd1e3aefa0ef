-- Statements with their lists, each by its parts.
use Rattle.std.specs.Prelude.{List, [], ◌++◌, drop, Option}
use Rattle.ec_ctypes.specs.declared.embedded.emb.Item.{Item}
use Rattle.ec_ctypes.specs.trees.Checked.{BoundData}
use Rattle.ec_ctypes.specs.trees.Embedded.{HostData, TextArgData, InputData, InsData, OutsData, PartData}
use Rattle.ec_ctypes.specs.trees.Exprs.{ExprData}
use Rattle.ec_typing_defs.specs.statement_parts.References.{of_text_option, of_ins}
use Rattle.ec_host_defs.specs.Bound.{lists_bound, area_bound, sent_from, each_of, part_places, ins_places, outs_places, input_places, host_places, get_places, set_places, text_expr}
use Rattle.ec_host_defs.specs.Programs.{ProgramData, Denoted}
use Rattle.ec_params.specs.Naming.{names_among}

-- what is left behind the names of an OPEN
abbrev pub behind_open : Option TextArgData → InsData → Denoted → Denoted
behind_open at is ds = drop (names_among (of_text_option at ++ of_ins is)) ds

module _ (p : ProgramData) where
  abbrev pub server_bound : List PartData → OutsData → ExprData → Denoted → BoundData
  server_bound parts os at ds =
      lists_bound (sent_from p 1 parts ds) at (each_of (part_places p) parts ds).made
      (outs_places p os (each_of (part_places p) parts ds).left).made

  abbrev pub open_bound : ExprData → List PartData → InsData → Denoted → Denoted → BoundData
  open_bound at parts is ds cursors = lists_bound (sent_from p 1 parts cursors) at
      ((each_of (part_places p) parts cursors).made ++ (ins_places p is ds).made) []

  abbrev pub execute_bound : InsData → OutsData → ExprData → Denoted → BoundData
  execute_bound is os at ds =
      lists_bound [] at (ins_places p is ds).made (outs_places p os (ins_places p is ds).left).made

  abbrev pub get_count_bound : TextArgData → HostData → Denoted → BoundData
  get_count_bound area host ds =
      area_bound (text_expr p area ds) [] (host_places p host (text_expr p area ds).left).made

  abbrev pub set_count_bound : TextArgData → InputData → Denoted → BoundData
  set_count_bound area value ds =
      area_bound (text_expr p area ds) (input_places p value (text_expr p area ds).left).made []

  abbrev pub get_items_bound : TextArgData → InputData →
      List (Item × HostData) → Denoted → BoundData
  get_items_bound area index items ds =
      let i = input_places p index (text_expr p area ds).left in
      area_bound (text_expr p area ds) i.made (each_of (get_places p) items i.left).made

  abbrev pub set_items_bound : TextArgData → InputData →
      List (Item × InputData) → Denoted → BoundData
  set_items_bound area index items ds =
      let i = input_places p index (text_expr p area ds).left in
      area_bound (text_expr p area ds) (i.made ++ (each_of (set_places p) items i.left).made) []
