-- What a front of a table tells.
use Rattle.std.specs.Prelude.{true, false, List, Option, Some, None}
use Rattle.ec_ctypes.specs.declared.embedded.emb.Cond.{Cond}
use Rattle.ec_ctypes.specs.trees.Checked.{MarkData}
use Rattle.ec_ctypes.specs.trees.Embedded.{ActionData}
use Rattle.ec_typing_defs.specs.statement_parts.Handlers.{same_cond, last_of}

-- the action of a mark, if it is for the condition
abbrev pub action_for : Cond → Option MarkData → Option ActionData
action_for cond None = None
action_for cond (Some m) = elim (same_cond cond m.1) [ true ↦ Some m.2 | false ↦ None ]

-- that of the last mark
abbrev pub last_action : Cond → List MarkData → Option ActionData
last_action cond ms = action_for cond (last_of ms)
