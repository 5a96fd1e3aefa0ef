-- Actions whose arguments are names with indexes and members, and constants, as the statements of a source are read (PostgreSQL manual, "Setting Callbacks").
use Rattle.std.specs.Prelude.{List, Option, Some, None}
use Rattle.ec_ctypes.specs.declared.embedded.emb.Cond.{Cond}
use Rattle.ec_ctypes.specs.trees.Embedded.{ActionData, call_action, EmbData}
use Rattle.ec_ctypes.specs.trees.Exprs.{ExprData, integer, character, string, identifier, index, member, arrow, ExprList, no_exprs, exprs}
use Rattle.ec_typing_defs.specs.statement_parts.Handlers.{handler}

-- It declares nothing, and has no line of its own
abbrev pub IsPlain : ExprData → Type 0
IsPlain (integer n t) = Unit {0}
IsPlain (character c) = Unit {0}
IsPlain (string s) = Unit {0}
IsPlain (identifier x) = Unit {0}
IsPlain (index a b) = IsPlain a × IsPlain b
IsPlain (member e m) = IsPlain e
IsPlain (arrow e m) = IsPlain e
IsPlain _ = ⊥

abbrev pub ArePlain : ExprList → Type 0
ArePlain no_exprs = Unit {0}
ArePlain (exprs e es) = IsPlain e × ArePlain es

abbrev pub IsPlainAction : ActionData → Type 0
IsPlainAction (call_action f es) = ArePlain es
IsPlainAction _ = Unit {0}

abbrev pub IsPlainOption : Option ActionData → Type 0
IsPlainOption None = Unit {0}
IsPlainOption (Some a) = IsPlainAction a

-- those that hold at the statement
abbrev pub HasPlainActions : List EmbData → EmbData → Type 0
HasPlainActions es e = (c : Cond) → IsPlainOption (handler es e.place c)
