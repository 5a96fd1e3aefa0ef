-- How written C is read, one phase after the other: pieces, tokens, syntax, declare sections, checks. The first phase that refuses it decides. What is embedded is refused with the tokens, and a VARCHAR where declare sections are looked for, since there are none.
use Rattle.std.specs.Prelude.{◌≡◌, ℕ, true, List, [], Result, Ok, Err}
use Rattle.ec_base.specs.declared.stop.Stop.{Stop}
use Rattle.ec_ctypes.specs.trees.Checked.{TypedData}
use Rattle.ec_ctypes.specs.trees.Units.{UnitData}
use Rattle.ec_language.specs.First.{Reads}
use Rattle.ec_language.specs.Letters.{Text}
use Rattle.ec_host_defs.specs.sections.Answers.{hosts_answer}
use Rattle.ec_typing_defs.specs.Answers.{check_answer}

-- the tree of written C, which has no embedded statements
abbrev pub plain : UnitData → UnitData
plain u = record u { embs = [] }

-- a tree that is checked as written C, whose declare sections have these hosts; or why it is refused
unfoldable pub checked_with : UnitData → Result (List ℕ) Stop → Result TypedData Stop
checked_with u (Ok hosts) = check_answer true u hosts []
checked_with u (Err stop) = Err stop

-- the first fault of declare sections, of which written C has none, or of the checks
unfoldable pub checked_plain : UnitData → Result TypedData Stop
checked_plain u = checked_with u (hosts_answer u)

unfoldable pub checked_written : Result UnitData Stop → Result TypedData Stop
checked_written (Ok u) = checked_plain (plain u)
checked_written (Err stop) = Err stop

-- Written C that is checked, or why it is refused.
pub record ReadsWritten (text : Text) (answer : Result TypedData Stop) : Type 0 where
  pub tree : Result UnitData Stop
  pub reads : Reads true text tree
  pub is : answer ≡ checked_written tree
