-- How the statements of a source are read: their references are names with their suffixes, the arguments of the actions that hold at them are so or constants, and what is stored goes somewhere.
use Rattle.std.specs.Prelude.{◌≡◌, ℕ, List, Some, None, Ok, slice_get}
use Rattle.ec_ctypes.specs.trees.Embedded.{declare_cursor, EmbData}
use Rattle.ec_ctypes.specs.trees.Units.{UnitData}
use Rattle.ec_language.specs.Letters.{Text}
use Rattle.ec_phases_defs.specs.Sources.{ReadsTree}
use Rattle.ec_typing_defs.specs.statement_parts.References.{references}
use Rattle.ec_sim_program_laws.specs.directive.References.{MakeNothing}
use Rattle.ec_sim_host_laws.specs.pointer.Pointers.{OutputsAreSome, ItemsAreSet}
use Rattle.ec_sim_host_laws.specs.reference.Found.{AreReferences}
use Rattle.ec_sim_world_laws.specs.test.Plain.{HasPlainActions}

-- a cursor is declared without a connection
abbrev pub IsAlone : EmbData → Type 0
IsAlone e = elim e.kind [
  | declare_cursor cursor parts prepared ↦ e.at ≡ None
  | _ ↦ Unit {0}
]

-- a statement of a program with these
pub record IsRead (es : List EmbData) (e : EmbData) : Type 0 where
  pub are_references : AreReferences (references e)
  pub make_nothing : MakeNothing (references e)
  pub actions : HasPlainActions es e
  pub outputs : OutputsAreSome e
  pub alone : IsAlone e
  pub items : ItemsAreSet e

abbrev pub AllAreRead : List EmbData → Type 0
AllAreRead es = (n : ℕ) (e : EmbData) → slice_get es n ≡ Some e → IsRead es e

abbrev pub StatementsAreRead : Type 0
StatementsAreRead = (text : Text) (u : UnitData) → ReadsTree text (Ok u) → AllAreRead u.embs
