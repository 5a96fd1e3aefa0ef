-- An accepted source, and the laws of which its embedded statements are put together.
use Rattle.std.specs.Prelude.{◌≡◌, ℕ, true, false, List, [], Some, Ok, length, slice_get}
use Rattle.ec_ctypes.specs.trees.Checked.{TypedData, BoundData}
use Rattle.ec_ctypes.specs.trees.Embedded.{EmbData}
use Rattle.ec_ctypes.specs.trees.Units.{UnitData}
use Rattle.ec_written_laws.specs.bound.Numbers.{tops_numbers, numbers_from}
use Rattle.ec_expansion_defs.specs.Programs.{embedded}
use Rattle.ec_host_defs.specs.Faults.{row_at}
use Rattle.ec_language.specs.Letters.{Text}
use Rattle.ec_phases_defs.specs.Sources.{bound_from}
use Rattle.ec_host_defs.specs.sections.Declared.{functions_of}
use Rattle.ec_typing_defs.specs.statement_parts.Cursors.{declared_cursor}
use Rattle.ec_typing_defs.specs.statement_parts.Handlers.{marks_in}
use Rattle.ec_whenever.specs.Tables.{are_in_order, table_of}
use Rattle.ec_typing_defs.specs.Answers.{checked, violations, typed_of}
use Rattle.ec_sim_world_laws.specs.test.Laws.{TestsAreResolved, AreaIsKnown}
use Rattle.ec_sim_statement_laws.specs.expression.Laws.{ExpressionsAreAlike}
use Rattle.ec_sim_world_laws.specs.known.Laws.{EmbeddedStatementsKeep}
use Rattle.ec_sim_host_laws.specs.table.Tables.{AreSound}
use Rattle.ec_sim_host_laws.specs.reference.Found.{ReferencesAreFound, ReferencesAreThere, KnownNamesAreDeclared}
use Rattle.ec_sim_host_laws.specs.reference.Rows.{IndexesAreTyped}
use Rattle.ec_sim_host_laws.specs.host.Hosts.{StatementsLead, PartsLead}
use Rattle.ec_sim_host_laws.specs.fit.Fits.{HostsFitTheirCalls}
use Rattle.ec_sim_host_laws.specs.pointer.Pointers.{CallsStand, StatementsHaveTargets, RulesAreKept}
use Rattle.ec_sim_host_laws.specs.cursor.Cursors.{are_no_functions, ReferencesAreFoundAgain}
use Rattle.ec_sim_program_laws.specs.shape.Shapes.{AllAreRead}
use Rattle.ec_sim_program_laws.specs.program.Programs.{written_of, whole_of, blocks_in}
use Rattle.ec_sim_program_laws.specs.program.Embedded.{EmbeddedAreCopied}

-- no name in the references of a DECLARE stands for a function
abbrev pub CursorsHaveNoFunctions : TypedData → Type 0
CursorsHaveNoFunctions t = (n : ℕ) (e : EmbData) → slice_get t.unit.embs n ≡ Some e
    → (cursor : Text) → declared_cursor e ≡ Some cursor
    → are_no_functions (functions_of t.unit) (row_at t.denoted n) ≡ true

-- a source that is accepted, with what is bound for its statements
pub record IsAccepted (t : TypedData) (bounds : List BoundData) : Type 0 where
  pub is : t ≡ typed_of t.unit t.hosts t.handlers (checked false t.unit).world
  pub handlers : t.handlers ≡ table_of (marks_in t.unit.embs)
  pub without_violation : violations false t.unit ≡ []
  pub bound : bound_from t 0 t.unit.embs ≡ Ok bounds
  pub numbers : tops_numbers t.unit.tops [] ≡ numbers_from 0 (length t.unit.embs)
  pub read : AllAreRead t.unit.embs
  pub indexes : IndexesAreTyped t
  pub cursors : CursorsHaveNoFunctions t
  pub in_order : are_in_order t.unit.embs ≡ true
  pub sound : AreSound (checked false t.unit).world

-- what is taken of the parts of embedded statements
pub record StatementLaws : Type 0 where
  pub expressions : ExpressionsAreAlike
  pub walk : (u : UnitData) → EmbeddedStatementsKeep u
  pub references : ReferencesAreFound
  pub there : ReferencesAreThere
  pub names : KnownNamesAreDeclared
  pub again : ReferencesAreFoundAgain
  pub lead : StatementsLead
  pub parts : PartsLead
  pub stand : CallsStand
  pub targets : StatementsHaveTargets
  pub rules : RulesAreKept
  pub fit : HostsFitTheirCalls
  pub tests : TestsAreResolved
  pub area : AreaIsKnown

-- Each embedded statement of an accepted source is resolved to its block, and of its directives nothing is left
abbrev pub StatementsAreCopied : Type 0
StatementsAreCopied = StatementLaws → (t : TypedData) (bounds : List BoundData)
    → IsAccepted t bounds
    → EmbeddedAreCopied (whole_of
    (blocks_in t (written_of (embedded t.handlers t.unit.embs bounds) t.unit)) t.unit
    (written_of (embedded t.handlers t.unit.embs bounds) t.unit)) t.unit.embs
    (embedded t.handlers t.unit.embs bounds)
