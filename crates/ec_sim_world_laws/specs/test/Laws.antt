-- The tests that are written behind a call, and the handlers of its statement.
use Rattle.std.specs.Prelude.{◌≡◌, ℕ, Bool, false, List, []}
use Rattle.ec_ctypes.specs.declared.embedded.emb.Cond.{Cond}
use Rattle.ec_ctypes.specs.trees.Checked.{MarkData}
use Rattle.ec_ctypes.specs.trees.Embedded.{EmbData}
use Rattle.ec_ctypes.specs.trees.Units.{UnitData}
use Rattle.ec_typing_defs.specs.statement_parts.Handlers.{is_directive, handler, action_among}
use Rattle.ec_typing_defs.specs.Embedded as checked
use Rattle.ec_typing_defs.specs.Programs.{start}
use Rattle.ec_typing_defs.specs.Statements as checked_statements
use Rattle.ec_typing_defs.specs.Statements.{Around}
use Rattle.ec_typing_defs.specs.Worlds.{Place, World, Out}
use Rattle.ec_expansion_defs.specs.Handlers.{tests}
use Rattle.ec_expansion_defs.specs.Statements.{listed_stmts}
use Rattle.ec_meaning_defs.specs.resolved.Resolved.{Stms}
use Rattle.ec_resolving_defs.specs.Agreement.{around_of}
use Rattle.ec_resolving_defs.specs.Embedded.{handlers_rule}
use Rattle.ec_resolving_defs.specs.Statements.{statements}
use Rattle.ec_resolving_defs.specs.Storage.{Storage, Reached, ActionForms}
use Rattle.ec_sim_statement_laws.specs.statement.Blocks.{any_calls_library}
use Rattle.ec_sim_statement_laws.specs.statement.Tests.{tests_stms}
use Rattle.ec_sim_statement_laws.specs.expression.Alike.{SameStorage, AddsNone}
use Rattle.ec_sim_statement_laws.specs.expression.Worlds.{AreAlike}
use Rattle.ec_sim_world_laws.specs.growth.Growth.{Grows}
use Rattle.ec_sim_world_laws.specs.test.Area.{KnowsArea}
use Rattle.ec_sim_world_laws.specs.test.Plain.{HasPlainActions}

-- What the checks and the resolved walk find of the handlers of a statement, and what they find of its tests on this line, from these storages: the tests are those of the actions, which call no library, with no fault, and behind them the same is known
pub record TestsFound (line : ℕ) (s t : Storage) (o p : Out (Unit {0}))
    (r : Reached ActionForms) (q : Reached Stms) : Type 0 where
  pub answer : q.answer ≡ tests_stms line r.answer
  pub silent : any_calls_library r.answer ≡ false
  pub worlds : AreAlike r.world q.world
  pub storages : SameStorage r.storage q.storage
  pub adds_none : AddsNone s r.storage
  pub adds_none_there : AddsNone t q.storage
  -- the walk finds what the checks find
  pub checked_world : r.world ≡ o.world
  pub checked_world_there : q.world ≡ p.world
  pub without_fault : p.found ≡ []

-- the table tells which actions hold at the statement
abbrev pub TellsActions : List MarkData → List EmbData → EmbData → Type 0
TellsActions table es e = (c : Cond) → action_among table e.place c ≡ handler es e.place c

-- The tests of a statement that is executed are resolved to those of its handlers, where nothing is wrong with these and the area is known
abbrev pub TestsAreResolved : Type 0
TestsAreResolved = (es : List EmbData) (table : List MarkData) (a : Around) (e : EmbData)
    (at : Place) (s t : Storage) (w v : World)
    → is_directive e ≡ false → TellsActions table es e → HasPlainActions es e
    → SameStorage s t → AreAlike w v → KnowsArea w
    → (checked.handlers_rule es a.in_loop a.labels at e w).found ≡ []
    → TestsFound e.line.0 s t (checked.handlers_rule es a.in_loop a.labels at e w)
    (checked_statements.statements a (listed_stmts (tests e.line (action_among table e.place))) v)
    (handlers_rule es a.labels at e s w)
    (statements (around_of a) (listed_stmts (tests e.line (action_among table e.place))) t v)

-- The area is known wherever the checks come to
abbrev pub AreaIsKnown : Type 0
AreaIsKnown = (written : Bool) (u : UnitData) (w : World) → Grows (start written u) w → KnowsArea w
