-- Whole programs, and what is written of them.
use Rattle.std.specs.Prelude.{◌≡◌, ℕ, true, false, List, [], ◌++◌, Option, map}
use Rattle.ec_ctypes.specs.trees.Checked.{TypedData}
use Rattle.ec_ctypes.specs.trees.Stmts.{StmtKindData}
use Rattle.ec_ctypes.specs.trees.Units.{UnitData}
use Rattle.ec_written_laws.specs.bound.Numbers.{tops_numbers}
use Rattle.ec_expansion_defs.specs.Programs.{unit_of}
use Rattle.ec_expansion_defs.specs.Statements.{written_tops}
use Rattle.ec_typing_defs.specs.Answers.{checked, violations}
use Rattle.ec_typing_defs.specs.Worlds.{World}
use Rattle.ec_meaning_defs.specs.resolved.Resolved.{Stm}
use Rattle.ec_resolving_defs.specs.Programs.{walked, resolve, embedded_statements_of, library_calls_of}
use Rattle.ec_resolving_defs.specs.Storage.{LibraryCall, StatementForm}
use Rattle.ec_sim_statement_laws.specs.expression.Worlds.{SameStructs}
use Rattle.ec_sim_statement_laws.specs.statement.Copies.{IsProgramCopy}
use Rattle.ec_sim_statement_laws.specs.statement.Whole.{IsWrittenAt}
use Rattle.ec_sim_world_laws.specs.known.Known.{AreFound}
use Rattle.ec_sim_program_laws.specs.program.Copied.{Whole}

-- the program that is written for one, by what is written in the place of each embedded statement
abbrev pub written_of : (ℕ → Option StmtKindData) → UnitData → UnitData
written_of embedded u = unit_of (written_tops embedded u.tops)

-- both as they are known at the end, by what may stand in the place of an embedded statement
abbrev pub whole_of : (ℕ → ℕ → Stm → Type 0) → UnitData → UnitData → Whole
whole_of stands u v = record {
  Stands = stands;
  forms = embedded_statements_of false u;
  calls = library_calls_of true v;
  numbers = tops_numbers u.tops [];
  source = u;
  world = (checked false u).world;
}

-- Each embedded statement of a program was met on the walk through it, in the order of the text: its references are those that it had where it stood
pub record AreAllFound (u : UnitData) : Type 0 where
  pub in_order : map (λ f. f.number) (walked false u).storage.statements ++ []
      ≡ tops_numbers u.tops []
  pub found : AreFound u (walked false u).storage (walked false u).world
      (walked false u).storage.statements (walked false u).world.denoted

-- Nothing is wrong with what is written, it is resolved to a copy, and each embedded statement of the source was found. The same structs are known behind both
pub record IsWrittenCopy (stands : ℕ → ℕ → Stm → Type 0) (u v : UnitData) : Type 0 where
  pub without_fault : violations true v ≡ []
  pub copy : IsProgramCopy stands (resolve false u) (resolve true v)
  pub found : AreAllFound u
  pub structs : SameStructs (checked false u).world.structs (checked true v).world.structs

-- where the block of an embedded statement stands, with these forms and calls
abbrev pub blocks_of : TypedData → List StatementForm → List LibraryCall → ℕ → ℕ → Stm → Type 0
blocks_of t forms calls line n y = IsWrittenAt t forms calls (λ _. y) line n

abbrev pub whole_by : TypedData → List StatementForm → List LibraryCall → List ℕ → World → Whole
whole_by t forms calls numbers world = record {
  Stands = blocks_of t forms calls;
  forms = forms;
  calls = calls;
  numbers = numbers;
  source = t.unit;
  world = world;
}

-- of a program with its types
abbrev pub blocks_in : TypedData → UnitData → ℕ → ℕ → Stm → Type 0
blocks_in t v = blocks_of t (embedded_statements_of false t.unit) (library_calls_of true v)
