-- The resolved forms of functions (ISO/IEC 9899:1999, 6.9.1) and programs (6.9).
use Rattle.std.specs.Prelude.{ℕ, ◌+◌, Bool, true, false, pos, ◌||◌, List, [], ◌∷◌, length, map, Option, Some, None, is_some, slice_get, codes, if◌then◌else◌}
use Rattle.ec_ctypes.specs.trees.Types.{TyData}
use Rattle.ec_ctypes.specs.trees.Exprs.{DeclData, decl}
use Rattle.ec_ctypes.specs.trees.Stmts.{StmtList}
use Rattle.ec_ctypes.specs.trees.Embedded.{EmbData}
use Rattle.ec_ctypes.specs.trees.Units.{ParamData, FuncData, TopData, include_top, directive_top, decl_top, func_top, mark_top, UnitData}
use Rattle.ec_language.specs.Letters.{Text, same_text}
use Rattle.ec_language.specs.First.{Violation}
use Rattle.ec_typing_defs.specs.Tables.{find}
use Rattle.ec_typing_defs.specs.Worlds.{Place, place, function as function_entry, EntryData, World, next_number, number_as, enter, leave as leave_scope, change}
use Rattle.ec_typing_defs.specs.Operands.{declared_type}
use Rattle.ec_typing_defs.specs.Statements.{type_or_void, labels_in_all}
use Rattle.ec_typing_defs.specs.Programs as checked
use Rattle.ec_typing_defs.specs.Programs.{is_done, defined_in, start}
use Rattle.ec_typing_defs.specs.Answers.{violations}
use Rattle.ec_memory_defs.specs.Memory.{ValueData, number, ScalarType, pointer_type, scalar_type}
use Rattle.ec_meaning_defs.specs.resolved.Programs.{Program}
use Rattle.ec_meaning_defs.specs.resolved.Resolved.{faulty, evaluate, Stms, no_stms, stms}
use Rattle.ec_resolving_defs.specs.Storage.{nowhere, LibraryCall, StatementForm, Storage, Reached, next_site, with_site, with_object_of, with_function, Resolving, ◌>>=◌, ◌>>◌, pure, checks, ask, stored, arrange, in_block}
use Rattle.ec_resolving_defs.specs.Operands.{place_in}
use Rattle.ec_resolving_defs.specs.Embedded.{embedded_rule}
use Rattle.ec_resolving_defs.specs.Expressions.{base, lengths}
use Rattle.ec_resolving_defs.specs.Statements.{Around, declaration, declarators_in, objects_in_all, statements, size_of_type}

-- ---- functions

-- a parameter is an object of its function, declared before those of its body
abbrev pub param : Place → Bool → ParamData → Resolving (Option TyData)
param at defined p = do
  b ← base at p.base
  sizes ← lengths at p.dims
  t ← checks (checked.param_type at b p.stars sizes)
  k ← ask next_number
  checks (checked.declare_param at defined p.name k t)
  checks (number_as (type_or_void t))
  site ← stored (next_site false)
  arrange (with_site site)
  size ← ask (λ w. size_of_type w t)
  arrange (with_object_of size)
  pure t

abbrev pub params : Place → Bool → List ParamData → Resolving (List (Option TyData))
params at defined [] = pure []
params at defined (p ∷ ps) = do
  t ← param at defined p
  ts ← params at defined ps
  pure (t ∷ ts)

-- the sizes of the objects of the body's block, and its statements
abbrev pub Body : Type 0
Body = Option (List ℕ × Stms)

-- what stands round the statements of a body
abbrev pub in_body : List EmbData → Option TyData → StmtList → Around
in_body es r ss = record { embs = es; labels = labels_in_all ss []; result = r }

abbrev pub body_rule : List EmbData → Option TyData → Option StmtList → Resolving Body
body_rule es r None = pure None
body_rule es r (Some ss) = do
  checks (change (λ w. record w { labels = [] }))
  b ← in_block (objects_in_all ss) (statements (in_body es r ss) ss)
  pure (Some b)

-- a parameter's type is a scalar, unless it has a fault
abbrev pub kind_or_pointer : Option ScalarType → ScalarType
kind_or_pointer (Some k) = k
kind_or_pointer None = pointer_type

abbrev pub parameter_kind : Option TyData → ScalarType
parameter_kind None = pointer_type
parameter_kind (Some t) = kind_or_pointer (scalar_type t)

-- `main` gives 0 where it ends without `return` (5.1.2.2.3)
abbrev pub value_at_end : Text → Option ValueData
value_at_end name = if same_text name (codes "main") then Some (number (pos 0)) else None

abbrev pub function_made : Text → List (Option TyData) → Body → Resolving (Unit {0})
function_made name ps None = pure tt
function_made name ps (Some b) =
    arrange (with_function (record {
      parameters = map parameter_kind ps;
      objects = b.0;
      body = b.1;
      otherwise = value_at_end name;
    }))

-- its parameters and its body
abbrev pub in_function : List EmbData → Place → FuncData → ℕ → Bool → Option TyData
    → Resolving (Unit {0})
in_function es at f k done r = do
  ps ← params at (is_some f.body) f.params
  checks (checked.know_function f.name (function_entry k done r (Some ps)))
  b ← body_rule es r f.body
  function_made f.name ps b

abbrev pub function_rule : List EmbData → FuncData → Resolving (Unit {0})
function_rule es f = do
  at ← checks (place f.line)
  b ← base at f.base
  r ← checks (checked.result_rule at (declared_type b f.stars []))
  k ← ask next_number
  before ← ask (λ w. find f.name w.here.names)
  checks (checked.begin_function f.name (function_entry k (is_done_or before f) r None))
  checks (number_as (type_or_void r))
  arrange (with_site nowhere)
  checks enter
  in_block (length f.params) (in_function es at f k (is_done_or before f) r)
  checks leave_scope
  where
    is_done_or : Option EntryData → FuncData → Bool
    is_done_or before g = is_done before || is_some g.body

-- ---- programs

-- a directive outside of functions
abbrev pub directive_rule : List EmbData → ℕ → Option EmbData → Resolving (Unit {0})
directive_rule es n None = pure tt
directive_rule es n (Some e) = do
  at ← checks (place e.line)
  embedded_rule es [] at n e

abbrev pub top_rule : List EmbData → TopData → Resolving (Unit {0})
top_rule es (include_top bytes) = pure tt
top_rule es (directive_top n) = directive_rule es n (slice_get es n)
top_rule es (decl_top d) = declaration true d >> pure tt
top_rule es (func_top f) = function_rule es f
top_rule es (mark_top opens line) = pure tt

abbrev pub tops_rule : List EmbData → List TopData → Resolving (Unit {0})
tops_rule es [] = pure tt
tops_rule es (t ∷ ts) = top_rule es t >> tops_rule es ts

-- how many globals there are
abbrev pub globals_of_decl : DeclData → ℕ
globals_of_decl (decl b items section line) = declarators_in items

abbrev pub globals_in : List TopData → ℕ
globals_in [] = 0
globals_in (decl_top d ∷ ts) = globals_of_decl d + globals_in ts
globals_in (t ∷ ts) = globals_in ts

abbrev pub no_storage : UnitData → Storage
no_storage u = record {
  defined = defined_in u.tops [];
  before_literals = globals_in u.tops + 1;
  sites = [];
  globals = [];
  literals = [];
  calls = [];
  functions = [];
  statements = [];
  block = record { below = 0; count = 0; sizes = [] };
}

abbrev pub program_by : Storage → Program
program_by s = record {
  globals = s.globals;
  literals = s.literals;
  functions = s.functions;
  main = place_in (codes "main") s.defined;
}

-- a program whatever the checks say of it, as written C or not
abbrev pub walked : Bool → UnitData → Reached (Unit {0})
walked written u = tops_rule u.embs u.tops (no_storage u) (start written u)

-- The one form that stands for every program with a violation: its run is stuck at once
abbrev pub stuck_program : Program
stuck_program = record {
  globals = [];
  literals = [];
  functions = record {
    parameters = [];
    objects = [];
    body = stms (evaluate faulty) no_stms;
    otherwise = None;
  } ∷ [];
  main = 0;
}

abbrev pub resolved_by : List Violation → Program → Program
resolved_by [] p = p
resolved_by (v ∷ vs) p = stuck_program

-- What is left of a program
abbrev pub resolve : Bool → UnitData → Program
resolve written u =
    resolved_by (violations written u) (program_by (walked written u).storage)

-- the embedded statements of it, in the order of the text
abbrev pub embedded_statements_of : Bool → UnitData → List StatementForm
embedded_statements_of written u = (walked written u).storage.statements

-- the calls of the library in it, by their numbers
abbrev pub library_calls_of : Bool → UnitData → List LibraryCall
library_calls_of written u = (walked written u).storage.calls
