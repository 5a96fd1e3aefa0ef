-- How a source is read, one phase after the other: pieces, tokens, syntax, embedded statements, declare sections, checks, hosts. The first phase that refuses it decides.
use Rattle.std.specs.Prelude.{◌≡◌, ◌≤◌, ℕ, suc, true, false, List, [], ◌∷◌, length, Result, Ok, Err}
use Rattle.ec_base.specs.declared.stop.Stop.{Stop}
use Rattle.ec_ctypes.specs.declared.text.piece.Piece.{Piece}
use Rattle.ec_ctypes.specs.trees.Tokens.{TokenData}
use Rattle.ec_ctypes.specs.trees.Embedded.{EmbData}
use Rattle.ec_ctypes.specs.trees.Checked.{TypedData, BoundData}
use Rattle.ec_ctypes.specs.trees.Units.{UnitData}
use Rattle.ec_language.specs.First.{Reads, max_text}
use Rattle.ec_language.specs.Letters.{Text}
use Rattle.ec_language.specs.Pieces.{Pieces}
use Rattle.ec_language.specs.Syntax.{TreeOrStop}
use Rattle.ec_language.specs.Tokens.{Tokens}
use Rattle.ec_embedded.specs.Answers.{StatementOrStop}
use Rattle.ec_host_defs.specs.sections.Answers.{hosts_answer}
use Rattle.ec_typing_defs.specs.statement_parts.Handlers.{marks_in}
use Rattle.ec_typing_defs.specs.Answers.{check_answer}
use Rattle.ec_whenever.specs.Tables.{table_of}
use Rattle.ec_host_defs.specs.Bound.{bound_answer}
use Rattle.ec_host_defs.specs.Statements.{is_statement, statement_places, with_statement, with_statements}

-- ---- embedded statements

-- The statements of pieces, whose tokens have these places; or why the first that is none is none.
pub data ReadsStatements : List Piece → List ℕ → Result (List EmbData) Stop → Type 0 where
  end : (ns : List ℕ) → ReadsStatements [] ns (Ok [])
  other : (p : Piece) (ps : List Piece) (ns : List ℕ) (answer : Result (List EmbData) Stop)
      → is_statement p.kind ≡ false → ReadsStatements ps ns answer
      → ReadsStatements (p ∷ ps) ns answer
  stops : (p : Piece) (ps : List Piece) (n : ℕ) (ns : List ℕ) (stop : Stop)
      → is_statement p.kind ≡ true → StatementOrStop p n (Err stop)
      → ReadsStatements (p ∷ ps) (n ∷ ns) (Err stop)
  statement : (p : Piece) (ps : List Piece) (n : ℕ) (ns : List ℕ) (e : EmbData)
      (others answer : Result (List EmbData) Stop)
      → is_statement p.kind ≡ true → StatementOrStop p n (Ok e) → ReadsStatements ps ns others
      → answer ≡ with_statement (Ok e) others
      → ReadsStatements (p ∷ ps) (n ∷ ns) answer

-- The tree of a source, with its embedded statements, or why it has none.
pub data ReadsTree (text : Text) : Result UnitData Stop → Type 0 where
  refused : (stop : Stop) → Reads false text (Err stop) → ReadsTree text (Err stop)
  statements : (pieces : List Piece) (ts : List TokenData) (u : UnitData)
      (es : Result (List EmbData) Stop) (answer : Result UnitData Stop)
      → length text ≤ max_text → Pieces text pieces → Tokens false pieces ts → TreeOrStop ts (Ok u)
      → ReadsStatements pieces (statement_places ts) es → answer ≡ with_statements u es
      → ReadsTree text answer

-- ---- sections and checks

abbrev pub checked_with : UnitData → Result (List ℕ) Stop → Result TypedData Stop
checked_with u (Ok hosts) = check_answer false u hosts (table_of (marks_in u.embs))
checked_with u (Err stop) = Err stop

-- A tree with the types of its declarations, or the first fault of its sections, or of its checks.
abbrev pub checked_tree : Result UnitData Stop → Result TypedData Stop
checked_tree (Ok u) = checked_with u (hosts_answer u)
checked_tree (Err stop) = Err stop

-- A source that is checked, or why it is refused.
abbrev pub ReadsChecked : Text → Result TypedData Stop → Type 0
ReadsChecked text answer = (tree : Result UnitData Stop)
    × ReadsTree text tree × (answer ≡ checked_tree tree)

-- ---- hosts

abbrev pub with_bound : Result BoundData Stop →
    Result (List BoundData) Stop → Result (List BoundData) Stop
with_bound (Ok b) (Ok bs) = Ok (b ∷ bs)
with_bound (Ok b) (Err stop) = Err stop
with_bound (Err stop) bs = Err stop

-- The statements, the first of which has this number, with their hosts as places; or the fault of the first that has one.
abbrev pub bound_from : TypedData → ℕ → List EmbData → Result (List BoundData) Stop
bound_from t n [] = Ok []
bound_from t n (e ∷ es) = with_bound (bound_answer t n e) (bound_from t (suc n) es)

-- a program, and what is bound for its statements
pub record BoundProgram : Type 0 where
  pub program : TypedData
  pub bounds : List BoundData

abbrev pub program_with : TypedData → Result (List BoundData) Stop → Result BoundProgram Stop
program_with t (Ok bs) = Ok (record { program = t; bounds = bs })
program_with t (Err stop) = Err stop

abbrev pub bound_program : Result TypedData Stop → Result BoundProgram Stop
bound_program (Ok t) = program_with t (bound_from t 0 t.unit.embs)
bound_program (Err stop) = Err stop

-- A source that is accepted, with what is bound for its statements, or what it is refused for.
abbrev pub ReadsSource : Text → Result BoundProgram Stop → Type 0
ReadsSource text answer = (checked : Result TypedData Stop)
    × ReadsChecked text checked × (answer ≡ bound_program checked)
