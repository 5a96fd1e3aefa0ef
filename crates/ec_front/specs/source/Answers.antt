-- What the phases answer. Want of memory is the one answer that says nothing of the source.
use Rattle.std.specs.Prelude.{◌≡◌, ◌+◌, ◌<◌, ◌^◌, ⊤, ℕ, false, List, [], ◌∷◌, ◌++◌, map, length, Result, Ok, Err}
use Rattle.ec_base.specs.declared.stop.Stop.{Stop}
use Rattle.ec_base.specs.declared.stop.Stop.TheVariants.{Refused, Limit, OutOfMemory}
use Rattle.ec_ctypes.specs.declared.text.piece.Piece.{Piece}
use Rattle.ec_ctypes.specs.declared.embedded.emb.Emb.{Emb}
use Rattle.ec_ctypes.specs.declared.tree.unit.Unit.{Unit as Program}
use Rattle.ec_ctypes.specs.declared.checked.typed.Typed.{Typed}
use Rattle.ec_ctypes.specs.trees.Embedded.{EmbData}
use Rattle.ec_ctypes.specs.trees.Tokens.{TokenData}
use Rattle.ec_ctypes.specs.trees.Units.{UnitData}
use Rattle.ec_ctypes.specs.trees.Checked.{TypedData}
use Rattle.ec_ctypes.specs.views.Embedded.{emb_view}
use Rattle.ec_ctypes.specs.views.Units.{unit_view}
use Rattle.ec_ctypes.specs.views.Checked.{typed_view}
use Rattle.ec_language.specs.Letters.{Text}
use Rattle.ec_language.specs.Syntax.{TreeOrStop}
use Rattle.ec_language.specs.Tokens.{Tokens, TokensOrStop}
use Rattle.ec_embedded.specs.Answers.{StatementOrStop}
use Rattle.ec_host_defs.specs.Statements.{statement_places, with_statements}
use Rattle.ec_phases_defs.specs.Sources.{ReadsStatements, ReadsTree, ReadsChecked}

-- the answer has P, with its value by its view, unless there was no memory left
abbrev pub Tells : {A B : Type 0} → (A → B) → (Result B Stop → Type 0) → Result A Stop → Type 0
Tells view P (Ok a) = P (Ok (view a))
Tells view P (Err (Refused kind line)) = P (Err (Refused kind line))
Tells view P (Err (Limit limit)) = P (Err (Limit limit))
Tells view P (Err OutOfMemory) = ⊤

-- ---- statements

-- The lines and bytes of the pieces are so few that the line of each of their bytes is a number of 32 bits.
abbrev pub HaveLines : List Piece → Type 0
HaveLines [] = ⊤
HaveLines (p ∷ ps) = (p.line.0 + length p.bytes < 2 ^ 32) × HaveLines ps

-- the statement of a piece stands behind those that were there
pub record IsNext (p : Piece) (place : ℕ) (old new : List Emb) : Type 0 where
  pub statement : Emb
  pub behind : new ≡ old ++ statement ∷ []
  pub is : StatementOrStop p place (Ok (emb_view statement))

-- it is behind the others, or the piece is none for this reason
abbrev pub AddsStatement : Piece → ℕ → List Emb → List Emb → Result (Unit {0}) Stop → Type 0
AddsStatement p place old new (Ok done) = IsNext p place old new
AddsStatement p place old new (Err (Refused kind line)) =
    StatementOrStop p place (Err (Refused kind line))
AddsStatement p place old new (Err (Limit limit)) = StatementOrStop p place (Err (Limit limit))
AddsStatement p place old new (Err OutOfMemory) = ⊤

abbrev pub TellsStatements : List Piece → List ℕ → Result (List Emb) Stop → Type 0
TellsStatements ps ns = Tells (map emb_view) (ReadsStatements ps ns)

-- ---- trees

-- the answer, with its value by its view
abbrev pub seen : {A B : Type 0} → (A → B) → Result A Stop → Result B Stop
seen view (Ok a) = Ok (view a)
seen view (Err stop) = Err stop

-- The tree of the tokens of pieces, with its statements, or why it has none.
pub data TreeOfPieces (pieces : List Piece) : Result UnitData Stop → Type 0 where
  no_tokens : (stop : Stop) → TokensOrStop false pieces (Err stop) → TreeOfPieces pieces (Err stop)
  no_tree : (ts : List TokenData) (stop : Stop) → Tokens false pieces ts →
      TreeOrStop ts (Err stop) → TreeOfPieces pieces (Err stop)
  tree : (ts : List TokenData) (u : UnitData)
      (es : Result (List EmbData) Stop) (answer : Result UnitData Stop)
      → Tokens false pieces ts → TreeOrStop ts (Ok u) →
      ReadsStatements pieces (statement_places ts) es
      → answer ≡ with_statements u es → TreeOfPieces pieces answer

abbrev pub TellsPieces : List Piece → Result Program Stop → Type 0
TellsPieces pieces = Tells unit_view (TreeOfPieces pieces)

abbrev pub TellsTree : Text → Result Program Stop → Type 0
TellsTree text = Tells unit_view (ReadsTree text)

abbrev pub IsOnlyTree : Text → Result Program Stop → Type 0
IsOnlyTree text answer = (wanted : Result UnitData Stop) →
    ReadsTree text wanted → Tells unit_view (λ told. told ≡ wanted) answer

-- ---- checks

abbrev pub TellsChecked : Text → Result Typed Stop → Type 0
TellsChecked text = Tells typed_view (ReadsChecked text)

abbrev pub IsOnlyChecked : Text → Result Typed Stop → Type 0
IsOnlyChecked text answer = (wanted : Result TypedData Stop) →
    ReadsChecked text wanted → Tells typed_view (λ told. told ≡ wanted) answer
