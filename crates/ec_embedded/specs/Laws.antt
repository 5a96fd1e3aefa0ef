-- That a form is read exactly, and that each statement has one answer.
use Rattle.std.specs.Prelude.{◌≡◌, ℕ, Result}
use Rattle.ec_base.specs.declared.stop.Stop.{Stop}
use Rattle.ec_ctypes.specs.declared.text.piece.Piece.{Piece}
use Rattle.ec_ctypes.specs.trees.Embedded.{EmbData}
use Rattle.ec_language.specs.SqlTokens.{SqlToken}
use Rattle.ec_embedded.specs.shapes.Shapes.{Judged, Judges}
use Rattle.ec_embedded.specs.shapes.ReadShapes.{read, judged}
use Rattle.ec_language.specs.Tokens.{HasSqlTokens}
use Rattle.ec_embedded.specs.Answers.{IsAnswer, StatementOrStop}
use Rattle.ec_embedded.specs.References.{Form, Of}
use Rattle.ec_embedded.specs.ServerText.{Tokens}
use Rattle.ec_embedded.specs.Findings.{Answer}
use Rattle.ec_embedded.specs.Statements.{answer}
use Rattle.ec_embedded.specs.Terminals.{alphabet, no_counts}

-- The verdict of the reading on any tokens is that of the form, and there is no other.
pub record IsReadExactly (form : Form) : Type 0 where
  pub exact : (w : Tokens) →
      Judges alphabet form no_counts w (judged w (read alphabet form no_counts w))
  pub single : (w : Tokens) (a b : Judged (Of form) SqlToken) →
      Judges alphabet form no_counts w a → Judges alphabet form no_counts w b → a ≡ b

-- The plain reading gives what the tokens of a statement are.
abbrev pub IsAnswered : Type 0
IsAnswered = (end : ℕ) (w : Tokens) → IsAnswer end w (answer end w)

abbrev pub HasOneAnswer : Type 0
HasOneAnswer = (end : ℕ) (w : Tokens) (a b : Answer) → IsAnswer end w a → IsAnswer end w b → a ≡ b

-- A piece whose text has tokens is a statement, or there is a reason why it is none.
abbrev pub PieceIsAnswered : Type 0
PieceIsAnswered =
    (p : Piece) (place : ℕ) → HasSqlTokens p.bytes
    → (result : Result EmbData Stop) × StatementOrStop p place result

abbrev pub PieceHasOneAnswer : Type 0
PieceHasOneAnswer =
    (p : Piece) (place : ℕ) (result other : Result EmbData Stop) → StatementOrStop p place result
    → StatementOrStop p place other → result ≡ other
