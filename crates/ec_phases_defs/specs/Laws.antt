-- What holds of the phases.
use Rattle.std.specs.Prelude.{◌≡◌, ℕ, suc, true, false, List, [], ◌∷◌, length, Result, Ok}
use Rattle.ec_base.specs.declared.stop.Stop.{Stop}
use Rattle.ec_ctypes.specs.declared.text.piece.Piece.{Piece}
use Rattle.ec_ctypes.specs.trees.Tokens.{TokenData}
use Rattle.ec_ctypes.specs.trees.Checked.{TypedData}
use Rattle.ec_ctypes.specs.trees.Units.{UnitData}
use Rattle.ec_language.specs.Letters.{Text}
use Rattle.ec_language.specs.Tokens.{Tokens}
use Rattle.ec_whenever.specs.Tables.{are_in_order}
use Rattle.ec_host_defs.specs.Statements.{is_statement, statement_places}
use Rattle.ec_phases_defs.specs.Sources.{ReadsTree, ReadsChecked, BoundProgram, ReadsSource}

-- how many of the pieces are statements
abbrev pub statement_count : List Piece → ℕ
statement_count [] = 0
statement_count (p ∷ ps) =
    elim (is_statement p.kind) [ true ↦ suc (statement_count ps) | false ↦ statement_count ps ]

-- Each statement among the pieces has a token.
abbrev pub HavePlaces : Type 0
HavePlaces = (pieces : List Piece) (ts : List TokenData) →
    Tokens false pieces ts → length (statement_places ts) ≡ statement_count pieces

abbrev pub HasOneTree : Type 0
HasOneTree = (text : Text) (a b : Result UnitData Stop) →
    ReadsTree text a → ReadsTree text b → a ≡ b

abbrev pub HasTree : Type 0
HasTree = (text : Text) → (answer : Result UnitData Stop) × ReadsTree text answer

-- The statements of a source stand in the order of the text.
abbrev pub StandInOrder : Type 0
StandInOrder = (text : Text) (u : UnitData) → ReadsTree text (Ok u) → are_in_order u.embs ≡ true

abbrev pub HasOneCheck : Type 0
HasOneCheck = (text : Text) (a b : Result TypedData Stop) →
    ReadsChecked text a → ReadsChecked text b → a ≡ b

abbrev pub HasOneReading : Type 0
HasOneReading = (text : Text) (a b : Result BoundProgram Stop) →
    ReadsSource text a → ReadsSource text b → a ≡ b

abbrev pub IsRead : Type 0
IsRead = (text : Text) → (answer : Result BoundProgram Stop) × ReadsSource text answer
