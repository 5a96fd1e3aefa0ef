-- Words for rows of texts and their tokens.
use Rattle.std.specs.Prelude.{ℕ, suc, Bool, false, List, [], ◌∷◌, map, codes, Result, Ok, Err}
use Prim.Native.String.{String}
use Rattle.ec_base.specs.declared.fault.FaultKind.{FaultKind}
use Rattle.ec_base.specs.declared.stop.Stop.{Stop}
use Rattle.ec_base.specs.declared.stop.Stop.TheVariants.{Refused}
use Rattle.ec_ctypes.specs.declared.text.piece.PieceKind.TheVariants.{C, Emb}
use Rattle.ec_ctypes.specs.declared.text.piece.Piece.{Piece}
use Rattle.ec_ctypes.specs.declared.text.token.Punct.{Punct}
use Rattle.ec_ctypes.specs.declared.types.arith.Arith.TheVariants.{Int}
use Rattle.ec_ctypes.specs.trees.Types.{arithmetic}
use Rattle.ec_ctypes.specs.trees.Tokens.{TokData, word_token, integer_token, string_token, punct_token, include_token, TokenData}
use Rattle.ec_language.specs.Letters.{Text}
use Rattle.ec_language.specs.Pieces.{Pieces}
use Rattle.ec_language.specs.ReadPieces.{piece_of}
use Rattle.ec_language.specs.SqlTokens.{SqlClass, SqlToken, sql_tokens_from}
use Rattle.ec_language.specs.ReadTokens.{sql_units}
use Rattle.ec_language.specs.Tokens.{token, TokensOrStop}

-- C text from line 1 on, and nothing else
abbrev pub c_alone : Text → List Piece
c_alone text = piece_of C text 1 ∷ []

abbrev pub c_text : String → List Piece
c_text text = c_alone (codes text)

-- one embedded statement, from line 1 on
abbrev pub statement_alone : Text → List Piece
statement_alone text = piece_of Emb text 1 ∷ []

abbrev pub statement_text : String → List Piece
statement_text text = statement_alone (codes text)

-- a token of a row: its line, and what it is
abbrev pub on_line : ℕ → List TokData → List (ℕ × TokData)
on_line line toks = map (λ t. (line, t)) toks

-- tokens with their places, from this one on
abbrev pub placed : ℕ → List (ℕ × TokData) → List TokenData
placed place [] = []
placed place (p ∷ ps) = token p.1 p.0 place ∷ placed (suc place) ps

-- the tokens of a row, in their places
abbrev pub tokens_are : List (ℕ × TokData) → Result (List TokenData) Stop
tokens_are row = Ok (placed 0 row)

-- a fault on a line
abbrev pub refused : FaultKind → ℕ → Result (List TokenData) Stop
refused kind line = Err (Refused kind (record { 0 = line }))

-- a word, a string literal, a line and a mark
abbrev pub name : String → TokData
name text = word_token (codes text)

abbrev pub literal : String → TokData
literal text = string_token (codes text)

abbrev pub included : String → TokData
included text = include_token (codes text)

abbrev pub sign : Punct → TokData
sign = punct_token

-- an integer constant of type `int`
abbrev pub int_token : ℕ → TokData
int_token n = integer_token n (arithmetic Int)

-- a token of SQL on line 1
abbrev pub sql_token : SqlClass → String → Bool → SqlToken
sql_token class text gap = record { class = class; bytes = codes text; gap = gap; line = 1 }

-- the tokens of SQL up to the `;` of a text on line 1
abbrev pub sql_tokens_in : String → List SqlToken
sql_tokens_in text = sql_tokens_from false 1 (sql_units (codes text))

-- the pieces have these tokens, or this stop
pub record Gives (written : Bool) (pieces : List Piece)
    (answer : Result (List TokenData) Stop) : Type 0 where
  pub is : TokensOrStop written pieces answer

-- a source has pieces, and these have these tokens or this stop
pub record SourceGives (text : Text) (answer : Result (List TokenData) Stop) : Type 0 where
  pub pieces : List Piece
  pub are : Pieces text pieces
  pub is : TokensOrStop false pieces answer
