-- What reading a text answers. Want of memory is the one answer that says nothing of it.
use Rattle.std.specs.Prelude.{◌≡◌, ⊤, Bool, List, Result, Ok, Err}
use Rattle.ec_base.specs.declared.stop.Stop.{Stop}
use Rattle.ec_base.specs.declared.stop.Stop.TheVariants.{Refused, Limit, OutOfMemory}
use Rattle.ec_ctypes.specs.declared.text.piece.Piece.{Piece}
use Rattle.ec_ctypes.specs.declared.tree.unit.Unit.{Unit as Program}
use Rattle.ec_ctypes.specs.trees.Tokens.{TokenData}
use Rattle.ec_ctypes.specs.trees.Units.{UnitData}
use Rattle.ec_ctypes.specs.views.Units.{unit_view}
use Rattle.ec_language.specs.Letters.{Text}
use Rattle.ec_language.specs.First.{Reads}
use Rattle.ec_language.specs.Syntax.{TreeOrStop}
use Rattle.ec_language.specs.Tokens.{Tokens, TokensOrStop}

-- the answer has P, with a tree by its view, unless there was no memory left
abbrev pub Tells : (Result UnitData Stop → Type 0) → Result Program Stop → Type 0
Tells P (Ok unit) = P (Ok (unit_view unit))
Tells P (Err (Refused kind line)) = P (Err (Refused kind line))
Tells P (Err (Limit limit)) = P (Err (Limit limit))
Tells P (Err OutOfMemory) = ⊤

-- The answer is what the text is read as.
abbrev pub TellsReading : Bool → Text → Result Program Stop → Type 0
TellsReading written text = Tells (Reads written text)

-- what pieces are read as: why they have no tokens, or the tree of their tokens, or why these have none
pub data ReadsPieces (written : Bool) (pieces : List Piece) : Result UnitData Stop → Type 0 where
  no_tokens : (stop : Stop) → TokensOrStop written pieces (Err stop) →
      ReadsPieces written pieces (Err stop)
  tree : (ts : List TokenData) (answer : Result UnitData Stop) →
      Tokens written pieces ts → TreeOrStop ts answer
      → ReadsPieces written pieces answer

abbrev pub TellsRest : Bool → List Piece → Result Program Stop → Type 0
TellsRest written pieces = Tells (ReadsPieces written pieces)

-- Whatever the text is read as, the answer is this.
abbrev pub IsOnly : Result Program Stop → Result UnitData Stop → Type 0
IsOnly answer wanted = Tells (λ told. told ≡ wanted) answer
