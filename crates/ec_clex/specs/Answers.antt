-- What the lexer answers.
use Rattle.std.specs.Prelude.{◌≡◌, Bool, List, ⊤, Result, Ok, Err}
use Rattle.ec_base.specs.declared.stop.Stop.{Stop}
use Rattle.ec_base.specs.declared.stop.Stop.TheVariants.{Refused, Limit, OutOfMemory}
use Rattle.ec_ctypes.specs.declared.text.piece.Piece.{Piece}
use Rattle.ec_ctypes.specs.declared.text.token.Token.{Token}
use Rattle.ec_ctypes.specs.trees.Tokens.{TokenData}
use Rattle.ec_ctypes.specs.views.Tokens.{tokens_view}
use Rattle.ec_language.specs.Tokens.{Tokens, TokensOrStop}

-- unless there was no memory left
abbrev pub UnlessNoMemory : Result (List Token) Stop → Type 0 → Type 0
UnlessNoMemory (Ok tokens) P = P
UnlessNoMemory (Err (Refused kind line)) P = P
UnlessNoMemory (Err (Limit limit)) P = P
UnlessNoMemory (Err OutOfMemory) P = ⊤

-- the answer, with tokens by their view
abbrev pub seen : Result (List Token) Stop → Result (List TokenData) Stop
seen (Ok tokens) = Ok (tokens_view tokens)
seen (Err stop) = Err stop

-- Where pieces have tokens, the answer is these.
abbrev pub FindsTokens : Bool → List Piece → Result (List Token) Stop → Type 0
FindsTokens written pieces answer = (wanted : List TokenData)
    → Tokens written pieces wanted → UnlessNoMemory answer (seen answer ≡ Ok wanted)

-- What is answered in the place of tokens, memory aside, is why there are none.
abbrev pub TellsStop : Bool → List Piece → Result (List Token) Stop → Type 0
TellsStop written pieces answer = (stop : Stop)
    → answer ≡ Err stop → (stop ≡ OutOfMemory → ⊥) → TokensOrStop written pieces (Err stop)

-- Where there is a fault or a limit that stands in the place of tokens, the answer is this.
abbrev pub FindsStop : Bool → List Piece → Result (List Token) Stop → Type 0
FindsStop written pieces answer = (stop : Stop)
    → TokensOrStop written pieces (Err stop) → UnlessNoMemory answer (answer ≡ Err stop)
