-- What a phase answers is what the text is read as.
use Rattle.std.proofs.Common.{◌≡◌, ◌≢◌, ◌≤◌, ◌^◌, Bool, List, Result, Ok, Err, refl}
use Rattle.std.specs.Prelude.{length, IfOk}
use Rattle.ec_base.specs.declared.fault.LimitKind.{LimitKind}
use Rattle.ec_base.specs.declared.stop.Stop.{Stop}
use Rattle.ec_base.specs.declared.stop.Stop.TheVariants.{Refused, Limit, OutOfMemory}
use Rattle.ec_ctypes.specs.declared.text.piece.Piece.{Piece}
use Rattle.ec_ctypes.specs.declared.tree.unit.Unit.{Unit as Program}
use Rattle.ec_ctypes.specs.trees.Tokens.{TokenData}
use Rattle.ec_ctypes.specs.trees.Units.{UnitData}
use Rattle.ec_ctypes.specs.views.Units.{unit_view}
use Rattle.ec_language.specs.First.{Reads}
use Rattle.ec_language.specs.Letters.{Text}
use Rattle.ec_language.specs.Pieces.{Pieces}
use Rattle.ec_language.specs.Syntax.{TreeOrStop}
use Rattle.ec_language.specs.Tokens.{Tokens}
use Rattle.ec_split.specs.Answers as split
use Rattle.ec_clex.specs.Answers as lexer
use Rattle.ec_front.specs.unit.Answers.{TellsReading, TellsRest, ReadsPieces}

-- what the splitter answers where it stops
abbrev stopped : Stop → Result (List Piece) Stop
stopped stop = Err stop

-- where a text isn't cut into pieces
pub split_stops : (written : Bool) (text : Text) (stop : Stop) → length text ≤ 2 ^ 24
    → split.FindsFault text (stopped stop)
    → ((limit : LimitKind) → stopped stop ≡ Err (Limit limit) → ⊥) → TellsReading written text (Err stop)
split_stops written text (Refused kind line) small fault none = Reads.unclosed kind line.0 small (fault kind line.0 refl)
split_stops written text (Limit limit) small fault none = absurd (none limit refl)
split_stops written text OutOfMemory small fault none = tt

-- where pieces have no tokens
pub tokens_stop : (written : Bool) (pieces : List Piece) (stop : Stop)
    → lexer.TellsStop written pieces (Err stop) → TellsRest written pieces (Err stop)
tokens_stop written pieces (Refused kind line) tells = ReadsPieces.no_tokens _ (tells _ refl (λ p. cc p))
tokens_stop written pieces (Limit limit) tells = ReadsPieces.no_tokens _ (tells _ refl (λ p. cc p))
tokens_stop written pieces OutOfMemory tells = tt

-- what tokens are read as
pub tokens_read : (written : Bool) (pieces : List Piece) (ts : List TokenData) (answer : Result Program Stop) → Tokens written pieces ts
    → IfOk answer (λ unit. TreeOrStop ts (Ok (unit_view unit)))
    → ((stop : Stop) → answer ≡ Err stop → stop ≢ OutOfMemory → TreeOrStop ts (Err stop)) → TellsRest written pieces answer
tokens_read written pieces ts (Ok unit) lexed tree stops = ReadsPieces.tree ts _ lexed tree
tokens_read written pieces ts (Err (Refused kind line)) lexed tree stops = ReadsPieces.tree ts _ lexed (stops _ refl (λ p. cc p))
tokens_read written pieces ts (Err (Limit limit)) lexed tree stops = ReadsPieces.tree ts _ lexed (stops _ refl (λ p. cc p))
tokens_read written pieces ts (Err OutOfMemory) lexed tree stops = tt

module _ (written : Bool) (text : Text) (pieces : List Piece) (small : length text ≤ 2 ^ 24) (cut : Pieces text pieces) where
  reads_as : (answer : Result UnitData Stop) → ReadsPieces written pieces answer → Reads written text answer
  reads_as _ (ReadsPieces.no_tokens stop t) = Reads.no_tokens pieces stop small cut t
  reads_as _ (ReadsPieces.tree ts answer lexed t) = Reads.tokens pieces ts answer small cut lexed t

  -- what pieces are read as
  pub pieces_read : (answer : Result Program Stop) → TellsRest written pieces answer → TellsReading written text answer
  pieces_read (Ok unit) told = reads_as _ told
  pieces_read (Err (Refused kind line)) told = reads_as _ told
  pieces_read (Err (Limit limit)) told = reads_as _ told
  pieces_read (Err OutOfMemory) told = tt
