-- What the splitter answers.
use Rattle.std.specs.Prelude.{◌≡◌, ℕ, List, ⊤, Result, Ok, Err}
use Rattle.ec_base.specs.declared.stop.Stop.{Stop}
use Rattle.ec_base.specs.declared.stop.Stop.TheVariants.{Refused, Limit, OutOfMemory}
use Rattle.ec_base.specs.declared.fault.FaultKind.{FaultKind}
use Rattle.ec_ctypes.specs.declared.text.piece.Piece.{Piece}
use Rattle.ec_language.specs.Letters.{Text}
use Rattle.ec_language.specs.Pieces.{Pieces}
use Rattle.ec_language.specs.PieceFaults.{PieceFault}

-- unless there was no memory left
abbrev pub UnlessNoMemory : Result (List Piece) Stop → Type 0 → Type 0
UnlessNoMemory (Ok pieces) P = P
UnlessNoMemory (Err (Refused kind line)) P = P
UnlessNoMemory (Err (Limit limit)) P = P
UnlessNoMemory (Err OutOfMemory) P = ⊤

-- the answer is what the text is read as, or there was no memory left
abbrev pub AnswersReading : Result (List Piece) (FaultKind × ℕ) → Result (List Piece) Stop → Type 0
AnswersReading reading (Ok pieces) = reading ≡ Ok pieces
AnswersReading reading (Err (Refused kind line)) = reading ≡ Err (kind, line.0)
AnswersReading reading (Err (Limit limit)) = ⊥
AnswersReading reading (Err OutOfMemory) = ⊤

abbrev pub refused : FaultKind → ℕ → Stop
refused kind line = Refused kind (record { 0 = line })

-- Where a text has pieces, the answer is these.
abbrev pub FindsAllPieces : Text → Result (List Piece) Stop → Type 0
FindsAllPieces text answer =
    (pieces : List Piece) → Pieces text pieces → UnlessNoMemory answer (answer ≡ Ok pieces)

-- A fault that is answered is that of the text.
abbrev pub FindsFault : Text → Result (List Piece) Stop → Type 0
FindsFault text answer = (kind : FaultKind) (line : ℕ)
    → answer ≡ Err (refused kind line) → PieceFault text kind line

-- Where a text has a fault, the answer is this.
abbrev pub FindsAllFaults : Text → Result (List Piece) Stop → Type 0
FindsAllFaults text answer = (kind : FaultKind) (line : ℕ)
    → PieceFault text kind line → UnlessNoMemory answer (answer ≡ Err (refused kind line))
