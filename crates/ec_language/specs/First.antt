-- Of all faults and limits of a text, the first one decides: that at the least place; at one place a fault before a limit, and of two faults the one of the lower number. An input that is too long is refused before all.
use Rattle.std.specs.Prelude.{◌≡◌, ◌⊎◌, ◌≤◌, ◌<◌, ℕ, suc, ◌+◌, ◌^◌, Bool, false, ◌&&◌, ◌||◌, ◌==◌, nat_lt, List, [], ◌∷◌, ◌++◌, length, Option, Some, None, Result, Ok, Err, if◌then◌else◌}
use Rattle.ec_base.specs.declared.fault.FaultKind.{FaultKind}
use Rattle.ec_base.specs.declared.fault.LimitKind.{LimitKind}
use Rattle.ec_base.specs.declared.fault.LimitKind.TheVariants.{L2, L3, L6}
use Rattle.ec_base.specs.Numbers.{fault_number, limit_number}
use Rattle.ec_base.specs.declared.stop.Stop.{Stop}
use Rattle.ec_base.specs.declared.stop.Stop.TheVariants.{Refused, Limit, OutOfMemory}
use Rattle.ec_ctypes.specs.declared.text.piece.Piece.{Piece}
use Rattle.ec_ctypes.specs.trees.Tokens.{TokData, TokenData}
use Rattle.ec_ctypes.specs.trees.Units.{UnitData}
use Rattle.ec_language.specs.Letters.{Text}
use Rattle.ec_language.specs.Pieces.{Pieces}
use Rattle.ec_language.specs.PieceFaults.{PieceFault}
use Rattle.ec_language.specs.Tokens.{Part, max_tokens, TokensWithin, Tokens, TokensOrStop}
use Rattle.ec_language.specs.Productions.{placed, unit}
use Rattle.ec_language.specs.Grammar.{DerivesWithin, Derives}
use Rattle.ec_language.specs.Syntax.{limits, TreeOrStop}

-- ---- the order

-- A fault or a limit, with its place: the number of the byte or token where it comes. Behind the syntax, places are those of declarations, statements and functions, and the place determines the line: all that is found at one place stands on one line.
pub record Violation : Type 0 where
  pub place : ℕ
  pub stop : Stop

-- At one place: faults by their numbers, and then limits. Numbers below 100 are left for faults. Want of memory is no violation.
abbrev pub rank : Stop → ℕ
rank (Refused kind line) = fault_number kind
rank (Limit kind) = 100 + limit_number kind
rank OutOfMemory = 200

abbrev pub comes_before : Violation → Violation → Bool
comes_before a b =
    nat_lt a.place b.place || (a.place == b.place && nat_lt (rank a.stop) (rank b.stop))

-- It is one of the violations, and none comes before it.
abbrev pub IsFirst : (Violation → Type 0) → Violation → Type 0
IsFirst V v = V v × ((other : Violation) → V other → comes_before other v ≡ false)

-- it is one of the list
abbrev pub IsAmong : List Violation → Violation → Type 0
IsAmong [] x = ⊥
IsAmong (v ∷ vs) x = (x ≡ v) ⊎ IsAmong vs x

abbrev pub earlier : Violation → Option Violation → Option Violation
earlier v None = Some v
earlier v (Some w) = if comes_before w v then Some w else Some v

-- the first of a list
abbrev pub first_of : List Violation → Option Violation
first_of [] = None
first_of (v ∷ vs) = earlier v (first_of vs)

-- ---- tokens

abbrev pub fault_in : ℕ → ℕ → Result TokData FaultKind → List Violation
fault_in place line (Ok tok) = []
fault_in place line (Err kind) =
    record { place = place; stop = Refused kind (record { 0 = line }) } ∷ []

-- the limit comes at the token with which there are too many
abbrev pub limit_at : ℕ → List Violation
limit_at place = if place == max_tokens then record { place = place; stop = Limit L2 } ∷ [] else []

-- the faults and the limit of parts, the first of which has this place
abbrev pub violations_of : ℕ → List Part → List Violation
violations_of place [] = []
violations_of place (p ∷ parts) =
    fault_in place p.line p.tok ++ (limit_at place ++ violations_of (suc place) parts)

abbrev pub stop_of : {A : Type 0} → Result A Stop → Option Stop
stop_of (Ok a) = None
stop_of (Err stop) = Some stop

abbrev pub stop_at : Option Violation → Option Stop
stop_at None = None
stop_at (Some v) = Some v.stop

-- ---- the text

abbrev pub max_text : ℕ
max_text = 2 ^ 24

-- How a text is read, as a source or as written C: what its tree is, or what the first phase that finds something refuses. The phases are pieces, tokens and syntax.
pub data Reads (written : Bool) (text : Text) : Result UnitData Stop → Type 0 where
  too_long : max_text < length text → Reads written text (Err (Limit L6))
  unclosed : (kind : FaultKind) (line : ℕ) → length text ≤ max_text → PieceFault text kind line
      → Reads written text (Err (Refused kind (record { 0 = line })))
  no_tokens : (pieces : List Piece) (stop : Stop) → length text ≤ max_text → Pieces text pieces
      → TokensOrStop written pieces (Err stop) → Reads written text (Err stop)
  tokens : (pieces : List Piece) (ts : List TokenData) (answer : Result UnitData Stop)
      → length text ≤ max_text → Pieces text pieces → Tokens written pieces ts
      → TreeOrStop ts answer → Reads written text answer

-- ---- limits aside

-- Limits aside, this is the tree of the text: the text has pieces, these have tokens, however many, and the grammar derives the tree of them, however deep it is. So there is no fault in the text.
pub record HasTree (written : Bool) (text : Text) (u : UnitData) : Type 0 where
  pub pieces : List Piece
  pub tokens : List TokenData
  pub cut : Pieces text pieces
  pub lexed : TokensWithin None written pieces (Ok tokens)
  pub derived : Derives unit (placed tokens) u

-- The text passes the limit: it is too long, has too many tokens before its end, or nests too deep or counts too high.
abbrev pub PassesLimit : {written : Bool} {text : Text} {u : UnitData} → HasTree written text u
    → LimitKind → Type 0
PassesLimit {text = text} h L6 = max_text < length text
PassesLimit h L2 = suc max_tokens < length h.tokens
PassesLimit {u = u} h L3 = DerivesWithin limits unit (placed h.tokens) u → ⊥
PassesLimit h _ = ⊥

-- The text is read as its tree, or passes the limit that it is refused for.
abbrev pub IsReadAs : {written : Bool} {text : Text} {u : UnitData} → HasTree written text u
    → Result UnitData Stop → Type 0
IsReadAs {u = u} h answer =
    (answer ≡ Ok u) ⊎ ((kind : LimitKind) × (answer ≡ Err (Limit kind)) × PassesLimit h kind)
