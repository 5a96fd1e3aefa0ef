-- Where a text has no pieces: a comment, a quote or an embedded piece in it has no end.
use Rattle.std.specs.Prelude.{◌≡◌, ◌⊎◌, ℕ, Bool, true, false, not, ◌&&◌, ◌==◌, List, [], ◌∷◌, ◌++◌, codes, ⊤}
use Rattle.std.specs.List.{concat}
use Rattle.ec_base.specs.declared.fault.FaultKind.{FaultKind}
use Rattle.ec_base.specs.declared.fault.FaultKind.TheVariants.{F1, F2, F3}
use Rattle.ec_ctypes.specs.declared.text.piece.PieceKind.{PieceKind}
use Rattle.ec_ctypes.specs.declared.text.piece.Piece.{Piece}
use Rattle.ec_language.specs.Letters.{Text, newline, backslash, is_quote, is_not_newline, begins, begins_with}
use Rattle.ec_language.specs.Line.{line_after}
use Rattle.ec_language.specs.CText.{CUnit, CUnits}
use Rattle.ec_language.specs.Pieces.{starts_piece, NoneStarts, IsPiece, Declared, PiecesUpTo}

-- The text, up to a newline, goes on a quote without closing it. A backslash before the newline skips nothing.
abbrev pub stays_open : ℕ → Text → Bool
stays_open q [] = true
stays_open q (b ∷ []) = not (b == q) && is_not_newline b
stays_open q (b ∷ c ∷ bs) = elim (b == backslash) [
  | true ↦ is_not_newline c && stays_open q bs
  | false ↦ not (b == q) && is_not_newline b && stays_open q (c ∷ bs)
]

-- a quote that the end of its line ends
abbrev pub is_cut_quote : Text → Text → Bool
is_cut_quote [] rest = false
is_cut_quote (b ∷ bs) rest = is_quote b && stays_open b bs && begins_with (newline ∷ []) rest

-- units of C text, in which the end of a line ends a quote
abbrev pub LooseUnits : List Text → Text → Type 0
LooseUnits [] rest = ⊤
LooseUnits (u ∷ us) rest =
    (CUnit u (concat us ++ rest) ⊎ (is_cut_quote u (concat us ++ rest) ≡ true)) × LooseUnits us rest

-- no unit of C text stands at the beginning of this text
abbrev pub NoUnit : Text → Type 0
NoUnit text = (u rest : Text) → text ≡ u ++ rest → CUnit u rest → ⊥

-- no embedded piece stands there, even if the ends of lines end its quotes
abbrev pub NoEmbedded : Text → Type 0
NoEmbedded text =
    (u rest : Text) → text ≡ u ++ rest
    → (((kind : PieceKind) → IsPiece kind u rest → ⊥) × (Declared LooseUnits u rest → ⊥))

-- A fault of this kind stands in the text, which begins outside of all pieces, behind so much of it.
pub data Unclosed : Text → FaultKind → Text → Type 0 where
  comment : (text : Text) → begins_with (codes "/*") text ≡ true → NoUnit text → Unclosed text F1 []
  quote : (text : Text) → begins is_quote text ≡ true → NoUnit text → Unclosed text F2 []
  -- whatever in it has no end
  embedded : (text : Text) → starts_piece text ≡ true → NoEmbedded text → Unclosed text F3 []
  -- a declaration after `EXEC SQL` that has its end, with a quote in it that has none. It is the first of them: units of C text stand before it
  quote_inside : (text bytes rest before quote : Text) (units more : List Text)
      (found : Declared LooseUnits bytes rest) → text ≡ bytes ++ rest
      → found.first ∷ found.others ≡ units ++ quote ∷ more
      → CUnits units (quote ++ concat more ++ rest)
      → is_cut_quote quote (concat more ++ rest) ≡ true
      → text ≡ before ++ quote ++ concat more ++ rest → Unclosed text F2 before

-- the bytes of pieces, joined
abbrev pub joined : List Piece → Text
joined [] = []
joined (p ∷ ps) = p.bytes ++ joined ps

-- The first fault of a text that has no pieces: its kind, and the line on which the comment, quote or statement begins. Before it stand pieces and C text without fault.
pub record PieceFault (text : Text) (kind : FaultKind) (line : ℕ) : Type 0 where
  pub pieces : List Piece
  pub units : List Text
  pub rest : Text
  pub inside : Text
  pub before : PiecesUpTo 1 text pieces (concat units ++ rest)
  pub free : CUnits units rest
  pub none : NoneStarts units rest
  pub unclosed : Unclosed rest kind inside
  pub place : line ≡ line_after (joined pieces ++ concat units ++ inside)
