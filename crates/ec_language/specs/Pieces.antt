-- The pieces of a source: C text, and what is embedded in it. An embedded piece stands at each `EXEC SQL` that is in no comment, string or character constant of C text, and ends with the first `;` that is in no comment or quote of SQL text.
use Rattle.std.specs.Prelude.{◌≡◌, ℕ, suc, pred, ◌+◌, Bool, true, false, not, ◌&&◌, ◌||◌, ◌==◌, List, [], ◌∷◌, ◌++◌, filter, take, drop, codes, ⊤, Option, Some, None, is_some, if◌then◌else◌}
use Rattle.std.specs.List.{concat, list_any, list_all}
use Rattle.ec_ctypes.specs.declared.text.piece.PieceKind.{PieceKind}
use Rattle.ec_ctypes.specs.declared.text.piece.PieceKind.TheVariants.{C, Emb, InPlace, SectionStart, SectionEnd}
use Rattle.ec_ctypes.specs.declared.text.piece.Piece.{Piece}
use Rattle.ec_language.specs.Letters.{Text, is_blank, is_word_byte, is_empty, begins, same_text, same_word, is_among, skip_blanks}
use Rattle.ec_language.specs.Keywords.{declaring_words}
use Rattle.ec_language.specs.Line.{newlines}
use Rattle.ec_language.specs.CText.{CUnits}
use Rattle.ec_language.specs.SqlText.{SqlUnit, SqlUnits, is_sql_gap}

-- ---- where an embedded piece starts

-- The text behind `EXEC SQL`, in any case of letters and parted by blanks, if the text begins with these two words.
abbrev pub behind_start : Text → Option Text
behind_start text =
    if same_word (take 4 text) (codes "EXEC") && begins is_blank (drop 4 text)
    && same_word (take 3 (skip_blanks (drop 4 text))) (codes "SQL")
    && not (begins is_word_byte (drop 3 (skip_blanks (drop 4 text))))
    then Some (drop 3 (skip_blanks (drop 4 text))) else None

abbrev pub starts_piece : Text → Bool
starts_piece text = is_some (behind_start text)

-- ---- C text

-- No embedded piece starts at one of the units.
abbrev pub NoneStarts : List Text → Text → Type 0
NoneStarts [] rest = ⊤
NoneStarts (u ∷ us) rest = (starts_piece (u ++ concat us ++ rest) ≡ false) × NoneStarts us rest

-- ---- embedded statements and marks

-- the units that are no blanks and no comments
abbrev pub solid : List Text → List Text
solid us = filter (λ u. not (is_sql_gap u)) us

abbrev pub is_semicolon : Text → Bool
is_semicolon u = same_text u (codes ";")

abbrev pub same_words : List Text → List Text → Bool
same_words [] [] = true
same_words [] (b ∷ bs) = false
same_words (a ∷ as') [] = false
same_words (a ∷ as') (b ∷ bs) = same_word a b && same_words as' bs

abbrev pub kind_of : List Text → PieceKind
kind_of us =
    if same_words (solid us) (codes "BEGIN" ∷ codes "DECLARE" ∷ codes "SECTION" ∷ [])
    then SectionStart
    else if same_words (solid us) (codes "END" ∷ codes "DECLARE" ∷ codes "SECTION" ∷ [])
    then SectionEnd
    else Emb

-- ---- declarations after `EXEC SQL`

-- the words that begin a declaration, compared with case
abbrev pub is_type_word : Text → Bool
is_type_word = is_among declaring_words

abbrev pub first_is_type_word : List Text → Bool
first_is_type_word [] = false
first_is_type_word (u ∷ us) = is_type_word u

-- how many braces are open behind a unit. One that closes nothing counts for nothing
abbrev pub braces_after : ℕ → Text → ℕ
braces_after open_ u =
    if same_text u (codes "{") then suc open_ else if same_text u (codes "}") then pred open_
    else open_

-- the last unit is the first `;` outside braces, so many being open before the units
abbrev pub ends_declaration : ℕ → List Text → Bool
ends_declaration open_ [] = false
ends_declaration open_ (u ∷ us) =
    elim (is_semicolon u && open_ == 0) [
      | true ↦ elim us [ [] ↦ true | v ∷ vs ↦ false ]
      | false ↦ ends_declaration (braces_after open_ u) us
    ]

-- The bytes are a declaration after `EXEC SQL`, with the text behind it: blanks and comments of SQL, a type word, and from it on units of C text. Which units these are is left open here.
pub record Declared (Units : List Text → Text → Type 0) (bytes rest : Text) : Type 0 where
  pub gap : List Text
  pub first : Text
  pub others : List Text
  pub start : behind_start (bytes ++ rest) ≡ Some (concat gap ++ concat (first ∷ others) ++ rest)
  pub parted : SqlUnits gap (concat (first ∷ others) ++ rest)
  pub gaps : list_all is_sql_gap gap ≡ true
  pub word : SqlUnit first (concat others ++ rest)
  pub typed : is_type_word first ≡ true
  pub units : Units (first ∷ others) rest
  pub ends : ends_declaration 0 (first ∷ others) ≡ true

-- ---- pieces

-- The bytes are a piece of this kind, with the text behind it.
pub data IsPiece : PieceKind → Text → Text → Type 0 where
  -- C text is not empty, and goes on to the next embedded piece or to the end
  c_text : (bytes rest : Text) (units : List Text) → bytes ≡ concat units → is_empty bytes ≡ false
      → CUnits units rest → NoneStarts units rest → (is_empty rest || starts_piece rest) ≡ true
      → IsPiece C bytes rest
  statement : (kind : PieceKind) (bytes rest : Text) (units : List Text)
      → behind_start (bytes ++ rest) ≡ Some (concat units ++ codes ";" ++ rest)
      → SqlUnits units (codes ";" ++ rest)
      → list_any is_semicolon units ≡ false → first_is_type_word (solid units) ≡ false
      → kind ≡ kind_of units → IsPiece kind bytes rest
  declaration : (bytes rest : Text) → Declared CUnits bytes rest → IsPiece InPlace bytes rest

-- The text, which begins on this line, begins with these pieces, one after the other, and the rest stands behind them.
abbrev pub PiecesUpTo : ℕ → Text → List Piece → Text → Type 0
PiecesUpTo line text [] rest = text ≡ rest
PiecesUpTo line text (p ∷ ps) rest =
    (behind : Text) × (text ≡ p.bytes ++ behind) × (p.line.0 ≡ line) × IsPiece p.kind p.bytes behind
    × PiecesUpTo (line + newlines p.bytes) behind ps rest

-- These are the pieces of the text.
abbrev pub Pieces : Text → List Piece → Type 0
Pieces text pieces = PiecesUpTo 1 text pieces []
