-- What an index into a text stands for: the text from there on.
use Rattle.std.specs.Prelude.{◌≡◌, ℕ, ◌≤◌, Bool, false, not, ◌&&◌, ◌||◌, ◌==◌, Option, option_map, Some, None, List, [], ◌∷◌, ◌++◌, codes, length, drop, ⊤, Result, Ok, Err, if◌then◌else◌}
use Rattle.ec_ctypes.specs.declared.text.piece.PieceKind.{PieceKind}
use Rattle.ec_ctypes.specs.declared.text.piece.PieceKind.TheVariants.{Emb, SectionStart, SectionEnd}
use Rattle.ec_language.specs.Letters.{Text, is_blank, is_word_byte, is_number_byte, is_sql_word_byte, is_sql_word_start, is_not_newline, is_empty, same_word}
use Rattle.ec_language.specs.Line.{newlines}
use Rattle.ec_language.specs.Pieces.{starts_piece}
use Rattle.ec_language.specs.ReadPieces as read
use Rattle.ec_language.specs.ReadPieces.{Behind, passed, cut, endless, sql_end, Read, piece_of, front}
use Rattle.ec_split.specs.declared.scanning.bytes.ByteClass.{ByteClass}
use Rattle.ec_split.specs.declared.scanning.bytes.ByteClass.TheVariants.{Blank, Word, Number, SqlWord, Line}
use Rattle.ec_split.specs.declared.scanning.ends.End.{End}
use Rattle.ec_split.specs.declared.scanning.ends.End.TheVariants.{Passed, Cut, Endless}
use Rattle.ec_split.specs.declared.embedded.Found.{Found}
use Rattle.ec_split.specs.declared.embedded.Found.TheVariants.{Whole, CutAt, Unended}
use Rattle.ec_split.specs.declared.parts.Extent.{Extent}
use Rattle.ec_split.specs.declared.parts.Fault.{Fault}

-- the bytes of a class
abbrev pub class_test : ByteClass → ℕ → Bool
class_test Blank = is_blank
class_test Word = is_word_byte
class_test Number = is_number_byte
class_test SqlWord = is_sql_word_byte
class_test Line = is_not_newline

-- a byte that is a unit of SQL text by itself, whatever stands behind it, and no `;`
abbrev pub is_single : ℕ → Bool
is_single b =
    is_blank b || b == 44 || b == 40 || b == 41 || b == 61 || b == 58 || b == 91 || b == 93
    || b == 42 || b == 60 || b == 62

-- a byte that begins a word of SQL, and is no `E`
abbrev pub is_plain_word_start : ℕ → Bool
is_plain_word_start b = is_sql_word_start b && not (b == 69 || b == 101)

-- the end that stands at an index
abbrev pub behind_at : Text → End → Behind
behind_at text (Passed end) = passed (drop end text)
behind_at text (Cut end) = cut (drop end text)
behind_at text Endless = endless

-- the text from an index on, if there is one
abbrev pub text_from : Text → Option ℕ → Option Text
text_from text index = option_map (λ i. drop i text) index

-- an end is in the text, and behind this index
abbrev pub Within : ℕ → Text → End → Type 0
Within from text (Passed end) = (from ≤ end) × (end ≤ length text)
Within from text (Cut end) = (from ≤ end) × (end ≤ length text)
Within from text Endless = ⊤

-- what was found, with the text behind it
abbrev pub found_at : Text → Found → read.Found
found_at text (Whole kind end) = read.found kind (drop end text)
found_at text (CutAt at) = read.cut_at (drop at text)
found_at text Unended = read.unended

abbrev pub FoundWithin : ℕ → Text → Found → Type 0
FoundWithin from text (Whole kind end) = (from ≤ end) × (end ≤ length text)
FoundWithin from text (CutAt at) = (from ≤ at) × (at ≤ length text)
FoundWithin from text Unended = ⊤

-- the text from an index on, up to another
abbrev pub between : Text → ℕ → ℕ → Text
between text from at = front (drop from text) (drop at text)

-- the piece that stands from an index on, on its line, or the fault
abbrev pub part_read : Text → ℕ → ℕ → Result Extent Fault → Read
part_read text from line (Ok part) =
    Ok (piece_of part.kind (between text from part.end) line, drop part.end text)
part_read text from line (Err fault) = Err (fault.kind, fault.line.0)

-- how many newlines stand between two indices
abbrev pub lines_between : Text → ℕ → ℕ → ℕ
lines_between text from at = newlines (between text from at)

-- whether C text ends here
abbrev pub ends_c_text : Text → Bool
ends_c_text text = is_empty text || starts_piece text

-- the C text that a text begins with
abbrev pub c_piece : ℕ → Text → Read
c_piece line text = read.c_piece line text (read.c_stop text)

-- the embedded piece that stands from an index on, behind whose `EXEC SQL` the other stands
abbrev pub embedded_piece : Text → ℕ → ℕ → ℕ → Read
embedded_piece text from line behind =
    read.embedded_piece line (drop from text) (read.embedded (drop behind text))

-- whether these words and a `;` stand behind a word that was found
abbrev pub words_behind : List Text → Text → Option ℕ → Bool
words_behind words text None = false
words_behind words text (Some end) = read.begins_words words (drop end text)

-- The answer is the index behind this word, blanks and comments before it aside, if it stands there.
abbrev pub FindsWord : Text → ℕ → Text → Option ℕ → Type 0
FindsWord text from word answer = (words : List Text)
    → words_behind words text answer ≡ read.begins_words (word ∷ words) (drop from text)

-- the unit that a text begins with, if one is passed, and the text behind it
abbrev pub word_before : Text → Behind → Text
word_before text (passed rest) = front text rest
word_before text (cut rest) = []
word_before text endless = []

abbrev pub text_behind : Text → Behind → Text
text_behind text (passed rest) = rest
text_behind text (cut rest) = text
text_behind text endless = text

abbrev pub first_unit : Text → Text
first_unit text = word_before text (sql_end text)

abbrev pub behind_first_unit : Text → Text
behind_first_unit text = text_behind text (sql_end text)

-- what a statement is that begins with this word, by the text behind the word
abbrev pub ends_mark : Text → Bool
ends_mark text = read.begins_words (codes "DECLARE" ∷ codes "SECTION" ∷ []) text

abbrev pub kind_behind : Text → Text → PieceKind
kind_behind word rest =
    if same_word word (codes "BEGIN") && ends_mark rest then SectionStart
    else if same_word word (codes "END") && ends_mark rest then SectionEnd
    else Emb

-- `EXEC SQL` and a blank stand first
abbrev pub StartsPlainly : Text → Type 0
StartsPlainly text = text ≡ codes "EXEC SQL " ++ drop 9 text
