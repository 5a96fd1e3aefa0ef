-- The words of a text for the server.
--
-- Blanks and comments part words. A name in double quotes is one word, up to the next quote; where none follows, all that
-- is left is one word, which is no name. Letters, digits, `_` and bytes of 128 or more that stand beside one another are
-- one; and every other byte is one by itself.
use Rattle.std.specs.Prelude.{ℕ, zero, suc, ◌+◌, ◌==◌, nat_eq, Bool, true, false, ◌||◌, not, if◌then◌else◌, List, [], ◌∷◌, ◌++◌, length, map, take, Option, Some, None, unwrap_or, position, slice_index}
use Rattle.std.specs.Char.{is_ascii_whitespace, to_ascii_lowercase}
use Rattle.std.specs.Cmp.Lexicographic.{pointwise}
use Rattle.ec_sqlitelink.specs.declared.marks.Place.{Place}
use Rattle.ec_sqlitelink.specs.declared.marks.Place.TheVariants.{Free, Word as InWord, Quoted, LineComment, CommentOpening, BlockComment, CommentClosing}
use Rattle.ec_sqlitelink.specs.Marks.{is_word_byte, behind}

-- a word: as it stands, or the name that stood in quotes
pub data Word : Type 0 where
  plain : List ℕ → Word
  quoted : List ℕ → Word

-- a byte at that place is in a comment
abbrev pub is_comment : Place → Bool
is_comment Free = false
is_comment InWord = false
is_comment (Quoted end) = false
is_comment LineComment = true
is_comment CommentOpening = true
is_comment BlockComment = true
is_comment CommentClosing = true

-- a byte at that place, with `next` behind it, is a blank or belongs to a comment
abbrev pub is_gap : Place → ℕ → ℕ → Bool
is_gap place b next = is_comment place || is_comment (behind place b next) || is_ascii_whitespace b

-- how many bytes of the text belong to a word that it goes on with
abbrev pub word_length : List ℕ → ℕ
word_length text = unwrap_or (position (λ b. not (is_word_byte b)) text) (length text)

-- the word that begins with a quote, before `more`, whose first quote stands there
abbrev pub quoted_at : Option ℕ → List ℕ → Word
quoted_at None more = plain (34 ∷ more)
quoted_at (Some n) more = quoted (take n more)

-- the word at the front of a text
abbrev pub word_at : List ℕ → Word
word_at [] = plain []
word_at (b ∷ more) =
    if b == 34 then quoted_at (position (λ b. b == 34) more) more
    else (if is_word_byte b then plain (take (1 + word_length more) (b ∷ more)) else plain (b ∷ []))

-- how many bytes there are up to a quote and with it, by what stands before it
abbrev pub quote_passed : Option ℕ → List ℕ → ℕ
quote_passed None more = length more
quote_passed (Some n) more = n + 1

-- how many bytes belong to the word that begins with b, behind b
abbrev pub passed : ℕ → List ℕ → ℕ
passed b more =
    if b == 34 then quote_passed (position (λ b. b == 34) more) more
    else (if is_word_byte b then word_length more else 0)

-- the word that begins with the first byte of the text, if that byte is in no gap
abbrev pub word_here : Bool → List ℕ → List Word
word_here true text = []
word_here false text = word_at text ∷ []

-- the words of the rest of a text, whose first byte stands at that place, behind as many bytes as are passed over
abbrev pub words_from : Place → ℕ → List ℕ → List Word
words_from place k [] = []
words_from place (suc k) (b ∷ more) = words_from place k more
words_from place zero (b ∷ more) =
    word_here (is_gap place b (slice_index more 0)) (b ∷ more)
    ++ words_from
    (if is_gap place b (slice_index more 0) then behind place b (slice_index more 0) else Free)
    (if is_gap place b (slice_index more 0) then 0 else passed b more) more

-- the words of a text
abbrev pub words_of : List ℕ → List Word
words_of text = words_from Free 0 text

-- the text behind the blanks and comments at its front
abbrev pub behind_gap : Place → List ℕ → List ℕ
behind_gap place [] = []
behind_gap place (b ∷ more) =
    if is_gap place b (slice_index more 0)
    then behind_gap (behind place b (slice_index more 0)) more else b ∷ more

-- the word is this one of SQL, in any case of letters; a name in quotes is none
abbrev pub is : List ℕ → Word → Bool
is it (plain text) = pointwise nat_eq (map to_ascii_lowercase text) (map to_ascii_lowercase it)
is it (quoted text) = false

-- the words begin with that one
abbrev pub takes : List ℕ → List Word → Bool
takes it [] = false
takes it (w ∷ words) = is it w

-- the first word, and the words behind it
abbrev pub first : List Word → Option Word
first [] = None
first (w ∷ words) = Some w

abbrev pub others : List Word → List Word
others [] = []
others (w ∷ words) = words

-- the words behind that one, if they begin with it
abbrev pub behind_word : List ℕ → List Word → List Word
behind_word it words = if takes it words then others words else words
