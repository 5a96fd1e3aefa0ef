-- Which `$` of a text for the server are marks of parameters, and the text in which they are written `?`.
--
-- Where a byte stands is told by the bytes before it, by the rules of SQLite's tokenizer (`sqlite3GetToken`): quotes are
-- '..', "..", `..` and [..], comments `-- ..` and `/* .. */`, and a word goes on with letters, digits, `_`, `$` and all
-- bytes of 128 or more.
use Rattle.std.specs.Prelude.{ℕ, ◌==◌, Bool, ◌&&◌, ◌||◌, nat_le, if◌then◌else◌, List, [], ◌∷◌, Option, Some, None, slice_index}
use Rattle.std.specs.Char.{is_ascii_digit, is_ascii_alphanumeric}
use Rattle.ec_sqlitelink.specs.declared.marks.Place.{Place}
use Rattle.ec_sqlitelink.specs.declared.marks.Place.TheVariants.{Free, Word, Quoted, LineComment, CommentOpening, BlockComment, CommentClosing}

-- a byte of a word, other than `$`
abbrev pub is_word_byte : ℕ → Bool
is_word_byte b = is_ascii_alphanumeric b || b == 95 || nat_le 128 b

-- the byte that ends the quote that begins with this one
abbrev pub quote_end : ℕ → Option ℕ
quote_end b = if b == 39 || b == 34 || b == 96 then Some b else (if b == 91 then Some 93 else None)

-- where the byte behind b stands, if b is in no word, quote or comment, and `next` is the byte behind it
abbrev pub begun : Option ℕ → ℕ → ℕ → Place
begun (Some end) b next = Quoted end
begun None b next =
    if b == 45 && next == 45 then LineComment
    else (if b == 47 && next == 42 then CommentOpening
    else (if is_word_byte b then Word else Free))

-- where the byte behind b stands, if b stands at that place, and `next` is the byte behind it
abbrev pub behind : Place → ℕ → ℕ → Place
behind Free b next = begun (quote_end b) b next
behind Word b next = if is_word_byte b || b == 36 then Word else begun (quote_end b) b next
behind (Quoted end) b next = if b == end then Free else Quoted end
behind LineComment b next = if b == 10 then Free else LineComment
behind CommentOpening b next = BlockComment
behind BlockComment b next = if b == 42 && next == 47 then CommentClosing else BlockComment
behind CommentClosing b next = Free

-- a `$` with a digit behind it that is in no word, quote or comment is written `?`, and every other byte as it is
abbrev pub marked : Place → ℕ → ℕ → ℕ
marked Free b next = if b == 36 && is_ascii_digit next then 63 else b
marked _ b next = b

-- the rest of a text, whose first byte stands at that place, with its marks written so
abbrev pub marked_from : Place → List ℕ → List ℕ
marked_from place [] = []
marked_from place (b ∷ rest) =
    marked place b (slice_index rest 0) ∷ marked_from (behind place b (slice_index rest 0)) rest

-- the text with its marks written so
abbrev pub with_marks : List ℕ → List ℕ
with_marks text = marked_from Free text
