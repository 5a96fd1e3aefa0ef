-- What stands at the beginning of C text, as the lexer sees it.
use Rattle.std.specs.Prelude.{◌≡◌, ℕ, ◌-◌, Bool, true, false, ◌==◌, take, drop, codes, ⊤, Option, Some, None, option_map, Result, Ok, Err, if◌then◌else◌}
use Rattle.ec_base.specs.declared.fault.FaultKind.{FaultKind}
use Rattle.ec_base.specs.declared.fault.FaultKind.TheVariants.{F9}
use Rattle.ec_base.specs.declared.stop.Stop.{Stop}
use Rattle.ec_base.specs.declared.stop.Stop.TheVariants.{Refused, Limit, OutOfMemory}
use Rattle.ec_ctypes.specs.declared.text.token.Tok.{Tok}
use Rattle.ec_ctypes.specs.trees.Tokens.{TokData, word_token}
use Rattle.ec_ctypes.specs.views.Tokens.{tok_view}
use Rattle.ec_language.specs.Letters.{Text, single_quote, is_not_newline, begins_with}
use Rattle.ec_language.specs.Constants.{unescaped, only_byte}
use Rattle.ec_language.specs.Tokens.{Step, counted, numbered_line, is_left_out_word, character_tok, string_tok}
use Rattle.ec_language.specs.ReadPieces.{Behind, passed, cut, endless, comment_end, quote_end, behind_all}
use Rattle.ec_language.specs.ReadTokens.{ReadItem, read_hash, lexeme, lexeme_item, with_front, mark_end, include_item, include_behind}
use Rattle.ec_clex.specs.declared.items.Item.{Item}

-- The answer is what is wanted, or there was no memory left.
abbrev pub Told : {A B : Type 0} → (A → B) → Result A Stop → Result B Stop → Type 0
Told see (Ok a) want = Ok (see a) ≡ want
Told see (Err (Refused kind line)) want = Err (Refused kind line) ≡ want
Told see (Err (Limit limit)) want = Err (Limit limit) ≡ want
Told see (Err OutOfMemory) want = ⊤

-- a token, or the fault on this line
abbrev pub at_line : ℕ → Result TokData FaultKind → Result TokData Stop
at_line line (Ok tok) = Ok tok
at_line line (Err kind) = Err (Refused kind (record { 0 = line }))

-- what is read, of which the token may be a fault on this line; this fault where nothing is read
abbrev pub item_checked : ℕ → ReadItem → Option (Result TokData FaultKind) → Result ReadItem Stop
item_checked line it None = Ok it
item_checked line it (Some (Ok tok)) = Ok it
item_checked line it (Some (Err kind)) = Err (Refused kind (record { 0 = line }))

abbrev pub item_of : FaultKind → ℕ → Option ReadItem → Result ReadItem Stop
item_of kind line None = Err (Refused kind (record { 0 = line }))
item_of kind line (Some it) = item_checked line it it.tok

abbrev pub step_view : Option ℕ → Step
step_view None = counted
step_view (Some number) = numbered_line number

abbrev pub some_tok : Option Tok → Option (Result TokData FaultKind)
some_tok None = None
some_tok (Some tok) = Some (Ok (tok_view tok))

-- an item that stands at an index
abbrev pub item_view : Text → ℕ → Item → ReadItem
item_view text at it = record {
  bytes = take (it.end - at) (drop at text);
  tok = some_tok it.tok;
  step = step_view it.number;
  rest = drop it.end text;
}

-- an item that is a token
abbrev pub with_end : ℕ → Result Tok Stop → Result Item Stop
with_end end (Ok tok) = Ok (record { tok = Some tok; number = None; end = end })
with_end end (Err stop) = Err stop

-- the token of a text in quotes, by its quote
abbrev pub quoted_tok : ℕ → Text → Result TokData FaultKind
quoted_tok quote inside =
    if quote == single_quote then character_tok (only_byte (unescaped inside))
    else string_tok (unescaped inside)

-- the text behind what is passed
abbrev pub if_passed : Behind → Option Text
if_passed behind = elim behind [ passed rest ↦ Some rest | cut rest ↦ None | endless ↦ None ]

-- the text behind the quote in which a text begins
abbrev pub quote_behind : ℕ → Text → Option Text
quote_behind quote text = if_passed (quote_end quote text)

-- the text behind the comment that a text begins with
abbrev pub comment_behind : Text → Option Text
comment_behind text = elim (begins_with (codes "/*") text) [
  | true ↦ if_passed (comment_end (drop 2 text))
  | false ↦ elim (begins_with (codes "//") text) [
    | true ↦ Some (behind_all is_not_newline (drop 2 text))
    | false ↦ None
  ]
]

-- what a line with `#` is, of which nothing but blanks may stand before
abbrev pub hash_item : Bool → Bool → Text → Option ReadItem
hash_item written fresh text = elim fresh [ true ↦ read_hash written text | false ↦ None ]

-- ---- what functions say of their answers

-- The answer is this token, or its fault on this line.
abbrev pub TellsTok : ℕ → Result Tok Stop → Result TokData FaultKind → Type 0
TellsTok line answer tok = Told tok_view answer (at_line line tok)

-- The answer is what is read at an index, or its fault on this line: this one where nothing is read.
abbrev pub TellsItem : Text → ℕ → ℕ → Result Item Stop → FaultKind → Option ReadItem → Type 0
TellsItem text at line answer kind read = Told (item_view text at) answer (item_of kind line read)

abbrev pub word_tok : Text → Result TokData FaultKind
word_tok text = if is_left_out_word text then Err F9 else Ok (word_token text)

abbrev pub character_of : Text → Result TokData FaultKind
character_of inside = character_tok (only_byte (unescaped inside))

-- what the longest match is that stands at an index
abbrev pub lexeme_at : Text → ℕ → Option ReadItem
lexeme_at text at = option_map lexeme_item (lexeme (drop at text))

abbrev pub mark_item_at : Text → ℕ → Option ReadItem
mark_item_at text at =
    option_map lexeme_item (option_map (with_front (drop at text)) (mark_end 3 (drop at text)))

abbrev pub include_at : Text → ℕ → Option ReadItem
include_at text at = option_map (include_item (drop at text)) (include_behind (drop at text))
