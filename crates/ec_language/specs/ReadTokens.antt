-- A plain reading of pieces: their tokens, or the first fault or the limit. It goes through each piece from the front, and says of each part what stands behind it.
use Rattle.std.specs.Prelude.{ℕ, zero, suc, ◌+◌, Bool, true, false, ◌||◌, ◌==◌, List, [], ◌∷◌, ◌++◌, length, take, drop, codes, Option, Some, None, option_map, Result, Ok, Err, if◌then◌else◌}
use Rattle.std.specs.List.{concat}
use Rattle.ec_base.specs.declared.fault.FaultKind.{FaultKind}
use Rattle.ec_base.specs.declared.fault.FaultKind.TheVariants.{F4, F9}
use Rattle.ec_base.specs.declared.stop.Stop.{Stop}
use Rattle.ec_ctypes.specs.declared.text.piece.PieceKind.{PieceKind}
use Rattle.ec_ctypes.specs.declared.text.piece.PieceKind.TheVariants.{C, Emb, InPlace, SectionStart, SectionEnd}
use Rattle.ec_ctypes.specs.declared.text.piece.Piece.{Piece}
use Rattle.ec_ctypes.specs.trees.Tokens.{TokData, include_token, emb_token, section_start, section_end, TokenData}
use Rattle.ec_language.specs.Letters.{Text, newline, single_quote, is_blank, is_digit, is_word_start, is_word_byte, is_number_byte, is_quote, is_not_newline, is_empty, begins_with}
use Rattle.ec_language.specs.Line.{newlines}
use Rattle.ec_language.specs.Lexemes.{Class, word, number, character, string, punct, left_out, comment, punct_of, is_left_out_mark, is_fresh_after, is_line_directive, directive_number}
use Rattle.ec_language.specs.SqlTokens.{first_bad_line, is_executable}
use Rattle.ec_language.specs.Pieces.{behind_start, starts_piece}
use Rattle.ec_language.specs.Tokens.{Part, token_of, Step, counted, numbered_line, line_behind, part_at, bad_byte, fault_at, lines_before, statements_behind, join_strings, without_head, numbered}
use Rattle.ec_language.specs.ReadPieces.{passed, cut, endless, behind_all, comment_end, quote_end, c_end, sql_end, front, begins_semicolon, gap_stop}

-- ---- longest matches

-- the class of a mark, which is left out or not
abbrev pub mark_class : Text → Option Class
mark_class text = if is_left_out_mark text then Some left_out else option_map punct (punct_of text)

-- the longest mark of at most so many bytes, and the text behind it
abbrev pub mark_end : ℕ → Text → Option (Class × Text)
mark_end zero text = None
mark_end (suc n) text = elim (mark_class (take (suc n) text)) [
  | Some class ↦ Some (class, drop (suc n) text)
  | None ↦ mark_end n text
]

-- the class of what a quote begins
abbrev pub quoted_class : ℕ → Class
quoted_class q = if q == single_quote then character else string

-- The class of the longest match at the beginning of a text, and the text behind it. No mark has more than three bytes.
abbrev pub lexeme_end : Text → Option (Class × Text)
lexeme_end [] = None
lexeme_end (b ∷ bs) =
    elim (is_word_start b) [
      | true ↦ Some (word, behind_all is_word_byte bs)
      | false ↦
          elim (is_digit b) [
            | true ↦ Some (number, behind_all is_number_byte bs)
            | false ↦
                elim (is_quote b) [
                  | true ↦ elim (quote_end b bs) [
                    | passed rest ↦ Some (quoted_class b, rest)
                    | cut rest ↦ None
                    | endless ↦ None
                  ]
                  | false ↦
                      elim (begins_with (codes "/*") (b ∷ bs)) [
                        | true ↦ elim (comment_end (drop 1 bs)) [
                          | passed rest ↦ Some (comment, rest)
                          | cut rest ↦ mark_end 3 (b ∷ bs)
                          | endless ↦ mark_end 3 (b ∷ bs)
                        ]
                        | false ↦ elim (begins_with (codes "//") (b ∷ bs)) [
                          | true ↦ Some (comment, behind_all is_not_newline (drop 1 bs))
                          | false ↦ mark_end 3 (b ∷ bs)
                        ]
                      ]
                ]
          ]
    ]

-- the same with the bytes before that text
abbrev pub with_front : Text → Class × Text → Class × Text × Text
with_front text end = (end.0, front text end.1, end.1)

-- The class and the bytes of the longest match at the beginning of a text, and the text behind it.
abbrev pub lexeme : Text → Option (Class × Text × Text)
lexeme text = option_map (with_front text) (lexeme_end text)

-- ---- what stands at the beginning of C text

-- its bytes, what it is, how lines are numbered behind it, and the text behind it
pub record ReadItem : Type 0 where
  pub bytes : Text
  pub tok : Option (Result TokData FaultKind)
  pub step : Step
  pub rest : Text

-- where an `#include` line ends: with its line, or before a comment or an embedded piece
abbrev pub ends_include : Text → Bool
ends_include text =
    is_empty text || begins_with (newline ∷ []) text || begins_with (codes "/*") text
    || begins_with (codes "//") text || starts_piece text

-- the text behind an `#include` line that goes on with this text, which has no more units than this
abbrev pub include_end : ℕ → Text → Option Text
include_end zero text = None
include_end (suc n) text = elim (ends_include text) [
  | true ↦ Some text
  | false ↦ elim (c_end text) [
    | passed rest ↦ include_end n rest
    | cut rest ↦ None
    | endless ↦ None
  ]
]

-- the text behind an `#include` line, if the text begins with one
abbrev pub include_behind : Text → Option Text
include_behind text = include_end (suc (length text)) text

-- an `#include` line of this text, with this rest
abbrev pub include_item : Text → Text → ReadItem
include_item text rest = record {
  bytes = front text rest;
  tok = Some (Ok (include_token (front text rest)));
  step = counted;
  rest = rest;
}

-- a `#line` line, and what stands behind it, from its newline on
abbrev pub directive_item : Text → Text → ReadItem
directive_item line [] = record { bytes = line; tok = None; step = counted; rest = [] }
directive_item line (b ∷ bs) = record {
  bytes = line ++ b ∷ [];
  tok = None;
  step = numbered_line (directive_number line);
  rest = bs;
}

-- a `#line` line of written C, if the text begins with one
abbrev pub read_directive : Text → Option ReadItem
read_directive text = elim (is_line_directive (front text (behind_all is_not_newline text))) [
  | true ↦ Some (directive_item (front text (behind_all is_not_newline text))
      (behind_all is_not_newline text))
  | false ↦ None
]

-- a line that begins with `#`
abbrev pub read_hash : Bool → Text → Option ReadItem
read_hash written text = elim (begins_with (codes "#include") text) [
  | true ↦ option_map (include_item text) (include_behind text)
  | false ↦ elim written [ true ↦ read_directive text | false ↦ None ]
]

-- a longest match
abbrev pub lexeme_item : Class × Text × Text → ReadItem
lexeme_item found = record {
  bytes = found.1;
  tok = token_of found.0 found.1;
  step = counted;
  rest = found.2;
}

-- The first thing that stands at the beginning of C text: a blank, a line with `#`, or a longest match. Nothing else begins with `#`.
abbrev pub read_item : Bool → Bool → Text → Option ReadItem
read_item written fresh [] = None
read_item written fresh (b ∷ bs) =
    elim (is_blank b) [
      | true ↦ Some (record { bytes = b ∷ []; tok = None; step = counted; rest = bs })
      | false ↦
          elim (b == 35) [
            | true ↦ elim fresh [ true ↦ read_hash written (b ∷ bs) | false ↦ None ]
            | false ↦
                option_map lexeme_item (lexeme (b ∷ bs))
          ]
    ]

-- ---- the parts of C text

-- parts, and the line behind them
pub record ReadParts : Type 0 where
  pub parts : List Part
  pub last : ℕ

-- parts before those that were read
abbrev pub with_parts : List Part → ReadParts → ReadParts
with_parts parts read = record { parts = parts ++ read.parts; last = read.last }

-- one part, and the line behind it
abbrev pub one_part : ℕ → Result TokData FaultKind → ℕ → ReadParts
one_part line tok last = record { parts = record { line = line; tok = tok } ∷ []; last = last }

-- of C text that begins on this line and has no more items than this
abbrev pub c_parts_within : ℕ → Bool → ℕ → Bool → Text → ReadParts
c_parts_within zero written line fresh text = record { parts = []; last = line }
c_parts_within (suc n) written line fresh [] = record { parts = []; last = line }
c_parts_within (suc n) written line fresh (b ∷ bs) = elim (read_item written fresh (b ∷ bs)) [
  | Some item ↦ with_parts (part_at line item.tok)
      (c_parts_within n written (line_behind line item.bytes item.step)
      (is_fresh_after fresh item.bytes) item.rest)
  | None ↦ one_part line (Err (bad_byte fresh (b ∷ bs))) line
]

-- the parts of C text that begins on this line
abbrev pub c_parts : Bool → ℕ → Bool → Text → ReadParts
c_parts written line fresh text = c_parts_within (length text) written line fresh text

-- ---- the parts of a piece

-- the units of a text up to the first `;`, if there are no more than this
abbrev pub units_within : ℕ → Text → List Text
units_within zero text = []
units_within (suc n) text = elim (begins_semicolon text) [
  | true ↦ []
  | false ↦ elim (sql_end text) [
    | passed rest ↦ front text rest ∷ units_within n rest
    | cut rest ↦ []
    | endless ↦ []
  ]
]

-- the units of a text up to the first `;`
abbrev pub sql_units : Text → List Text
sql_units text = units_within (suc (length text)) text

-- the text behind `EXEC SQL`
abbrev pub text_behind_start : Text → Text
text_behind_start bytes = elim (behind_start bytes) [ Some text ↦ text | None ↦ [] ]

-- the units of a statement between `EXEC SQL` and its `;`
abbrev pub statement_units : Text → List Text
statement_units bytes = sql_units (text_behind_start bytes)

-- a declaration after `EXEC SQL`, from its type word on
abbrev pub declaration_text : Text → Text
declaration_text bytes = gap_stop (text_behind_start bytes)

abbrev pub statement_parts : ℕ → ℕ → Text → List Text → ReadParts
statement_parts line statements bytes units = record {
  parts =
      record { line = line; tok = Ok (emb_token statements (is_executable units)) }
      ∷ fault_at (first_bad_line (line + lines_before bytes (concat units)) units) F4;
  last = line + newlines bytes;
}

-- C text between two marks, the first of which stands on this line
abbrev pub marked : ℕ → ReadParts → ReadParts
marked line inner = record {
  parts =
      record { line = line; tok = Ok section_start } ∷ inner.parts
      ++ record { line = inner.last; tok = Ok section_end } ∷ [];
  last = inner.last;
}

abbrev pub declaration_parts : ℕ → Text → Text → ReadParts
declaration_parts line bytes text =
    marked line (c_parts false (line + lines_before bytes text) false text)

-- of what is embedded in a source
abbrev pub embedded_parts : PieceKind → ℕ → ℕ → Text → ReadParts
embedded_parts C line statements bytes = record { parts = []; last = line }
embedded_parts Emb line statements bytes =
    statement_parts line statements bytes (statement_units bytes)
embedded_parts InPlace line statements bytes = declaration_parts line bytes (declaration_text bytes)
embedded_parts SectionStart line statements bytes =
    one_part line (Ok section_start) (line + newlines bytes)
embedded_parts SectionEnd line statements bytes =
    one_part line (Ok section_end) (line + newlines bytes)

-- of a piece that is not C text
abbrev pub other_parts : Bool → PieceKind → ℕ → ℕ → Text → ReadParts
other_parts written kind line statements bytes = elim written [
  | true ↦ one_part line (Err F9) (line + newlines bytes)
  | false ↦ embedded_parts kind line statements bytes
]

-- whether a piece is C text
abbrev pub is_c : PieceKind → Bool
is_c C = true
is_c _ = false

-- of a piece that begins on this line, behind so many statements
abbrev pub piece_parts : Bool → ℕ → Bool → ℕ → Piece → ReadParts
piece_parts written line fresh statements p = elim (is_c p.kind) [
  | true ↦ c_parts written line fresh p.bytes
  | false ↦ other_parts written p.kind line statements p.bytes
]

-- ---- tokens

-- the parts of pieces, one after the other
abbrev pub all_parts : Bool → ℕ → Bool → ℕ → List Piece → ReadParts
all_parts written line fresh statements [] = record { parts = []; last = line }
all_parts written line fresh statements (p ∷ ps) =
    with_parts (piece_parts written line fresh statements p).parts
    (all_parts written (piece_parts written line fresh statements p).last
    (is_fresh_after fresh p.bytes) (statements_behind statements p.kind) ps)

-- the tokens of all parts
abbrev pub tokens_of : Bool → ReadParts → Result (List TokenData) Stop
tokens_of written read = numbered 0 read.last (without_head written (join_strings read.parts))

-- the tokens of pieces, or why there are none
abbrev pub read_tokens : Bool → List Piece → Result (List TokenData) Stop
read_tokens written pieces = tokens_of written (all_parts written 1 true 0 pieces)
