-- A plain reading of a text: its pieces, or its first fault. It goes through the text from the front, and says of each part what stands behind it.
use Rattle.std.specs.Prelude.{ℕ, zero, suc, pred, ◌+◌, ◌-◌, Bool, true, false, ◌&&◌, ◌||◌, ◌==◌, List, [], ◌∷◌, length, take, drop, codes, Option, Some, None, Result, Ok, Err, if◌then◌else◌}
use Rattle.ec_base.specs.declared.fault.FaultKind.{FaultKind}
use Rattle.ec_base.specs.declared.fault.FaultKind.TheVariants.{F1, F2, F3}
use Rattle.ec_ctypes.specs.declared.text.piece.PieceKind.{PieceKind}
use Rattle.ec_ctypes.specs.declared.text.piece.PieceKind.TheVariants.{C, Emb, InPlace, SectionStart, SectionEnd}
use Rattle.ec_ctypes.specs.declared.text.piece.Piece.{Piece}
use Rattle.ec_language.specs.Letters.{Text, semicolon, single_quote, backslash, is_blank, is_digit, is_word_start, is_word_byte, is_number_byte, is_sql_word_start, is_sql_word_byte, is_quote, is_not_newline, is_empty, begins, begins_with, same_word}
use Rattle.ec_language.specs.Line.{newlines}
use Rattle.ec_language.specs.SqlText.{begins_number}
use Rattle.ec_language.specs.Pieces.{behind_start, starts_piece, is_type_word}

-- ---- the end of what a text begins with

-- What stands behind the part with which a text begins: its end was found, or the newline that cuts a quote of C text, or neither.
pub data Behind : Type 0 where
  passed : Text → Behind
  cut : Text → Behind
  endless : Behind

-- the text from the first byte on that fails the test
abbrev pub behind_all : (ℕ → Bool) → Text → Text
behind_all test [] = []
behind_all test (b ∷ bs) = elim (test b) [ true ↦ behind_all test bs | false ↦ b ∷ bs ]

-- inside of a comment: to the first `*/`
abbrev pub comment_end : Text → Behind
comment_end [] = endless
comment_end (b ∷ []) = endless
comment_end (b ∷ c ∷ bs) = elim (begins_with (codes "*/") (b ∷ c ∷ [])) [
  | true ↦ passed bs
  | false ↦ comment_end (c ∷ bs)
]

-- inside of a quote of C text
abbrev pub quote_end : ℕ → Text → Behind
quote_end q [] = endless
quote_end q (b ∷ []) = elim (b == q) [
  | true ↦ passed []
  | false ↦ elim (is_not_newline b) [ true ↦ endless | false ↦ cut (b ∷ []) ]
]
quote_end q (b ∷ c ∷ bs) = elim (b == q) [
  | true ↦ passed (c ∷ bs)
  | false ↦ elim (b == backslash) [
    | true ↦ elim (is_not_newline c) [ true ↦ quote_end q bs | false ↦ cut (c ∷ bs) ]
    | false ↦ elim (is_not_newline b) [ true ↦ quote_end q (c ∷ bs) | false ↦ cut (b ∷ c ∷ bs) ]
  ]
]

-- inside of a quote of SQL text, in which a doubled quote stands for one
abbrev pub sql_quote_end : ℕ → Text → Behind
sql_quote_end q [] = endless
sql_quote_end q (b ∷ []) = elim (b == q) [ true ↦ passed [] | false ↦ endless ]
sql_quote_end q (b ∷ c ∷ bs) = elim (b == q) [
  | true ↦ elim (c == q) [ true ↦ sql_quote_end q bs | false ↦ passed (c ∷ bs) ]
  | false ↦ sql_quote_end q (c ∷ bs)
]

-- the same after the word `E`, where a backslash and the byte behind it close nothing
abbrev pub escaped_end : Text → Behind
escaped_end [] = endless
escaped_end (b ∷ []) = elim (b == single_quote) [ true ↦ passed [] | false ↦ endless ]
escaped_end (b ∷ c ∷ bs) = elim (b == backslash) [
  | true ↦ escaped_end bs
  | false ↦ elim (b == single_quote) [
    | true ↦ elim (c == single_quote) [ true ↦ escaped_end bs | false ↦ passed (c ∷ bs) ]
    | false ↦ escaped_end (c ∷ bs)
  ]
]

-- inside of a comment of SQL text, with so many comments in it open too
abbrev pub nested_end : ℕ → Text → Behind
nested_end inner [] = endless
nested_end inner (b ∷ []) = endless
nested_end inner (b ∷ c ∷ bs) = elim (begins_with (codes "/*") (b ∷ c ∷ [])) [
  | true ↦ nested_end (suc inner) bs
  | false ↦ elim (begins_with (codes "*/") (b ∷ c ∷ [])) [
    | true ↦ elim inner [ zero ↦ passed bs | suc n ↦ nested_end n bs ]
    | false ↦ nested_end inner (c ∷ bs)
  ]
]

-- ---- units

-- behind the first unit of C text
abbrev pub c_end : Text → Behind
c_end [] = endless
c_end (b ∷ bs) =
    elim (is_word_start b) [
      | true ↦ passed (behind_all is_word_byte bs)
      | false ↦
          elim (is_digit b) [
            | true ↦ passed (behind_all is_number_byte bs)
            | false ↦
                elim (is_quote b) [
                  | true ↦ quote_end b bs
                  | false ↦
                      elim (begins_with (codes "/*") (b ∷ bs)) [
                        | true ↦ comment_end (drop 1 bs)
                        | false ↦
                            elim (begins_with (codes "//") (b ∷ bs)) [
                              | true ↦ passed (behind_all is_not_newline (drop 1 bs))
                              | false ↦ passed bs
                            ]
                      ]
                ]
          ]
    ]

-- whether a text begins with the word `E` and a quote directly behind it
abbrev pub begins_escaped : Text → Bool
begins_escaped [] = false
begins_escaped (b ∷ bs) = same_word (b ∷ []) (codes "E") && begins_with (codes "'") bs

-- behind the first unit of SQL text
abbrev pub sql_end : Text → Behind
sql_end [] = endless
sql_end (b ∷ bs) =
    elim (begins_escaped (b ∷ bs)) [
      | true ↦ escaped_end (drop 1 bs)
      | false ↦
          elim (is_sql_word_start b) [
            | true ↦ passed (behind_all is_sql_word_byte bs)
            | false ↦
                elim (begins_number (b ∷ bs)) [
                  | true ↦ passed (behind_all is_number_byte bs)
                  | false ↦
                      elim (is_quote b) [
                        | true ↦ sql_quote_end b bs
                        | false ↦
                            elim (begins_with (codes "/*") (b ∷ bs)) [
                              | true ↦ nested_end 0 (drop 1 bs)
                              | false ↦
                                  elim (begins_with (codes "--") (b ∷ bs)) [
                                    | true ↦ passed (behind_all is_not_newline (drop 1 bs))
                                    | false ↦ passed bs
                                  ]
                            ]
                      ]
                ]
          ]
    ]

-- the part of a text that stands before its rest
abbrev pub front : Text → Text → Text
front text rest = take (length text - length rest) text

-- ---- going from unit to unit

-- one step of a walk: on, or its result
pub data Step (S R : Type 0) : Type 0 where
  on : S → Step S R
  halt : R → Step S R

-- the result of a walk, if it takes no more steps than this
abbrev pub walk : {S R : Type 0} → (S → Step S R) → R → ℕ → S → R
walk step none zero state = none
walk step none (suc n) state = elim (step state) [
  | on next ↦ walk step none n next
  | halt result ↦ result
]

-- C text stops where an embedded piece starts, and where no unit stands
abbrev pub c_step : Text → Step Text Text
c_step text = elim (starts_piece text) [
  | true ↦ halt text
  | false ↦ elim (c_end text) [ passed rest ↦ on rest | cut rest ↦ halt text | endless ↦ halt text ]
]

abbrev pub c_stop : Text → Text
c_stop text = walk c_step [] (suc (length text)) text

-- whether a text of SQL begins with a blank or a comment
abbrev pub begins_gap : Text → Bool
begins_gap text =
    begins is_blank text || begins_with (codes "/*") text || begins_with (codes "--") text

abbrev pub gap_step : Text → Step Text Text
gap_step text = elim (begins_gap text) [
  | true ↦ elim (sql_end text) [
    | passed rest ↦ on rest
    | cut rest ↦ halt text
    | endless ↦ halt text
  ]
  | false ↦ halt text
]

-- the text behind blanks and comments
abbrev pub gap_stop : Text → Text
gap_stop text = walk gap_step [] (suc (length text)) text

abbrev pub begins_semicolon : Text → Bool
begins_semicolon text = begins (λ b. b == semicolon) text

abbrev pub statement_step : Text → Step Text (Option Text)
statement_step text = elim (begins_semicolon text) [
  | true ↦ halt (Some (drop 1 text))
  | false ↦ elim (sql_end text) [
    | passed rest ↦ on rest
    | cut rest ↦ halt None
    | endless ↦ halt None
  ]
]

-- the text behind the `;` of a statement
abbrev pub statement_end : Text → Option Text
statement_end text = walk statement_step None (suc (length text)) text

-- ---- embedded pieces

-- What was found where an embedded piece starts: its kind and the text behind it, or the quote in it that has no end, or no end of the piece.
pub data Found : Type 0 where
  found : PieceKind → Text → Found
  cut_at : Text → Found
  unended : Found

-- how many braces are open behind the unit with which the text begins
abbrev pub braces_behind : ℕ → Text → ℕ
braces_behind open_ [] = open_
braces_behind open_ (b ∷ bs) =
    if b == 123 then suc open_ else if b == 125 then pred open_ else open_

-- whether the text begins with the `;` of a declaration
abbrev pub begins_end : ℕ × Text → Bool
begins_end state = begins_semicolon state.1 && state.0 == 0

-- in a declaration in which a quote has no end
abbrev pub loose_step : ℕ × Text → Step (ℕ × Text) Bool
loose_step state = elim (begins_end state) [
  | true ↦ halt true
  | false ↦ elim (c_end state.1) [
    | passed rest ↦ on (braces_behind state.0 state.1, rest)
    | cut rest ↦ on (state.0, rest)
    | endless ↦ halt false
  ]
]

abbrev pub has_end : ℕ × Text → Bool
has_end state = walk loose_step false (suc (length state.1)) state

abbrev pub declaration_step : ℕ × Text → Step (ℕ × Text) Found
declaration_step state = elim (begins_end state) [
  | true ↦ halt (found InPlace (drop 1 state.1))
  | false ↦ elim (c_end state.1) [
    | passed rest ↦ on (braces_behind state.0 state.1, rest)
    | cut rest ↦ elim (has_end (state.0, rest)) [
      | true ↦ halt (cut_at state.1)
      | false ↦ halt unended
    ]
    | endless ↦ halt unended
  ]
]

-- of the text from the type word on
abbrev pub declaration : Text → Found
declaration text = walk declaration_step unended (suc (length text)) (0, text)

-- whether the first unit of SQL text is a word that begins a declaration
abbrev pub begins_type : Text → Bool
begins_type text = elim (sql_end text) [
  | passed rest ↦ is_type_word (front text rest)
  | cut rest ↦ false
  | endless ↦ false
]

-- whether the text is these words, blanks and comments aside, and then a `;`
abbrev pub begins_words : List Text → Text → Bool
begins_words [] text = begins_semicolon (gap_stop text)
begins_words (w ∷ ws) text = elim (sql_end (gap_stop text)) [
  | passed rest ↦ elim (same_word (front (gap_stop text) rest) w) [
    | true ↦ begins_words ws rest
    | false ↦ false
  ]
  | cut rest ↦ false
  | endless ↦ false
]

abbrev pub statement_kind : Text → PieceKind
statement_kind text =
    elim (begins_words (codes "BEGIN" ∷ codes "DECLARE" ∷ codes "SECTION" ∷ []) text) [
      | true ↦ SectionStart
      | false ↦ elim (begins_words (codes "END" ∷ codes "DECLARE" ∷ codes "SECTION" ∷ []) text) [
        | true ↦ SectionEnd
        | false ↦ Emb
      ]
    ]

-- of the text behind `EXEC SQL`
abbrev pub statement : Text → Found
statement text = elim (statement_end text) [
  | Some rest ↦ found (statement_kind text) rest
  | None ↦ unended
]

abbrev pub embedded : Text → Found
embedded text = elim (begins_type (gap_stop text)) [
  | true ↦ declaration (gap_stop text)
  | false ↦ statement text
]

-- of a text that starts a piece
abbrev pub found_at : Text → Found
found_at text = elim (behind_start text) [ Some behind ↦ embedded behind | None ↦ unended ]

-- ---- pieces

-- A piece and the text behind it, or the fault and its line.
abbrev pub Read : Type 0
Read = Result (Piece × Text) (FaultKind × ℕ)

abbrev pub piece_of : PieceKind → Text → ℕ → Piece
piece_of kind bytes line = record { kind = kind; bytes = bytes; line = record { 0 = line } }

-- the fault of a text that begins with a comment or a quote without end
abbrev pub fault_kind : Text → FaultKind
fault_kind text = elim (begins_with (codes "/*") text) [ true ↦ F1 | false ↦ F2 ]

-- C text that stops there
abbrev pub c_piece : ℕ → Text → Text → Read
c_piece line text stop = elim (is_empty stop || starts_piece stop) [
  | true ↦ Ok (piece_of C (front text stop) line, stop)
  | false ↦ Err (fault_kind stop, line + newlines (front text stop))
]

abbrev pub embedded_piece : ℕ → Text → Found → Read
embedded_piece line text (found kind rest) = Ok (piece_of kind (front text rest) line, rest)
embedded_piece line text (cut_at quote) = Err (F2, line + newlines (front text quote))
embedded_piece line text unended = Err (F3, line)

-- the first piece of a text that begins on this line and is not empty
abbrev pub first_piece : ℕ → Text → Read
first_piece line text = elim (starts_piece text) [
  | true ↦ embedded_piece line text (found_at text)
  | false ↦ c_piece line text (c_stop text)
]

abbrev pub with_first : Piece → Result (List Piece) (FaultKind × ℕ)
    → Result (List Piece) (FaultKind × ℕ)
with_first p (Ok ps) = Ok (p ∷ ps)
with_first p (Err fault) = Err fault

-- the pieces of a text that begins on this line, if there are no more than this
abbrev pub read_up_to : ℕ → ℕ → Text → Result (List Piece) (FaultKind × ℕ)
read_up_to zero line text = Ok []
read_up_to (suc n) line [] = Ok []
read_up_to (suc n) line (b ∷ bs) = elim (first_piece line (b ∷ bs)) [
  | Ok read ↦ with_first read.0 (read_up_to n (line + newlines read.0.bytes) read.1)
  | Err fault ↦ Err fault
]

abbrev pub read_from : ℕ → Text → Result (List Piece) (FaultKind × ℕ)
read_from line text = read_up_to (suc (length text)) line text

-- the pieces of a text, or its first fault
abbrev pub read_pieces : Text → Result (List Piece) (FaultKind × ℕ)
read_pieces text = read_from 1 text
