-- The tokens of a source, or of written C. C text is cut into the longest matches of the classes of tokens; an embedded piece is one token, or stands for marks.
use Rattle.std.specs.Prelude.{◌≡◌, ℕ, suc, ◌+◌, ◌-◌, ◌^◌, Bool, true, false, ◌&&◌, ◌==◌, ℤ, List, [], ◌∷◌, ◌++◌, length, codes, Option, Some, None, Result, Ok, Err, if◌then◌else◌, ⊤}
use Rattle.std.specs.List.{concat}
use Rattle.ec_base.specs.declared.fault.FaultKind.{FaultKind}
use Rattle.ec_base.specs.declared.fault.FaultKind.TheVariants.{F4, F5, F6, F9}
use Rattle.ec_base.specs.declared.fault.LimitKind.TheVariants.{L2}
use Rattle.ec_base.specs.declared.stop.Stop.{Stop}
use Rattle.ec_base.specs.declared.stop.Stop.TheVariants.{Refused, Limit}
use Rattle.ec_ctypes.specs.declared.text.piece.PieceKind.{PieceKind}
use Rattle.ec_ctypes.specs.declared.text.piece.PieceKind.TheVariants.{C, Emb, InPlace, SectionStart, SectionEnd}
use Rattle.ec_ctypes.specs.declared.text.piece.Piece.{Piece}
use Rattle.ec_ctypes.specs.declared.types.arith.Arith.{Arith}
use Rattle.ec_ctypes.specs.trees.Types.{arithmetic}
use Rattle.ec_ctypes.specs.trees.Tokens.{TokData, word_token, integer_token, character_token, string_token, punct_token, include_token, emb_token, section_start, section_end, end_token, TokenData}
use Rattle.ec_language.specs.Letters.{Text, newline, is_blank, is_empty, begins, begins_with, same_text, is_among}
use Rattle.ec_language.specs.Keywords.{left_out_words}
use Rattle.ec_language.specs.Line.{newlines}
use Rattle.ec_language.specs.CText.{CUnits}
use Rattle.ec_language.specs.Constants.{integer_constant, character_value, string_value}
use Rattle.ec_language.specs.Lexemes.{Class, word, number, character, string, punct, left_out, comment, Longest, IncludeLine, is_fresh_after, is_line_directive, directive_number}
use Rattle.ec_language.specs.SqlTokens.{SqlToken, StatementUnits, sql_tokens_from, first_bad_line, is_executable}
use Rattle.ec_language.specs.Pieces.{Declared}

-- ---- what stands in a text, one after the other

-- a token with the line of its first byte, or the fault that stands in its place
pub record Part : Type 0 where
  pub line : ℕ
  pub tok : Result TokData FaultKind

-- words of C that are left out
abbrev pub is_left_out_word : Text → Bool
is_left_out_word = is_among left_out_words

abbrev pub integer_tok : Option (ℕ × Arith) → Result TokData FaultKind
integer_tok None = Err F5
integer_tok (Some p) = Ok (integer_token p.0 (arithmetic p.1))

abbrev pub character_tok : Option ℤ → Result TokData FaultKind
character_tok None = Err F6
character_tok (Some c) = Ok (character_token c)

abbrev pub string_tok : Option Text → Result TokData FaultKind
string_tok None = Err F6
string_tok (Some bytes) = Ok (string_token bytes)

-- the token of a longest match: a comment is none
abbrev pub token_of : Class → Text → Option (Result TokData FaultKind)
token_of word text = Some (if is_left_out_word text then Err F9 else Ok (word_token text))
token_of number text = Some (integer_tok (integer_constant text))
token_of character text = Some (character_tok (character_value text))
token_of string text = Some (string_tok (string_value text))
token_of (punct p) text = Some (Ok (punct_token p))
token_of left_out text = Some (Err F9)
token_of comment text = None

-- how lines are numbered behind a text
pub data Step : Type 0 where
  -- by its newlines
  counted : Step
  -- what follows has this number
  numbered_line : ℕ → Step

-- What stands at the beginning of C text, with the rest behind it: a blank, a longest match, or a line with `#`, which stands first on its line. It is a token or none. `written`: it is written C.
pub data Item (written : Bool) : Bool → Text → Text → Option (Result TokData FaultKind) → Step
    → Type 0 where
  blank : (fresh : Bool) (text rest : Text) → length text ≡ 1 → begins is_blank text ≡ true
      → Item written fresh text rest None counted
  match : (fresh : Bool) (text rest : Text) (class : Class)
      (tok : Option (Result TokData FaultKind)) → Longest text rest class
      → tok ≡ token_of class text
      → Item written fresh text rest tok counted
  include : (fresh : Bool) (text rest : Text) → fresh ≡ true → IncludeLine text rest
      → Item written fresh text rest (Some (Ok (include_token text))) counted
  directive : (fresh : Bool) (text line rest : Text) → fresh ≡ true → written ≡ true
      → text ≡ line ++ newline ∷ [] → is_line_directive line ≡ true
      → Item written fresh text rest None (numbered_line (directive_number line))
  -- no line follows that it could number
  last_directive : (fresh : Bool) (text rest : Text) → fresh ≡ true → written ≡ true → rest ≡ []
      → is_line_directive text ≡ true
      → Item written fresh text rest None counted

abbrev pub line_behind : ℕ → Text → Step → ℕ
line_behind line text counted = line + newlines text
line_behind line text (numbered_line n) = n

abbrev pub part_at : ℕ → Option (Result TokData FaultKind) → List Part
part_at line None = []
part_at line (Some tok) = record { line = line; tok = tok } ∷ []

-- nothing stands at the beginning of this text
abbrev pub NoItem : Bool → Bool → Text → Type 0
NoItem written fresh text =
    (u rest : Text) (tok : Option (Result TokData FaultKind)) (step : Step) → text ≡ u ++ rest
    → Item written fresh u rest tok step → ⊥

-- the fault of a byte that begins nothing: the first of a line, `#` begins a line that is left out
abbrev pub bad_byte : Bool → Text → FaultKind
bad_byte fresh text = if fresh && begins_with (codes "#") text then F9 else F4

-- The parts of C text that begins on a line, with the line at its end. `fresh`: nothing but blanks stands before it on its line. A fault is a part, and others follow it; but a byte that begins nothing ends them.
pub data CParts (written : Bool) : ℕ → Bool → Text → List Part → ℕ → Type 0 where
  end : (line : ℕ) (fresh : Bool) → CParts written line fresh [] [] line
  item : (line : ℕ) (fresh : Bool) (text u rest : Text) (tok : Option (Result TokData FaultKind))
      (step : Step) (parts others : List Part) (last : ℕ)
      → text ≡ u ++ rest → Item written fresh u rest tok step
      → CParts written (line_behind line u step) (is_fresh_after fresh u) rest others last
      → parts ≡ part_at line tok ++ others → CParts written line fresh text parts last
  bad : (line : ℕ) (fresh : Bool) (text : Text) (parts : List Part) → is_empty text ≡ false
      → NoItem written fresh text
      → parts ≡ record { line = line; tok = Err (bad_byte fresh text) } ∷ []
      → CParts written line fresh text parts line

-- ---- pieces

abbrev pub fault_at : Option ℕ → FaultKind → List Part
fault_at None kind = []
fault_at (Some line) kind = record { line = line; tok = Err kind } ∷ []

-- how far the text that ends a piece begins behind the piece's first line
abbrev pub lines_before : Text → Text → ℕ
lines_before bytes ending = newlines bytes - newlines ending

-- The parts of a piece that begins on a line, with the line at its end. So many statements stand before it.
pub data PieceParts (written : Bool) (line : ℕ) (fresh : Bool) (statements : ℕ)
    (p : Piece) : List Part → ℕ → Type 0 where
  c_text : (parts : List Part) (last : ℕ) → p.kind ≡ C
      → CParts written line fresh p.bytes parts last
      → PieceParts written line fresh statements p parts last
  -- one token. A byte in it that begins no token of SQL is a fault behind it
  statement : (units : List Text) (parts : List Part) (last : ℕ) → p.kind ≡ Emb → written ≡ false
      → StatementUnits p.bytes units
      → parts ≡ record { line = line; tok = Ok (emb_token statements (is_executable units)) }
      ∷ fault_at (first_bad_line (line + lines_before p.bytes (concat units)) units) F4
      → last ≡ line + newlines p.bytes → PieceParts written line fresh statements p parts last
  opening : (parts : List Part) (last : ℕ) → p.kind ≡ SectionStart → written ≡ false
      → parts ≡ record { line = line; tok = Ok section_start } ∷ [] → last ≡ line + newlines p.bytes
      → PieceParts written line fresh statements p parts last
  closing : (parts : List Part) (last : ℕ) → p.kind ≡ SectionEnd → written ≡ false
      → parts ≡ record { line = line; tok = Ok section_end } ∷ [] → last ≡ line + newlines p.bytes
      → PieceParts written line fresh statements p parts last
  -- C text between two marks
  declaration : (found : Declared CUnits p.bytes []) (parts inner : List Part) (last : ℕ)
      → p.kind ≡ InPlace → written ≡ false
      → CParts written (line + lines_before p.bytes (concat (found.first ∷ found.others))) false
      (concat (found.first ∷ found.others)) inner last
      → parts ≡ record { line = line; tok = Ok section_start } ∷ inner
      ++ record { line = last; tok = Ok section_end } ∷ []
      → PieceParts written line fresh statements p parts last
  -- written C has nothing embedded in it
  embedded : (parts : List Part) (last : ℕ) → (p.kind ≡ C → ⊥) → written ≡ true
      → parts ≡ record { line = line; tok = Err F9 } ∷ [] → last ≡ line + newlines p.bytes
      → PieceParts written line fresh statements p parts last

abbrev pub statements_behind : ℕ → PieceKind → ℕ
statements_behind n Emb = suc n
statements_behind n _ = n

-- The parts of pieces, one after the other.
abbrev pub AllParts : Bool → ℕ → Bool → ℕ → List Piece → List Part → ℕ → Type 0
AllParts written line fresh statements [] parts last = (parts ≡ []) × (last ≡ line)
AllParts written line fresh statements (p ∷ ps) parts last =
    (first : List Part) × (others : List Part) × (between : ℕ) × (parts ≡ first ++ others)
    × PieceParts written line fresh statements p first between
    × AllParts written between (is_fresh_after fresh p.bytes)
    (statements_behind statements p.kind) ps others last

-- ---- tokens

-- neighbouring strings are one, on the line of the first (5.1.1.2, phase 6)
abbrev pub join_two : Part → Result TokData FaultKind → Part → Result TokData FaultKind → List Part
    → List Part
join_two p (Ok (string_token a)) q (Ok (string_token b)) parts =
    record { line = p.line; tok = Ok (string_token (a ++ b)) } ∷ parts
join_two p a q b parts = p ∷ q ∷ parts

abbrev pub join_first : Part → List Part → List Part
join_first p [] = p ∷ []
join_first p (q ∷ parts) = join_two p p.tok q q.tok parts

abbrev pub join_strings : List Part → List Part
join_strings [] = []
join_strings (p ∷ parts) = join_first p (join_strings parts)

abbrev pub is_include_of : Text → Result TokData FaultKind → Bool
is_include_of text (Ok (include_token bytes)) = same_text bytes text
is_include_of text _ = false

-- the two lines at the head of written C are passed over
abbrev pub without_head : Bool → List Part → List Part
without_head written [] = []
without_head written (p ∷ []) = p ∷ []
without_head written (p ∷ q ∷ parts) =
    if written && is_include_of (codes "#include <ecpglib.h>") p.tok
    && is_include_of (codes "#include <sqlca.h>") q.tok then parts else p ∷ q ∷ parts

abbrev pub max_tokens : ℕ
max_tokens = 2 ^ 22

abbrev pub token : TokData → ℕ → ℕ → TokenData
token tok line place = record { tok = tok; line = record { 0 = line }; place = place }

abbrev pub with_token : TokenData → Result (List TokenData) Stop → Result (List TokenData) Stop
with_token t (Ok ts) = Ok (t ∷ ts)
with_token t (Err stop) = Err stop

-- so many tokens are as many as there may be; `None` for no limit
abbrev pub is_full : Option ℕ → ℕ → Bool
is_full None tokens = false
is_full (Some most) tokens = tokens == most

-- a part, and what follows it, with so many tokens at most
abbrev pub part_within : Option ℕ → ℕ → ℕ → Result TokData FaultKind → Result (List TokenData) Stop
    → Result (List TokenData) Stop
part_within most place line (Err kind) others = Err (Refused kind (record { 0 = line }))
part_within most place line (Ok tok) others =
    if is_full most place then Err (Limit L2) else with_token (token tok line place) others

-- The tokens of the parts, the first of which has this place, and the end; or the first fault, or the limit. The end is not counted.
abbrev pub numbered_within : Option ℕ → ℕ → ℕ → List Part → Result (List TokenData) Stop
numbered_within most place last [] = Ok (token end_token last place ∷ [])
numbered_within most place last (p ∷ parts) =
    part_within most place p.line p.tok (numbered_within most (suc place) last parts)

-- What the tokens of the pieces are, with so many at most, or why there are none.
abbrev pub TokensWithin : Option ℕ → Bool → List Piece → Result (List TokenData) Stop → Type 0
TokensWithin most written pieces answer =
    (parts : List Part) × (last : ℕ) × AllParts written 1 true 0 pieces parts last
    × (answer ≡ numbered_within most 0 last (without_head written (join_strings parts)))

-- ---- tokens within the limit

abbrev pub numbered_part : ℕ → ℕ → Result TokData FaultKind → Result (List TokenData) Stop
    → Result (List TokenData) Stop
numbered_part = part_within (Some max_tokens)

abbrev pub numbered : ℕ → ℕ → List Part → Result (List TokenData) Stop
numbered = numbered_within (Some max_tokens)

-- What the tokens of the pieces are, or why there are none.
abbrev pub TokensOrStop : Bool → List Piece → Result (List TokenData) Stop → Type 0
TokensOrStop = TokensWithin (Some max_tokens)

-- These are the tokens of the pieces.
abbrev pub Tokens : Bool → List Piece → List TokenData → Type 0
Tokens written pieces tokens = TokensOrStop written pieces (Ok tokens)

-- ---- the tokens of a statement

abbrev pub refused_at : Option ℕ → List SqlToken → Result (List SqlToken) Stop
refused_at None tokens = Ok tokens
refused_at (Some line) tokens = Err (Refused F4 (record { 0 = line }))

-- the tokens of units, the first of which stands on this line, or the fault of the first byte that begins none
abbrev pub sql_answer : ℕ → List Text → Result (List SqlToken) Stop
sql_answer line units = refused_at (first_bad_line line units) (sql_tokens_from false line units)

-- What the tokens of an embedded statement are that begins on this line, or why there are none.
abbrev pub SqlTokensOrStop : ℕ → Text → Result (List SqlToken) Stop → Type 0
SqlTokensOrStop line bytes answer =
    (units : List Text) × StatementUnits bytes units
    × (answer ≡ sql_answer (line + lines_before bytes (concat units)) units)

-- These are the tokens of the statement.
abbrev pub SqlTokens : ℕ → Text → List SqlToken → Type 0
SqlTokens line bytes tokens = SqlTokensOrStop line bytes (Ok tokens)

-- The bytes are a statement in which each byte stands in a token or a gap.
abbrev pub HasSqlTokens : Text → Type 0
HasSqlTokens bytes =
    (units : List Text) × StatementUnits bytes units × (first_bad_line 0 units ≡ None)

-- Each statement among the pieces has tokens.
abbrev pub HaveSqlTokens : List Piece → Type 0
HaveSqlTokens [] = ⊤
HaveSqlTokens (p ∷ pieces) = (p.kind ≡ Emb → HasSqlTokens p.bytes) × HaveSqlTokens pieces
