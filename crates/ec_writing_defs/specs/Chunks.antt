-- Written C as a list of chunks, one after the other: its tokens, and what parts them. A tree decides its chunks, and three functions of chunks are all that is said of texts: their bytes, their tokens and their lines.
use Rattle.std.specs.Prelude.{ℕ, suc, ◌+◌, ◌-◌, ◌/◌, ◌%◌, Bool, true, false, ◌||◌, ◌&&◌, nat_le, ◌==◌, List, [], ◌∷◌, ◌++◌, codes, ℤ, pos, negsuc}
use Rattle.std.specs.Fmt.{decimal}
use Rattle.ec_ctypes.specs.declared.types.arith.Arith.TheVariants.{UInt, Long, ULong, LLong, ULLong}
use Rattle.ec_ctypes.specs.trees.Types.{TyData, arithmetic}
use Rattle.ec_ctypes.specs.trees.Tokens.{TokData, word_token, integer_token, character_token, string_token, punct_token, include_token}
use Rattle.ec_ctypes.specs.Texts.{punct_text}
use Rattle.ec_language.specs.Letters.{Text, newline, single_quote, double_quote, backslash}
use Rattle.ec_language.specs.Productions.{Placed}
use Rattle.ec_language.specs.Tokens.{token}

pub data Chunk : Type 0 where
  the : TokData → Chunk
  blank : Chunk
  -- a newline
  line_end : Chunk
  -- a line `#line N`, with its newline (ISO/IEC 9899:1999, 6.10.4)
  line_mark : ℕ → Chunk

abbrev pub Chunks : Type 0
Chunks = List Chunk

-- ---- their bytes

-- the suffix of an integer constant of this type (6.4.4.1)
abbrev pub suffix : TyData → Text
suffix (arithmetic UInt) = codes "U"
suffix (arithmetic Long) = codes "L"
suffix (arithmetic ULong) = codes "UL"
suffix (arithmetic LLong) = codes "LL"
suffix (arithmetic ULLong) = codes "ULL"
suffix _ = []

-- whether a byte stands for itself between these quotes
abbrev pub is_plain : ℕ → ℕ → Bool
is_plain quote b =
    elim (b == quote || b == backslash) [ true ↦ false | false ↦ nat_le 32 b && nat_le b 126 ]

-- an octal escape (6.4.4.4), always of three digits, so that a digit behind it is none of its own
abbrev pub octal : ℕ → Text
octal b = backslash ∷ (48 + b / 64) ∷ (48 + (b / 8) % 8) ∷ (48 + b % 8) ∷ []

-- a byte between these quotes
abbrev pub quoted_byte : ℕ → ℕ → Text
quoted_byte quote b = elim (is_plain quote b) [ true ↦ b ∷ [] | false ↦ octal b ]

-- the bytes, and the closing quote
abbrev pub quoted_bytes : ℕ → Text → Text
quoted_bytes quote [] = quote ∷ []
quoted_bytes quote (b ∷ bs) = quoted_byte quote b ++ quoted_bytes quote bs

abbrev pub quoted : ℕ → Text → Text
quoted quote bytes = quote ∷ quoted_bytes quote bytes

-- characters are signed, of 8 bits
abbrev pub byte_of : ℤ → ℕ
byte_of (pos n) = n
byte_of (negsuc n) = 255 - n

-- Embedded statements and marks have no text in written C.
abbrev pub token_text : TokData → Text
token_text (word_token w) = w
token_text (integer_token n t) = decimal n ++ suffix t
token_text (character_token c) = quoted single_quote (byte_of c ∷ [])
token_text (string_token s) = quoted double_quote s
token_text (punct_token p) = punct_text p
token_text (include_token bytes) = bytes
token_text _ = []

abbrev pub chunk_text : Chunk → Text
chunk_text (the t) = token_text t
chunk_text blank = 32 ∷ []
chunk_text line_end = newline ∷ []
chunk_text (line_mark n) = codes "#line " ++ (decimal n ++ newline ∷ [])

abbrev pub text_of : Chunks → Text
text_of [] = []
text_of (c ∷ cs) = chunk_text c ++ text_of cs

-- ---- their lines and tokens

-- where a chunk stands: on which line, and behind how many tokens
pub record At : Type 0 where
  pub line : ℕ
  pub place : ℕ

abbrev pub behind : At → Chunk → At
behind at (the t) = record { line = at.line; place = suc at.place }
behind at blank = at
behind at line_end = record { line = suc at.line; place = at.place }
behind at (line_mark n) = record { line = n; place = at.place }

abbrev pub behind_all : At → Chunks → At
behind_all at [] = at
behind_all at (c ∷ cs) = behind_all (behind at c) cs

abbrev pub place_token : At → TokData → Placed
place_token at t = record { token = token t at.line at.place; section = false }

abbrev pub chunk_tokens : At → Chunk → List Placed
chunk_tokens at (the t) = place_token at t ∷ []
chunk_tokens at _ = []

-- the tokens of chunks, from there on
abbrev pub tokens_from : At → Chunks → List Placed
tokens_from at [] = []
tokens_from at (c ∷ cs) = chunk_tokens at c ++ tokens_from (behind at c) cs

-- the line behind chunks that begin on this one
abbrev pub line_behind : ℕ → Chunks → ℕ
line_behind line [] = line
line_behind line (the t ∷ cs) = line_behind line cs
line_behind line (blank ∷ cs) = line_behind line cs
line_behind line (line_end ∷ cs) = line_behind (suc line) cs
line_behind line (line_mark n ∷ cs) = line_behind n cs
