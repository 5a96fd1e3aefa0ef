-- The tokens of an embedded statement, as the code has them.
use Rattle.std.specs.Prelude.{◌≡◌, ℕ, Bool, false, ◌||◌, ◌==◌, List, [], ◌∷◌, ◌++◌, map, codes, Option, if◌then◌else◌}
use Rattle.ec_language.specs.Letters.{Text, dollar, is_blank, is_quote, begins, begins_with, is_sql_word_start}
use Rattle.ec_language.specs.Line.{newlines}
use Rattle.ec_language.specs.ReadPieces.{passed, sql_end, front, begins_semicolon, begins_gap, begins_escaped}
use Rattle.ec_language.specs.SqlText.{begins_number}
use Rattle.ec_language.specs.SqlTokens as sql
use Rattle.ec_language.specs.ReadTokens.{sql_units}
use Rattle.ec_clex.specs.declared.sql.SqlClass.{SqlClass}
use Rattle.ec_clex.specs.declared.sql.SqlClass.TheVariants.{Word, Number, Quoted, Mark}
use Rattle.ec_clex.specs.declared.sql.SqlToken.{SqlToken}
use Rattle.ec_clex.specs.declared.sql.SqlLexer.{SqlLexer}

abbrev pub class_view : SqlClass → sql.SqlClass
class_view Word = sql.word
class_view Number = sql.number
class_view Quoted = sql.quoted
class_view Mark = sql.mark

-- a token, as the definition has it
abbrev pub sql_view : SqlToken → sql.SqlToken
sql_view t = record {
  class = class_view t.class;
  bytes = t.bytes.now;
  gap = t.gap;
  line = t.line.0;
}

abbrev pub sql_views : List SqlToken → List sql.SqlToken
sql_views ts = map sql_view ts

-- what a unit is that begins a text, and is no gap and no escaped quote
abbrev pub first_class : Text → sql.SqlClass
first_class [] = sql.mark
first_class (b ∷ bs) =
    if is_sql_word_start b then sql.word
    else if begins_number (b ∷ bs) then sql.number
    else if is_quote b then sql.quoted
    else sql.mark

-- whether a mark of two bytes begins a text
abbrev pub begins_pair : Text → Bool
begins_pair text = begins_with (codes "::") text || begins_with (codes "->") text

-- a byte that is a mark by itself, but for what makes it one of two bytes
abbrev pub is_lone_mark : ℕ → Bool
is_lone_mark b =
    b == 44 || b == 40 || b == 41 || b == 61 || b == 58 || b == 91 || b == 93 || b == 42
    || b == 60 || b == 62

-- a byte that begins no token
abbrev pub is_bad_byte : ℕ → Bool
is_bad_byte b = b == 0 || b == dollar

abbrev pub begins_bad : Text → Bool
begins_bad text = begins is_bad_byte text

abbrev pub begins_blank : Text → Bool
begins_blank text = begins is_blank text

-- A unit begins a text that has this rest, and is one token of this class, in which no newline stands.
pub record IsFlat (text rest : Text) (class : SqlClass) : Type 0 where
  pub more : begins_semicolon text ≡ false
  pub behind : passed rest ≡ sql_end text
  pub solid : begins_gap text ≡ false
  pub plain : begins_escaped text ≡ false
  pub alone : begins_pair text ≡ false
  pub is : class_view class ≡ first_class text
  pub good : begins_bad text ≡ false
  pub lines : newlines (front text rest) ≡ 0

-- all tokens of a statement of which these are taken, and this text is left
abbrev pub all_tokens : SqlLexer → Text → List sql.SqlToken
all_tokens l text = sql_views l.tokens ++ sql.sql_tokens_from l.gap l.line (sql_units text)

-- the line of the first unit that begins no token, where this text is left
abbrev pub bad_line : SqlLexer → Text → Option ℕ
bad_line l text = sql.first_bad_line l.line (sql_units text)

-- the token of these bytes that comes next
abbrev pub next_token : SqlLexer → SqlClass → Text → sql.SqlToken
next_token l class bytes =
    record { class = class_view class; bytes = bytes; gap = l.gap; line = l.line }
