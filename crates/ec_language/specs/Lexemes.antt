-- The longest matches of the classes of C tokens (ISO/IEC 9899:1999, 6.4).
use Rattle.std.specs.Prelude.{◌≡◌, ℕ, ◌<◌, Bool, true, not, ◌&&◌, ◌||◌, nat_le, ◌==◌, List, [], ◌∷◌, ◌++◌, drop, length, find, codes, Option, Some, None, option_map, if◌then◌else◌}
use Rattle.std.specs.List.{concat, list_all}
use Rattle.ec_ctypes.specs.declared.text.token.Punct.{Punct}
use Rattle.ec_ctypes.specs.declared.text.token.Punct.TheVariants as mark
use Rattle.ec_ctypes.specs.Texts.{punct_text}
use Rattle.ec_language.specs.Letters.{Text, newline, single_quote, is_blank, is_digit, is_empty, begins, begins_with, each, same_text, is_among}
use Rattle.ec_language.specs.CText.{is_word, is_number, is_quoted, is_block_comment, is_line_comment, CUnits}
use Rattle.ec_language.specs.Constants.{digits_value}
use Rattle.ec_language.specs.Pieces.{NoneStarts, starts_piece}

-- ---- classes, each a test of the bytes of one token

-- all punctuation marks (6.4.6)
abbrev pub puncts : List Punct
puncts =
    mark.Arrow ∷ mark.PlusPlus ∷ mark.MinusMinus ∷ mark.ShlAssign ∷ mark.ShrAssign ∷ mark.Shl
    ∷ mark.Shr ∷ mark.LessEqual ∷ mark.GreaterEqual
    ∷ mark.EqualEqual ∷ mark.NotEqual ∷ mark.AndAnd ∷ mark.OrOr ∷ mark.PlusAssign
    ∷ mark.MinusAssign ∷ mark.StarAssign ∷ mark.SlashAssign
    ∷ mark.PercentAssign ∷ mark.AndAssign ∷ mark.OrAssign ∷ mark.CaretAssign ∷ mark.LeftParen
    ∷ mark.RightParen ∷ mark.LeftBracket
    ∷ mark.RightBracket ∷ mark.LeftBrace ∷ mark.RightBrace ∷ mark.Semicolon ∷ mark.Comma ∷ mark.Dot
    ∷ mark.And ∷ mark.Star ∷ mark.Plus
    ∷ mark.Minus ∷ mark.Tilde ∷ mark.Not ∷ mark.Slash ∷ mark.Percent ∷ mark.Less ∷ mark.Greater
    ∷ mark.Caret ∷ mark.Or ∷ mark.Assign
    ∷ mark.Colon ∷ []

abbrev pub punct_of : Text → Option Punct
punct_of text = find (λ p. same_text (punct_text p) text) puncts

-- marks of C that are left out: the conditional operator, and the parameters of a variable number
abbrev pub is_left_out_mark : Text → Bool
is_left_out_mark = is_among (codes "?" ∷ codes "..." ∷ [])

pub data Class : Type 0 where
  word : Class
  number : Class
  character : Class
  string : Class
  punct : Punct → Class
  left_out : Class
  -- to the end of the line, or in `/*` and `*/`
  comment : Class

abbrev pub is_comment : Text → Bool
is_comment text = is_block_comment text || is_line_comment text

abbrev pub class_of : Text → Option Class
class_of text =
    if is_word text then Some word
    else if is_number text then Some number
    else if is_quoted text && begins (λ b. b == single_quote) text then Some character
    else if is_quoted text then Some string
    else if is_comment text then Some comment
    else if is_left_out_mark text then Some left_out
    else option_map punct (punct_of text)

-- The text, with the rest behind it, is of this class, and no longer front of what stands there is of any.
pub record Longest (text rest : Text) (class : Class) : Type 0 where
  pub is : class_of text ≡ Some class
  pub longest : (longer behind : Text) → text ++ rest ≡ longer ++ behind
      → length text < length longer → class_of longer ≡ None

-- ---- lines that begin with `#`

-- Whether nothing but blanks stands before on the line. At first nothing does.
abbrev pub is_fresh_after : Bool → Text → Bool
is_fresh_after fresh [] = fresh
is_fresh_after fresh (b ∷ bs) = is_fresh_after (b == newline || (fresh && is_blank b)) bs

-- An `#include` line (6.10.2): to the end of the line, or to a comment or an embedded piece that begins on it. Neither begins in quotes.
pub record IncludeLine (text rest : Text) : Type 0 where
  pub units : List Text
  pub whole : text ≡ concat units
  pub free : CUnits units rest
  pub begin : begins_with (codes "#include") text ≡ true
  pub inside : list_all (λ u. not (is_comment u || begins_with (newline ∷ []) u)) units ≡ true
  pub none : NoneStarts units rest
  pub ends : (is_empty rest || begins_with (newline ∷ []) rest || begins_with (codes "/*") rest
      || begins_with (codes "//") rest || starts_piece rest) ≡ true

-- decimal digits, one to nine, without a leading zero
abbrev pub is_line_number : Text → Bool
is_line_number digits =
    not (is_empty digits) && nat_le (length digits) 9 && each is_digit digits
    && not (begins (λ b. b == 48) digits)

-- a `#line` line of written C (6.10.4), without its newline: one space and a number
abbrev pub is_line_directive : Text → Bool
is_line_directive text = begins_with (codes "#line ") text && is_line_number (drop 6 text)

abbrev pub directive_number : Text → ℕ
directive_number text = digits_value 10 (drop 6 text)
