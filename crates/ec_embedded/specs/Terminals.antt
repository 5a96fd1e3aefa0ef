-- What the forms of embedded statements tell of a token, and what is counted in them.
use Rattle.std.specs.Prelude.{ℕ, suc, ◌^◌, Bool, true, false, not, nat_le, nat_lt, ◌==◌, List, [], ◌∷◌, codes, Option, Some, None, is_some, if◌then◌else◌}
use Rattle.ec_embedded.specs.shapes.Shapes.{Alphabet}
use Rattle.ec_language.specs.Constants.{digits_value, character_value}
use Rattle.ec_language.specs.Letters.{Text, is_digit, each, begins, single_quote, same_word}
use Rattle.ec_language.specs.SqlTokens.{SqlToken, SqlClass}
use Rattle.ec_language.specs.SqlTokens as sql

-- ---- sorts of tokens

pub data Sort : Type 0 where
  word : Sort
  -- decimal digits alone, with a value that a long has
  fitting : Sort
  -- decimal digits alone, with a greater value
  whole : Sort
  -- any other number
  number : Sort
  -- in `'`, and a character constant of C too
  character : Sort
  -- in `'`
  quote : Sort
  -- in `"`
  name : Sort
  mark : Sort

abbrev pub number_sort : Text → Sort
number_sort b = if not (each is_digit b) then number
    else if nat_lt (digits_value 10 b) (2 ^ 63) then fitting else whole

abbrev pub quoted_sort : Text → Sort
quoted_sort b = if not (begins (λ c. c == single_quote) b) then name
    else if is_some (character_value b) then character else quote

abbrev pub sort_by : SqlClass → Text → Sort
sort_by sql.word b = word
sort_by sql.number b = number_sort b
sort_by sql.quoted b = quoted_sort b
sort_by sql.mark b = mark

abbrev pub sort_of : SqlToken → Sort
sort_of t = sort_by t.class t.bytes

-- ---- tests of texts

-- whether the text is one of these, without regard to the case of letters
abbrev pub is_word_among : List Text → Text → Bool
is_word_among [] t = false
is_word_among (w ∷ ws) t = elim (same_word w t) [ true ↦ true | false ↦ is_word_among ws t ]

pub data Test : Type 0 where
  none : Test
  all : Test
  among : List Text → Test
  but : List Text → Test

abbrev pub passes : Test → Text → Bool
passes none t = false
passes all t = true
passes (among ws) t = is_word_among ws t
passes (but ws) t = not (is_word_among ws t)

-- ---- terminals

-- what begins with a token: an input, a reference that is none, a suffix of a reference
pub data Begins : Type 0 where
  nothing : Begins
  input : Begins
  reference : Begins
  suffix : Begins

-- which texts of each sort a terminal is, where a gap stands before it and where none does; what begins there; one token of it
pub record Terminal : Type 0 where
  pub test : Sort → Bool → Test
  pub begins : Begins
  pub example : SqlToken

abbrev pub is : Terminal → SqlToken → Bool
is t x = passes (t.test (sort_of x) x.gap) x.bytes

-- ---- terminals that have no token in common

abbrev pub none_among : List Text → List Text → Bool
none_among [] us = true
none_among (w ∷ ws) us = elim (is_word_among us w) [ true ↦ false | false ↦ none_among ws us ]

abbrev pub all_among : List Text → List Text → Bool
all_among [] us = true
all_among (w ∷ ws) us = elim (is_word_among us w) [ true ↦ all_among ws us | false ↦ false ]

abbrev pub tests_apart : Test → Test → Bool
tests_apart none t = true
tests_apart s none = true
tests_apart (among ws) (among us) = none_among ws us
tests_apart (among ws) (but us) = all_among ws us
tests_apart (but ws) (among us) = all_among us ws
tests_apart s t = false

abbrev pub sorts : List Sort
sorts = word ∷ fitting ∷ whole ∷ number ∷ character ∷ quote ∷ name ∷ mark ∷ []

abbrev pub apart_in : (Sort → Bool → Test) → (Sort → Bool → Test) → List Sort → Bool
apart_in f g [] = true
apart_in f g (s ∷ l) =
    elim (tests_apart (f s true) (g s true)) [
      | true ↦ elim (tests_apart (f s false)
          (g s false)) [ true ↦ apart_in f g l | false ↦ false ]
      | false ↦ false
    ]

abbrev pub apart : Terminal → Terminal → Bool
apart t u = apart_in t.test u.test sorts

-- ---- counts

-- the inputs of the statement, and the suffixes of the last reference
pub record Counts : Type 0 where
  pub inputs : ℕ
  pub suffixes : ℕ

abbrev pub no_counts : Counts
no_counts = record { inputs = 0; suffixes = 0 }

abbrev pub max_inputs : ℕ
max_inputs = 1000

abbrev pub max_suffixes : ℕ
max_suffixes = 64

abbrev pub step_by : Begins → Counts → Option Counts
step_by nothing n = Some n
step_by input n = if nat_le (suc n.inputs) max_inputs
    then Some (record { inputs = suc n.inputs; suffixes = 0 }) else None
step_by reference n = Some (record { inputs = n.inputs; suffixes = 0 })
step_by suffix n = if nat_le (suc n.suffixes) max_suffixes
    then Some (record { inputs = n.inputs; suffixes = suc n.suffixes }) else None

abbrev pub alphabet : Alphabet Terminal SqlToken Counts
alphabet =
    record { is = is; apart = apart; example = λ t. t.example; step = λ n t. step_by t.begins n }

-- ---- the terminals of the forms

abbrev pub some_token : SqlClass → Text → Bool → SqlToken
some_token class bytes gap = record { class = class; bytes = bytes; gap = gap; line = 0 }

abbrev pub on_words : Test → Sort → Bool → Test
on_words t word gap = t
on_words t _ gap = none

-- with a gap before it, and without one
abbrev pub on_parted_words : Test → Sort → Bool → Test
on_parted_words t word true = t
on_parted_words t _ gap = none

abbrev pub on_glued_words : Sort → Bool → Test
on_glued_words word false = all
on_glued_words _ gap = none

abbrev pub on_marks : Text → Sort → Bool → Test
on_marks m mark gap = among (m ∷ [])
on_marks m _ gap = none

abbrev pub on_glued_marks : Text → Sort → Bool → Test
on_glued_marks m mark false = among (m ∷ [])
on_glued_marks m _ gap = none

-- numbers of any value, and those that a long has
abbrev pub on_wholes : Sort → Bool → Test
on_wholes fitting gap = all
on_wholes whole gap = all
on_wholes _ gap = none

abbrev pub on_fitting : Sort → Bool → Test
on_fitting fitting gap = all
on_fitting _ gap = none

abbrev pub on_glued_fitting : Sort → Bool → Test
on_glued_fitting fitting false = all
on_glued_fitting _ gap = none

abbrev pub on_quotes : Sort → Bool → Test
on_quotes quote gap = all
on_quotes character gap = all
on_quotes _ gap = none

abbrev pub on_characters : Sort → Bool → Test
on_characters character gap = all
on_characters _ gap = none

-- this word
abbrev pub keyword : Text → Terminal
keyword w = record {
  test = on_words (among (w ∷ []));
  begins = nothing;
  example = some_token sql.word w false;
}

-- this word, with a gap before it
abbrev pub parted_word : Text → Terminal
parted_word w = record {
  test = on_parted_words (among (w ∷ []));
  begins = nothing;
  example = some_token sql.word w true;
}

abbrev pub any_word : Terminal
any_word =
    record {
      test = on_words all;
      begins = nothing;
      example = some_token sql.word (codes "x") false;
    }

-- any word but these
abbrev pub other_word : List Text → Terminal
other_word ws = record {
  test = on_words (but ws);
  begins = nothing;
  example = some_token sql.word (codes "_") false;
}

abbrev pub word_but : Text → Terminal
word_but w = other_word (w ∷ [])

-- a word with no gap before it
abbrev pub glued_word : Terminal
glued_word = record {
  test = on_glued_words;
  begins = nothing;
  example = some_token sql.word (codes "x") false;
}

abbrev pub sign : Text → Terminal
sign m = record { test = on_marks m; begins = nothing; example = some_token sql.mark m false }

-- the `:` of a reference, which may be that of an input
abbrev pub colon : Begins → Terminal
colon b = record {
  test = on_marks (codes ":");
  begins = b;
  example = some_token sql.mark (codes ":") false;
}

-- the first token of a suffix, and the last one
abbrev pub suffix_sign : Text → Terminal
suffix_sign m =
    record { test = on_glued_marks m; begins = suffix; example = some_token sql.mark m false }

abbrev pub glued_sign : Text → Terminal
glued_sign m =
    record { test = on_glued_marks m; begins = nothing; example = some_token sql.mark m false }

-- a number with the type of a decimal constant, with no gap before it and with or without one
abbrev pub glued_number : Terminal
glued_number = record {
  test = on_glued_fitting;
  begins = nothing;
  example = some_token sql.number (codes "0") false;
}

abbrev pub fitting_number : Terminal
fitting_number =
    record {
      test = on_fitting;
      begins = nothing;
      example = some_token sql.number (codes "0") false;
    }

abbrev pub whole_number : Terminal
whole_number =
    record { test = on_wholes; begins = nothing; example = some_token sql.number (codes "0") false }

-- constants that are inputs: a number, the sign before one, and a quote
abbrev pub input_number : Terminal
input_number =
    record { test = on_wholes; begins = input; example = some_token sql.number (codes "0") false }

abbrev pub input_minus : Terminal
input_minus = record {
  test = on_marks (codes "-");
  begins = input;
  example = some_token sql.mark (codes "-") false;
}

abbrev pub input_quote : Terminal
input_quote =
    record { test = on_quotes; begins = input; example = some_token sql.quoted (codes "''") false }

abbrev pub plain_quote : Terminal
plain_quote =
    record {
      test = on_quotes;
      begins = nothing;
      example = some_token sql.quoted (codes "''") false;
    }

abbrev pub character_constant : Terminal
character_constant = record {
  test = on_characters;
  begins = nothing;
  example = some_token sql.quoted (codes "'x'") false;
}

-- what a target may begin with that is neither a quote nor a reference
abbrev pub on_target : Sort → Bool → Test
on_target word gap = but (codes "AS" ∷ codes "USER" ∷ [])
on_target mark gap = but (codes ":" ∷ [])
on_target quote gap = none
on_target character gap = none
on_target _ gap = all

-- what stands further on in it
abbrev pub on_target_more : Sort → Bool → Test
on_target_more word gap = but (codes "AS" ∷ codes "USER" ∷ [])
on_target_more _ gap = all

-- what stands in it behind a `:` that begins no reference
abbrev pub on_target_behind : Sort → Bool → Test
on_target_behind word false = none
on_target_behind word true = but (codes "AS" ∷ codes "USER" ∷ [])
on_target_behind _ gap = all

abbrev pub target_start : Terminal
target_start =
    record { test = on_target; begins = nothing; example = some_token sql.word (codes "x") false }

abbrev pub target_more : Terminal
target_more = record {
  test = on_target_more;
  begins = nothing;
  example = some_token sql.word (codes "x") false;
}

abbrev pub target_behind : Terminal
target_behind = record {
  test = on_target_behind;
  begins = nothing;
  example = some_token sql.mark (codes ":") true;
}
