-- The parameters of a text that is prepared: each `?` of it that is no part of a quote or a comment is sent as `$1`, `$2` and on. Words, numbers, quotes and comments are those of SQL (PostgreSQL manual, 4.1).
use Rattle.std.specs.Prelude.{ℕ, zero, suc, ◌==◌, ◌&&◌, ◌||◌, nat_le, nat_lt, cond, Bool, true, false, List, [], ◌∷◌, ◌++◌, codes}
use Rattle.std.specs.Fmt.{decimal}
use Rattle.ec_call_defs.specs.Outcomes.{Text}

-- what a byte outside quotes and comments may go on: nothing, the word `E`, another word, or a number
pub data Last : Type 0 where
  nothing : Last
  lone_e : Last
  a_word : Last
  a_number : Last

-- where a byte stands: free, in a quote that ends with this byte, in one behind the word `E`, in a comment to the end of its line, or within so many comments, less one
pub data Zone : Type 0 where
  free : Last → Zone
  quote : ℕ → Zone
  e_quote : Zone
  line_comment : Zone
  comments : ℕ → Zone

abbrev pub is_letter : ℕ → Bool
is_letter b = (nat_le 65 b && nat_le b 90) || (nat_le 97 b && nat_le b 122)

abbrev pub is_digit : ℕ → Bool
is_digit b = nat_le 48 b && nat_le b 57

-- a letter, `_`, or a byte above 127
abbrev pub begins_name : ℕ → Bool
begins_name b = is_letter b || b == 95 || nat_lt 127 b

-- these, digits and `$`
abbrev pub goes_on_name : ℕ → Bool
goes_on_name b = begins_name b || is_digit b || b == 36

-- letters, digits, `_` and the point
abbrev pub goes_on_number : ℕ → Bool
goes_on_number b = is_letter b || is_digit b || b == 95 || b == 46

-- what a byte begins, by the one behind it: a point begins a number where a digit follows
abbrev pub begun_by : ℕ → ℕ → Zone
begun_by b c =
    cond (b == 69 || b == 101) (free lone_e)
    (cond (begins_name b) (free a_word)
    (cond (is_digit b || (b == 46 && is_digit c)) (free a_number)
    (cond (b == 39 || b == 34) (quote b) (free nothing))))

-- where the byte behind a free one stands. An apostrophe directly behind the word `E` begins a quote in which a backslash takes the next byte with it
abbrev pub zone_behind : Last → ℕ → ℕ → Zone
zone_behind nothing b c = begun_by b c
zone_behind lone_e b c =
    cond (b == 39) e_quote (cond (goes_on_name b) (free a_word) (begun_by b c))
zone_behind a_word b c = cond (goes_on_name b) (free a_word) (begun_by b c)
zone_behind a_number b c = cond (goes_on_number b) (free a_number) (begun_by b c)

-- where a comment within so many others ends
abbrev pub behind_comment : ℕ → Zone
behind_comment zero = free nothing
behind_comment (suc outer) = comments outer

abbrev pub opens_comment : ℕ → ℕ → Bool
opens_comment b c = b == 47 && c == 42

-- the bytes of a text, each with whether it is a mark. Two bytes that are one sign go together
abbrev pub marks_in : Zone → Text → List (ℕ × Bool)
marks_in (free last) [] = []
marks_in (free last) (b ∷ []) = (b, b == 63) ∷ []
marks_in (free last) (b ∷ c ∷ bs) =
    cond (b == 63) ((b, true) ∷ marks_in (free nothing) (c ∷ bs))
    (cond (opens_comment b c) ((b, false) ∷ (c, false) ∷ marks_in (comments 0) bs)
    (cond (b == 45 && c == 45) ((b, false) ∷ (c, false) ∷ marks_in line_comment bs)
    ((b, false) ∷ marks_in (zone_behind last b c) (c ∷ bs))))
marks_in (quote q) [] = []
marks_in (quote q) (b ∷ bs) =
    (b, false) ∷ cond (b == q) (marks_in (free nothing) bs) (marks_in (quote q) bs)
marks_in e_quote [] = []
marks_in e_quote (b ∷ []) = (b, false) ∷ []
marks_in e_quote (b ∷ c ∷ bs) =
    cond (b == 92 || (b == 39 && c == 39)) ((b, false) ∷ (c, false) ∷ marks_in e_quote bs)
    ((b, false) ∷ cond (b == 39) (marks_in (free nothing) (c ∷ bs)) (marks_in e_quote (c ∷ bs)))
marks_in line_comment [] = []
marks_in line_comment (b ∷ bs) =
    (b, false) ∷ cond (b == 10) (marks_in (free nothing) bs) (marks_in line_comment bs)
marks_in (comments deep) [] = []
marks_in (comments deep) (b ∷ []) = (b, false) ∷ []
marks_in (comments deep) (b ∷ c ∷ bs) =
    cond (opens_comment b c) ((b, false) ∷ (c, false) ∷ marks_in (comments (suc deep)) bs)
    (cond (b == 42 && c == 47) ((b, false) ∷ (c, false) ∷ marks_in (behind_comment deep) bs)
    ((b, false) ∷ marks_in (comments deep) (c ∷ bs)))

-- each mark with its number, from this one on
abbrev pub numbered : ℕ → List (ℕ × Bool) → Text
numbered n [] = []
numbered n ((b, true) ∷ more) = codes "$" ++ decimal n ++ numbered (suc n) more
numbered n ((b, false) ∷ more) = b ∷ numbered n more

-- the text that is sent
abbrev pub with_parameters : Text → Text
with_parameters bytes = numbered 1 (marks_in (free nothing) bytes)
