-- Tables of words, in which a word has its own place.
use Rattle.std.specs.Prelude.{◌≡◌, ℕ, ◌+◌, ◌-◌, ◌*◌, ◌%◌, true, ◌||◌, List, [], length, get_or}
use Rattle.std.specs.List.{list_all}
use Rattle.ec_language.specs.Letters.{Text, is_empty, same_text, is_among}

-- by its length, its first byte and its last
abbrev pub place_of : Text → ℕ
place_of word =
    (2 * (length word % 24) + 11 * get_or word 0 0 + 8 * get_or word (length word - 1) 0) % 24

abbrev pub word_in : List Text → Text → Text
word_in table word = get_or table (place_of word) []

-- Each of the words stands at its place, and nothing else stands in the table.
pub record IsTableOf (words table : List Text) : Type 0 where
  pub has_all : list_all (λ w. same_text (word_in table w) w) words ≡ true
  pub has_only : list_all (λ w. is_empty w || is_among words w) table ≡ true
