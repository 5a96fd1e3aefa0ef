-- The words that tell that a statement is left out.
use Rattle.std.specs.Prelude.{Bool, false, ◌&&◌, ◌||◌, [], ◌∷◌, drop, codes}
use Rattle.ec_language.specs.SqlTokens.{SqlToken}
use Rattle.ec_embedded.specs.LeftOut.{is_first, first_is_among, left_out_words, names_file}
use Rattle.ec_embedded.specs.ServerText.{Tokens}
use Rattle.ec_embedded.specs.Terminals.{is, keyword, any_word}

abbrev pub includes_file : Tokens → Bool
includes_file w = is_first (codes "INCLUDE") w && names_file (drop 1 w)

-- three tokens
abbrev pub prepares_as : Tokens → Bool
prepares_as (a ∷ b ∷ c ∷ w) =
    is (keyword (codes "PREPARE")) a && is any_word b && is (keyword (codes "AS")) c
prepares_as _ = false

abbrev pub is_other_kind : SqlToken → Bool
is_other_kind t = is (keyword (codes "STATEMENT")) t || is (keyword (codes "BINARY")) t

abbrev pub kind_follows : Tokens → Bool
kind_follows [] = false
kind_follows (c ∷ w) = is_other_kind c

abbrev pub name_follows : Tokens → Bool
name_follows [] = false
name_follows (b ∷ w) = is any_word b && kind_follows w

abbrev pub declares_other : Tokens → Bool
declares_other [] = false
declares_other (a ∷ w) = is (keyword (codes "DECLARE")) a && name_follows w

abbrev pub deallocates_all : Tokens → Bool
deallocates_all (a ∷ b ∷ w) = is (keyword (codes "DEALLOCATE")) a && is (keyword (codes "ALL")) b
deallocates_all _ = false

abbrev pub is_left_out_by_words : Tokens → Bool
is_left_out_by_words w =
    first_is_among left_out_words w || includes_file w || prepares_as w || declares_other w ||
    deallocates_all w

abbrev pub may_use : Tokens → Bool
may_use w = is_first (codes "OPEN") w || is_first (codes "EXECUTE") w
