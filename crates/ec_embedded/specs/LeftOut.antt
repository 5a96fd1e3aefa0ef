-- Statements that are left out, told by their words.
use Rattle.std.specs.Prelude.{ℕ, Bool, true, false, not, ◌&&◌, ◌||◌, ◌==◌, List, [], ◌∷◌, drop, codes}
use Rattle.ec_language.specs.Letters.{Text}
use Rattle.ec_language.specs.SqlTokens.{SqlToken}
use Rattle.ec_embedded.specs.Terminals.{Sort, name, sort_of, is, keyword, any_word, plain_quote, sign, is_word_among}
use Rattle.ec_embedded.specs.ServerText.{Tokens, depth_behind}

-- the tokens begin with these words
abbrev pub begin_with : List Text → Tokens → Bool
begin_with [] w = true
begin_with (k ∷ ks) [] = false
begin_with (k ∷ ks) (t ∷ w) = elim (is (keyword k) t) [ true ↦ begin_with ks w | false ↦ false ]

abbrev pub is_first : Text → Tokens → Bool
is_first k [] = false
is_first k (t ∷ w) = is (keyword k) t

abbrev pub first_is_word : Tokens → Bool
first_is_word [] = false
first_is_word (t ∷ w) = is any_word t

abbrev pub first_is_among : List Text → Tokens → Bool
first_is_among ws [] = false
first_is_among ws (t ∷ w) = is any_word t && is_word_among ws t.bytes

-- TYPE and VAR of Oracle's kind, DESCRIBE, and the precompiler's own conditions
abbrev pub left_out_words : List Text
left_out_words = codes "TYPE" ∷ codes "VAR" ∷ codes "DESCRIBE" ∷ codes "DEFINE"
    ∷ codes "UNDEF" ∷ codes "IFDEF" ∷ codes "IFNDEF" ∷ codes "ELSE" ∷ codes "ENDIF" ∷ []

abbrev pub is_name : Sort → Bool
is_name name = true
is_name _ = false

-- a name of a file may begin with it: a word, a quote of either kind, `<`, `.` or `/`
abbrev pub begins_name : SqlToken → Bool
begins_name t = is any_word t || is plain_quote t || is_name (sort_of t)
    || is (sign (codes "<")) t || is (sign (codes ".")) t || is (sign (codes "/")) t

abbrev pub is_sqlca : Tokens → Bool
is_sqlca [] = false
is_sqlca (t ∷ []) = is (keyword (codes "sqlca")) t
is_sqlca (t ∷ u ∷ w) = false

-- a file that INCLUDE names, which isn't sqlca
abbrev pub names_file : Tokens → Bool
names_file [] = false
names_file (t ∷ w) = begins_name t && not (is_sqlca (t ∷ w))

-- An SQLDA that is named without SQL: DESCRIPTOR directly behind an INTO outside parentheses that isn't that of INSERT or MERGE, or, in OPEN and EXECUTE, behind USING. `inserts`: the token before is INSERT or MERGE.
abbrev pub names_area : Bool → ℕ → Bool → Tokens → Bool
names_area using depth inserts [] = false
names_area using depth inserts (t ∷ w) =
    (is_first (codes "DESCRIPTOR") w
    && ((depth == 0 && is (keyword (codes "INTO")) t && not inserts)
    || (using && is (keyword (codes "USING")) t)))
    || names_area using (depth_behind depth t)
    (is (keyword (codes "INSERT")) t || is (keyword (codes "MERGE")) t) w

-- `PREPARE name AS`, `DECLARE name STATEMENT`, `DECLARE name BINARY`
abbrev pub names_then : Text → List Text → Tokens → Bool
names_then first thirds w =
    is_first first w && first_is_word (drop 1 w) && first_is_among thirds (drop 2 w)

abbrev pub is_left_out : Tokens → Bool
is_left_out w =
    first_is_among left_out_words w
    || (is_first (codes "INCLUDE") w && names_file (drop 1 w))
    || names_then (codes "PREPARE") (codes "AS" ∷ []) w
    || names_then (codes "DECLARE") (codes "STATEMENT" ∷ codes "BINARY" ∷ []) w
    || begin_with (codes "DEALLOCATE" ∷ codes "ALL" ∷ []) w
    || names_area (is_first (codes "OPEN") w || is_first (codes "EXECUTE") w) 0 false w
