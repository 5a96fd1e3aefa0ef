-- Where an SQLDA is named.
use Rattle.std.specs.Prelude.{ℕ, Bool, false, not, ◌&&◌, ◌||◌, ◌==◌, [], ◌∷◌, codes}
use Rattle.ec_language.specs.SqlTokens.{SqlToken}
use Rattle.ec_embedded.specs.LeftOut.{is_first}
use Rattle.ec_embedded.specs.ServerText.{Tokens}
use Rattle.ec_embedded.specs.Terminals.{is, keyword}

-- by the DESCRIPTOR that stands directly behind this token
abbrev pub names_area_here : Bool → ℕ → Bool → SqlToken → Tokens → Bool
names_area_here using depth inserts t w =
    is_first (codes "DESCRIPTOR") w &&
    ((depth == 0 && is (keyword (codes "INTO")) t && not inserts) ||
    (using && is (keyword (codes "USING")) t))

abbrev pub is_insert : SqlToken → Bool
is_insert t = is (keyword (codes "INSERT")) t || is (keyword (codes "MERGE")) t

-- whether the word DESCRIPTOR is one of the tokens
abbrev pub has_descriptor : Tokens → Bool
has_descriptor [] = false
has_descriptor (t ∷ w) = is (keyword (codes "DESCRIPTOR")) t || has_descriptor w
