-- Tables from names to values: lists of pairs, in the order in which the names came.
use Rattle.std.specs.Prelude.{List, [], ◌∷◌, Option, Some, None, Bool, false, ◌||◌, if◌then◌else◌}
use Rattle.ec_language.specs.Letters.{Text, same_text}

-- a table from names to values
abbrev pub Named : Type 0 → Type 0
Named V = List (Text × V)

-- what a name stands for
abbrev pub find : {V : Type 0} → Text → Named V → Option V
find name [] = None
find name (e ∷ es) = if same_text name e.0 then Some e.1 else find name es

-- a name that is there keeps its place and stands for the new value; any other goes last
abbrev pub put : {V : Type 0} → Text → V → Named V → Named V
put name v [] = (name, v) ∷ []
put name v (e ∷ es) = if same_text name e.0 then (e.0, v) ∷ es else e ∷ put name v es

-- one of these texts
abbrev pub is_one_of : List Text → Text → Bool
is_one_of [] t = false
is_one_of (s ∷ ss) t = same_text s t || is_one_of ss t
