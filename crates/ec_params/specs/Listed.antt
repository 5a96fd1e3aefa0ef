-- The members of a struct by their names.
use Rattle.std.specs.Prelude.{ℕ, ◌+◌, List, [], ◌∷◌, Some, None}
use Rattle.ec_ctypes.specs.trees.Types.{MemberData, StructData}
use Rattle.ec_language.specs.Letters.{Text}
use Rattle.ec_typing_defs.specs.Tables.{Named, find, put}

-- with the member at this place, unless there is one of its name
abbrev pub with_member : ℕ → Named ℕ → Text → Named ℕ
with_member n table name = elim (find name table) [ None ↦ put name n table | Some k ↦ table ]

-- with these members from this place on
abbrev pub with_members : ℕ → Named ℕ → List MemberData → Named ℕ
with_members n table [] = table
with_members n table (m ∷ ms) = with_members (n + 1) (with_member n table m.0) ms

-- for each name of a member the place of the first of that name
abbrev pub places_of : StructData → Named ℕ
places_of d = with_members 0 [] d.members
