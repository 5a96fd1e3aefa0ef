-- The table of a program's cursors: for each name in lower case, the number of its first DECLARE.
use Rattle.std.specs.Prelude.{ℕ, ◌+◌, List, [], ◌∷◌, map, Option, Some, None}
use Rattle.ec_ctypes.specs.trees.Embedded.{EmbData}
use Rattle.ec_language.specs.Letters.{Text, lower}
use Rattle.ec_typing_defs.specs.statement_parts.Cursors.{declared_cursor}
use Rattle.ec_typing_defs.specs.Tables.{Named, find, put}

-- the statement of this number declares the cursor; an earlier DECLARE of it stays
abbrev pub with_cursor : Option Text → ℕ → Named ℕ → Named ℕ
with_cursor None n t = t
with_cursor (Some c) n t = elim (find (map lower c) t) [ None ↦ put (map lower c) n t | Some k ↦ t ]

-- the table behind these statements, the first of which has the number n
abbrev pub cursors_from : ℕ → List EmbData → Named ℕ → Named ℕ
cursors_from n [] t = t
cursors_from n (e ∷ es) t = cursors_from (n + 1) es (with_cursor (declared_cursor e) n t)
