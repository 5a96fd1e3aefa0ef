-- For each statement, the first DECLARE above it of the cursor that it names.
use Rattle.std.specs.Prelude.{ℕ, ◌+◌, List, [], ◌∷◌, map, Option, Some, None}
use Rattle.ec_ctypes.specs.trees.Embedded.{EmbData, declare_cursor, open_cursor}
use Rattle.ec_language.specs.Letters.{Text, lower}
use Rattle.ec_typing_defs.specs.Tables.{Named, find, put}
use Rattle.ec_typing_defs.specs.statement_parts.Cursors.{declared_cursor}

-- the cursor that a statement declares or opens
abbrev pub named_cursor : EmbData → Option Text
named_cursor e =
    elim e.kind [ declare_cursor c ps p ↦ Some c | open_cursor c is ↦ Some c | _ ↦ None ]

abbrev pub found_in : Named ℕ → Option Text → Option ℕ
found_in table None = None
found_in table (Some c) = find (map lower c) table

-- with the cursor that the statement of this number declares, if it is the first
abbrev pub with_declared : ℕ → Named ℕ → Option Text → Named ℕ
with_declared n table None = table
with_declared n table (Some c) =
    elim (find (map lower c) table) [ None ↦ put (map lower c) n table | Some k ↦ table ]

abbrev pub aboves : ℕ → Named ℕ → List EmbData → List (Option ℕ)
aboves n table [] = []
aboves n table (e ∷ es) =
    found_in table (named_cursor e) ∷ aboves (n + 1) (with_declared n table (declared_cursor e)) es
