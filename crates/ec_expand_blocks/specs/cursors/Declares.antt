-- For each statement of a program the DECLARE of the cursor that it opens, by its number.
use Rattle.std.specs.Prelude.{◌≡◌, ℕ, ◌+◌, List, [], ◌∷◌, map, Option, Some, None, option_and_then}
use Rattle.ec_ctypes.specs.trees.Embedded.{EmbData}
use Rattle.ec_language.specs.Letters.{Text, lower}
use Rattle.ec_typing_defs.specs.statement_parts.Cursors.{declared_cursor, opened_cursor, declare_from, declared_above}
use Rattle.ec_typing_defs.specs.Tables.{Named, find, put}

-- the number of the DECLARE of the cursor that the statement of this number opens
abbrev pub declare_number : List EmbData → ℕ → EmbData → Option ℕ
declare_number es n e = option_and_then (λ cursor. declared_above es n cursor) (opened_cursor e)

-- those of the statements from this number on
abbrev pub numbers_from : List EmbData → ℕ → List EmbData → List (Option ℕ)
numbers_from all n [] = []
numbers_from all n (e ∷ es) = declare_number all n e ∷ numbers_from all (n + 1) es

abbrev pub declare_numbers : List EmbData → List (Option ℕ)
declare_numbers es = numbers_from es 0 es

-- ---- the cursors so far

-- a name that is there keeps its number
abbrev pub with_first : Text → ℕ → Option ℕ → Named ℕ → Named ℕ
with_first name n None table = put name n table
with_first name n (Some k) table = table

-- with the cursor that a statement of this number declares
abbrev pub with_cursor : ℕ → Option Text → Named ℕ → Named ℕ
with_cursor n None table = table
with_cursor n (Some c) table = with_first (map lower c) n (find (map lower c) table) table

abbrev pub found_in : Named ℕ → Option Text → Option ℕ
found_in table cursor = option_and_then (λ c. find (map lower c) table) cursor

-- the table has the number of the first DECLARE of each cursor among these statements
abbrev pub Knows : Named ℕ → List EmbData → Type 0
Knows table es = (cursor : Text) → find (map lower cursor) table ≡ declare_from 0 cursor es
