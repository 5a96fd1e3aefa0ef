-- Cursors (PostgreSQL manual, "Using Cursors"). DECLARE is not executed; OPEN sends its text. Names of cursors are compared without regard to case.
use Rattle.std.specs.Prelude.{ℕ, ◌+◌, List, [], ◌∷◌, take, slice_get, Option, Some, None, option_and_then, if◌then◌else◌}
use Rattle.ec_ctypes.specs.trees.Embedded.{EmbData, declare_cursor, open_cursor}
use Rattle.ec_language.specs.Letters.{Text, same_word}

-- the cursor that a statement declares
abbrev pub declared_cursor : EmbData → Option Text
declared_cursor e = elim e.kind [ declare_cursor c ps p ↦ Some c | _ ↦ None ]

-- the cursor that a statement opens
abbrev pub opened_cursor : EmbData → Option Text
opened_cursor e = elim e.kind [ open_cursor c is ↦ Some c | _ ↦ None ]

-- the number of the first DECLARE of this cursor among these statements, the first of which has the number n
abbrev pub declare_from : ℕ → Text → List EmbData → Option ℕ
declare_from n cursor [] = None
declare_from n cursor (e ∷ es) = elim (declared_cursor e) [
  | None ↦ declare_from (n + 1) cursor es
  | Some c ↦ if same_word c cursor then Some n else declare_from (n + 1) cursor es
]

-- the number of the first DECLARE of the cursor above the statement of this number
abbrev pub declared_above : List EmbData → ℕ → Text → Option ℕ
declared_above es n cursor = declare_from 0 cursor (take n es)

-- the DECLARE of the cursor that the statement of this number opens
abbrev pub declare_opened : List EmbData → ℕ → EmbData → Option EmbData
declare_opened es n e = option_and_then
    (λ cursor. option_and_then (λ k. slice_get es k) (declared_above es n cursor)) (opened_cursor e)
