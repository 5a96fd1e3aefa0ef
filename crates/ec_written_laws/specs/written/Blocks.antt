-- What may be written in the place of an embedded statement.
use Rattle.std.specs.Prelude.{◌≡◌, ℕ, true, false, Option, Some, None}
use Rattle.ec_ctypes.specs.trees.Stmts.{StmtKindData}
use Rattle.ec_writing_defs.specs.Shapes.{is_open_kind, is_written_kind}

-- It is no `if` without `else`, and of the written shape, wherever it stands.
pub record IsBlock (kind : StmtKindData) : Type 0 where
  pub shut : is_open_kind kind ≡ false
  pub shape : (n : ℕ) → is_written_kind n kind ≡ true

-- or nothing
abbrev pub IsBlockOption : Option StmtKindData → Type 0
IsBlockOption None = Unit {0}
IsBlockOption (Some kind) = IsBlock kind
