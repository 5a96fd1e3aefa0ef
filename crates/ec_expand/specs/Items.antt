-- What is written of the statements of a block, by what they are; and of parameters.
use Rattle.std.specs.Prelude.{ℕ, Bool, true, false, List, [], Option}
use Rattle.ec_base.specs.declared.line.Line.{Line}
use Rattle.ec_ctypes.specs.trees.Stmts.{StmtData, StmtKindData, decl_stmt, emb_stmt, mark_stmt}
use Rattle.ec_ctypes.specs.trees.Units.{ParamData}
use Rattle.ec_expansion_defs.specs.Declarations.{written_base, written_dims, written_decl}
use Rattle.ec_expansion_defs.specs.Statements.{decl_stmts, optional_stmt}

-- it is written as one statement
abbrev pub is_plain_kind : StmtKindData → Bool
is_plain_kind (decl_stmt d) = false
is_plain_kind (emb_stmt k) = false
is_plain_kind (mark_stmt opens) = false
is_plain_kind _ = true

-- what is written of the others
abbrev pub other_item : (ℕ → Option StmtKindData) → Line → StmtKindData → List StmtData
other_item embedded line kind = elim kind [
  | decl_stmt d ↦ decl_stmts line (written_decl line.0 d)
  | emb_stmt k ↦ optional_stmt line (embedded k)
  | _ ↦ []
]

-- a parameter on this line
abbrev pub param_of : ℕ → ParamData → ParamData
param_of n q = record {
  base = written_base n q.base;
  stars = q.stars;
  name = q.name;
  dims = written_dims n q.dims;
  section = false;
}
