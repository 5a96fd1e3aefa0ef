-- What is written of parts of a program that was read: declarations on their line, the head of a `for`, parameters.
use Rattle.std.specs.Prelude.{ℕ, false, List, [], ◌∷◌, ◌++◌}
use Rattle.ec_ctypes.specs.trees.Exprs.{DeclData}
use Rattle.ec_ctypes.specs.trees.Units.{ParamData}
use Rattle.ec_expansion_defs.specs.Declarations.{written_base, written_dims}
use Rattle.ec_writing_defs.specs.Chunks.{line_end, line_mark, Chunks}
use Rattle.ec_writing_defs.specs.Expressions.{decl_chunks}

-- a declaration behind its line `#line N`
abbrev pub line_chunks : ℕ → DeclData → Chunks
line_chunks n d = line_mark n ∷ decl_chunks d ++ line_end ∷ []

abbrev pub lines_chunks : ℕ → List DeclData → Chunks
lines_chunks n [] = []
lines_chunks n (d ∷ ds) = line_chunks n d ++ lines_chunks n ds

-- a parameter of a function on this line
abbrev pub param_of : ℕ → ParamData → ParamData
param_of n q = record {
  base = written_base n q.base;
  stars = q.stars;
  name = q.name;
  dims = written_dims n q.dims;
  section = false;
}
