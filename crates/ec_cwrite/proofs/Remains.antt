-- What is left to be written of a list, behind so many of its elements.
use Rattle.std.specs.Prelude.{ℕ, zero, suc, List}
use Rattle.ec_ctypes.specs.trees.Exprs.{ExprList, InitList, DeclaratorList}
use Rattle.ec_ctypes.specs.trees.Units.{ParamData}
use Rattle.ec_writing_defs.specs.Chunks.{Chunks}
use Rattle.ec_writing_defs.specs.Expressions.{list_chunks, more_chunks, inits_chunks, more_inits_chunks, declarators_chunks, more_declarators_chunks}
use Rattle.ec_writing_defs.specs.Programs.{some_params_chunks, more_params_chunks}

abbrev pub exprs_from : ℕ → ExprList → Chunks
exprs_from zero es = list_chunks es
exprs_from (suc n) es = more_chunks es

abbrev pub inits_from : ℕ → InitList → Chunks
inits_from zero is = inits_chunks is
inits_from (suc n) is = more_inits_chunks is

abbrev pub declarators_from : ℕ → DeclaratorList → Chunks
declarators_from zero ds = declarators_chunks ds
declarators_from (suc n) ds = more_declarators_chunks ds

abbrev pub params_from : ℕ → List ParamData → Chunks
params_from zero qs = some_params_chunks qs
params_from (suc n) qs = more_params_chunks qs
