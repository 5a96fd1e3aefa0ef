-- Lists of statements as trees.
use Rattle.std.proofs.Common.{◌≡◌, List, [], ◌∷◌, refl, ap}
use Rattle.ec_ctypes.specs.trees.Stmts.{StmtData, stmts}
use Rattle.ec_ctypes.specs.views.Stmts.{stmts_of}
use Rattle.ec_expansion_defs.specs.Statements.{listed_stmts}

pub listed : (ss : List StmtData) → stmts_of ss ≡ listed_stmts ss
listed [] = refl
listed (s ∷ ss) = ap (stmts s) (listed ss)
