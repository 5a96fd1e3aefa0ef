use Rattle.ec_ctypes.proofs.TypesBack.{same_structs}
use Rattle.ec_ctypes.proofs.TokensBack.{same_tokens}
use Rattle.ec_ctypes.proofs.ExprsBack.{same_exprs, same_expr_option, same_dims, same_inits, same_init_option, same_declarators, same_decls}
use Rattle.ec_ctypes.proofs.StmtsBack.{same_stmts, same_stmt_option}
use Rattle.ec_ctypes.proofs.views_law.list_views_lose_nothing.Goals as goal

pub returns : goal.returns
returns c = record { structs = same_structs; tokens = same_tokens; expressions = same_exprs; expression = same_expr_option; array_lengths = same_dims; initializers = same_inits; initializer = same_init_option; declared = same_declarators; declarations = same_decls; statements = same_stmts; statement = same_stmt_option }
