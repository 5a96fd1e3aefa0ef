use Rattle.ec_ctypes.proofs.TypesBack.{same_ty, same_struct}
use Rattle.ec_ctypes.proofs.TokensBack.{same_tok, same_token}
use Rattle.ec_ctypes.proofs.ExprsBack.{same_expr, same_base, same_init, same_declarator, same_decl}
use Rattle.ec_ctypes.proofs.StmtsBack.{same_kind, same_stmt}
use Rattle.ec_ctypes.proofs.EmbeddedBack.{same_host, same_text_arg, same_input, same_ins, same_outs, same_part, same_action, same_emb_kind, same_emb}
use Rattle.ec_ctypes.proofs.UnitsBack.{same_param, same_func, same_top, same_unit}
use Rattle.ec_ctypes.proofs.CheckedBack.{same_handlers, same_typed, same_place, same_bound}
use Rattle.ec_ctypes.proofs.views_law.views_lose_nothing.Goals as goal

pub returns : goal.returns
returns c = record { types = same_ty; structs = same_struct; token_kinds = same_tok; tokens = same_token; expressions = same_expr; bases = same_base; initializers = same_init; declarators = same_declarator; declarations = same_decl; statement_kinds = same_kind; statements = same_stmt; hosts = same_host; text_arguments = same_text_arg; inputs = same_input; input_lists = same_ins; outputs = same_outs; parts = same_part; actions = same_action; embedded_kinds = same_emb_kind; embedded = same_emb; parameters = same_param; functions = same_func; tops = same_top; programs = same_unit; handler_tables = same_handlers; typed_programs = same_typed; places = same_place; bounds = same_bound }
