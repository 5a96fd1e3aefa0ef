-- Where VARCHAR is used in a declaration, a function or a statement, but for the members of the structs in it, which are declarations of their own.
use Rattle.std.specs.Prelude.{ℕ, zero, suc, Bool, true, false, not, ◌||◌, List, [], ◌∷◌, Option, Some, None}
use Rattle.ec_ctypes.specs.trees.Exprs.{ExprData, integer, character, string, identifier, unary, binary, assign, bump, call, call_other, index, member, arrow, cast, size_type, size_expr, ExprList, no_exprs, exprs, BaseData, varchar, DimData, open_dim, dim, DimList, no_dims, dims, InitData, one, many, InitList, no_inits, inits, InitOption, no_init, some_init, DeclaratorData, declarator, DeclaratorList, no_declarators, declarators}
use Rattle.ec_ctypes.specs.trees.Stmts.{StmtKindData, expr_stmt, if_stmt, while_stmt, do_stmt, for_stmt, return_stmt}
use Rattle.ec_ctypes.specs.trees.Units.{ParamData, FuncData}
use Rattle.ec_host_defs.specs.sections.Lengths.{ends_in_length}

-- the uses that stand there: whether there are any, whether one is a pointer to a VARCHAR or a parameter, which there can't be, and whether one has no length
pub record UsesData : Type 0 where
  pub any : Bool
  pub left_out : Bool
  pub lacks_length : Bool

abbrev pub nowhere : UsesData
nowhere = record { any = false; left_out = false; lacks_length = false }

infixr 5 ◌&◌
abbrev pub ◌&◌ : UsesData → UsesData → UsesData
a & b = record {
  any = a.any || b.any;
  left_out = a.left_out || b.left_out;
  lacks_length = a.lacks_length || b.lacks_length;
}

-- a pointer to a VARCHAR, or a parameter
abbrev pub never : UsesData
never = record { any = true; left_out = true; lacks_length = false }

-- one that is declared, with a length or without
abbrev pub with_length : Bool → UsesData
with_length has = record { any = true; left_out = false; lacks_length = not has }

-- a type name or a result: a pointer, or without a length
abbrev pub in_type : BaseData → ℕ → UsesData
in_type varchar zero = with_length false
in_type varchar (suc stars) = never
in_type b stars = nowhere

-- a declarator of this base
abbrev pub in_declared : BaseData → ℕ → DimList → UsesData
in_declared varchar zero ds = with_length (ends_in_length ds)
in_declared varchar (suc stars) ds = never
in_declared b stars ds = nowhere

abbrev pub in_param_base : BaseData → UsesData
in_param_base varchar = never
in_param_base b = nowhere

abbrev mutual
  pub in_expr : ExprData → UsesData
  in_expr (integer n t) = nowhere
  in_expr (character c) = nowhere
  in_expr (string s) = nowhere
  in_expr (identifier x) = nowhere
  in_expr (unary op e) = in_expr e
  in_expr (binary op a b) = in_expr a & in_expr b
  in_expr (assign op a b) = in_expr a & in_expr b
  in_expr (bump before up e) = in_expr e
  in_expr (call f es) = in_exprs es
  in_expr (call_other f es) = in_expr f & in_exprs es
  in_expr (index a b) = in_expr a & in_expr b
  in_expr (member e m) = in_expr e
  in_expr (arrow e m) = in_expr e
  in_expr (cast b stars e) = in_type b stars & in_expr e
  in_expr (size_type b stars) = in_type b stars
  in_expr (size_expr e) = in_expr e

  pub in_exprs : ExprList → UsesData
  in_exprs no_exprs = nowhere
  in_exprs (exprs e es) = in_expr e & in_exprs es

abbrev pub in_dim : DimData → UsesData
in_dim open_dim = nowhere
in_dim (dim e) = in_expr e

abbrev pub in_dims : DimList → UsesData
in_dims no_dims = nowhere
in_dims (dims d ds) = in_dim d & in_dims ds

abbrev mutual
  pub in_init : InitData → UsesData
  in_init (one e) = in_expr e
  in_init (many is) = in_inits is

  pub in_inits : InitList → UsesData
  in_inits no_inits = nowhere
  in_inits (inits i is) = in_init i & in_inits is

abbrev pub in_init_option : InitOption → UsesData
in_init_option no_init = nowhere
in_init_option (some_init i) = in_init i

abbrev pub in_declarator : BaseData → DeclaratorData → UsesData
in_declarator b (declarator stars name ds init) =
    in_declared b stars ds & (in_dims ds & in_init_option init)

abbrev pub in_declarators : BaseData → DeclaratorList → UsesData
in_declarators b no_declarators = nowhere
in_declarators b (declarators d ds) = in_declarator b d & in_declarators b ds

-- a VARCHAR that declares nothing is one too
abbrev pub in_base : BaseData → UsesData
in_base varchar = with_length true
in_base b = nowhere

abbrev pub in_expr_option : Option ExprData → UsesData
in_expr_option None = nowhere
in_expr_option (Some e) = in_expr e

-- the expressions of a statement; the statements in it are looked at by themselves
abbrev pub in_kind : StmtKindData → UsesData
in_kind (expr_stmt e) = in_expr e
in_kind (if_stmt e s other) = in_expr e
in_kind (while_stmt e s) = in_expr e
in_kind (do_stmt s e) = in_expr e
in_kind (for_stmt x y z s) = in_expr_option x & (in_expr_option y & in_expr_option z)
in_kind (return_stmt e) = in_expr_option e
in_kind _ = nowhere

abbrev pub in_param : ParamData → UsesData
in_param p = in_param_base p.base & in_dims p.dims

abbrev pub in_params : List ParamData → UsesData
in_params [] = nowhere
in_params (p ∷ ps) = in_param p & in_params ps

abbrev pub in_function : FuncData → UsesData
in_function f = in_type f.base f.stars & in_params f.params
