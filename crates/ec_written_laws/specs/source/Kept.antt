-- What the checks keep of the tree of a source, as tests that compute: which calls, tags and VARCHARs stand in it.
use Rattle.std.specs.Prelude.{Bool, true, false, not, ◌&&◌, List, [], ◌∷◌, Option, Some, None, codes}
use Rattle.ec_ctypes.specs.trees.Exprs.{ExprData, integer, character, string, identifier, unary, binary, assign, bump, call, call_other, index, member, arrow, cast, size_type, size_expr, ExprList, no_exprs, exprs, BaseData, words, varchar, tagged, struct_base, DimData, open_dim, dim, DimList, no_dims, dims, InitData, one, many, InitList, no_inits, inits, InitOption, no_init, some_init, DeclaratorData, declarator, DeclaratorList, no_declarators, declarators, DeclData, decl, DeclList, no_decls, decls}
use Rattle.ec_ctypes.specs.trees.Stmts.{StmtData, stmt, StmtKindData, empty_stmt, expr_stmt, block_stmt, if_stmt, while_stmt, do_stmt, for_stmt, break_stmt, continue_stmt, return_stmt, goto_stmt, label_stmt, decl_stmt, emb_stmt, mark_stmt, StmtList, no_stmts, stmts, StmtOption, no_stmt, some_stmt}
use Rattle.ec_ctypes.specs.trees.Units.{ParamData, FuncData, TopData, include_top, directive_top, decl_top, func_top, mark_top, UnitData}
use Rattle.ec_language.specs.Letters.{Text, same_word}

-- what may stand in a tree
pub record Kept : Type 0 where
  -- whether what is called may be something other than a name
  pub other_calls : Bool
  -- whether VARCHAR may be the type of something other than what a declaration declares
  pub varchar_types : Bool
  -- which tags
  pub tag : Text → Bool

-- what written C may have in these places
abbrev pub written : Kept
written = record {
  other_calls = false;
  varchar_types = false;
  tag = λ t. not (same_word t (codes "EXEC"));
}

module _ (k : Kept) where
  abbrev pub keeps_tag : Option Text → Bool
  keeps_tag None = true
  keeps_tag (Some t) = k.tag t

  -- ---- expressions and declarations

  abbrev mutual
    pub keeps_expr : ExprData → Bool
    keeps_expr (integer v t) = true
    keeps_expr (character c) = true
    keeps_expr (string s) = true
    keeps_expr (identifier x) = true
    keeps_expr (unary op a) = keeps_expr a
    keeps_expr (binary op a b) = keeps_expr a && keeps_expr b
    keeps_expr (assign o a b) = keeps_expr a && keeps_expr b
    keeps_expr (bump before up a) = keeps_expr a
    keeps_expr (call f es) = keeps_exprs es
    keeps_expr (call_other f es) = k.other_calls && (keeps_expr f && keeps_exprs es)
    keeps_expr (index a b) = keeps_expr a && keeps_expr b
    keeps_expr (member a m) = keeps_expr a
    keeps_expr (arrow a m) = keeps_expr a
    keeps_expr (cast b stars a) = keeps_type b && keeps_expr a
    keeps_expr (size_type b stars) = keeps_type b
    keeps_expr (size_expr a) = keeps_expr a

    pub keeps_exprs : ExprList → Bool
    keeps_exprs no_exprs = true
    keeps_exprs (exprs e es) = keeps_expr e && keeps_exprs es

    -- the type of something that no declaration declares
    pub keeps_type : BaseData → Bool
    keeps_type varchar = k.varchar_types
    keeps_type (words ws) = true
    keeps_type (tagged t) = k.tag t
    keeps_type (struct_base t ms) = keeps_tag t && keeps_members ms

    -- and of a declaration
    pub keeps_base : BaseData → Bool
    keeps_base varchar = true
    keeps_base (words ws) = true
    keeps_base (tagged t) = k.tag t
    keeps_base (struct_base t ms) = keeps_tag t && keeps_members ms

    pub keeps_members : DeclList → Bool
    keeps_members no_decls = true
    keeps_members (decls m ms) = keeps_decl m && keeps_members ms

    pub keeps_decl : DeclData → Bool
    keeps_decl (decl b ds section line) = keeps_base b && keeps_declarators ds

    pub keeps_dim : DimData → Bool
    keeps_dim open_dim = true
    keeps_dim (dim e) = keeps_expr e

    pub keeps_dims : DimList → Bool
    keeps_dims no_dims = true
    keeps_dims (dims d ds) = keeps_dim d && keeps_dims ds

    pub keeps_init : InitData → Bool
    keeps_init (one e) = keeps_expr e
    keeps_init (many is) = keeps_inits is

    pub keeps_inits : InitList → Bool
    keeps_inits no_inits = true
    keeps_inits (inits i is) = keeps_init i && keeps_inits is

    pub keeps_initializer : InitOption → Bool
    keeps_initializer no_init = true
    keeps_initializer (some_init i) = keeps_init i

    pub keeps_declarator : DeclaratorData → Bool
    keeps_declarator (declarator stars name ds i) = keeps_dims ds && keeps_initializer i

    pub keeps_declarators : DeclaratorList → Bool
    keeps_declarators no_declarators = true
    keeps_declarators (declarators d ds) = keeps_declarator d && keeps_declarators ds

  -- ---- statements

  abbrev pub keeps_option : Option ExprData → Bool
  keeps_option None = true
  keeps_option (Some e) = keeps_expr e

  abbrev mutual
    pub keeps_stmt : StmtData → Bool
    keeps_stmt (stmt line kind) = keeps_kind kind

    pub keeps_kind : StmtKindData → Bool
    keeps_kind empty_stmt = true
    keeps_kind (expr_stmt e) = keeps_expr e
    keeps_kind (block_stmt ss) = keeps_stmts ss
    keeps_kind (if_stmt e s other) = keeps_expr e && (keeps_stmt s && keeps_else other)
    keeps_kind (while_stmt e s) = keeps_expr e && keeps_stmt s
    keeps_kind (do_stmt s e) = keeps_stmt s && keeps_expr e
    keeps_kind (for_stmt x y z s) =
        (keeps_option x && (keeps_option y && keeps_option z)) && keeps_stmt s
    keeps_kind break_stmt = true
    keeps_kind continue_stmt = true
    keeps_kind (return_stmt e) = keeps_option e
    keeps_kind (goto_stmt l) = true
    keeps_kind (label_stmt l s) = keeps_stmt s
    keeps_kind (decl_stmt d) = keeps_decl d
    keeps_kind (emb_stmt n) = true
    keeps_kind (mark_stmt opens) = true

    pub keeps_stmts : StmtList → Bool
    keeps_stmts no_stmts = true
    keeps_stmts (stmts s ss) = keeps_stmt s && keeps_stmts ss

    pub keeps_else : StmtOption → Bool
    keeps_else no_stmt = true
    keeps_else (some_stmt s) = keeps_stmt s

  -- ---- programs

  abbrev pub keeps_param : ParamData → Bool
  keeps_param q = keeps_type q.base && keeps_dims q.dims

  abbrev pub keeps_params : List ParamData → Bool
  keeps_params [] = true
  keeps_params (q ∷ qs) = keeps_param q && keeps_params qs

  abbrev pub keeps_body : Option StmtList → Bool
  keeps_body None = true
  keeps_body (Some ss) = keeps_stmts ss

  abbrev pub keeps_func : FuncData → Bool
  keeps_func f = keeps_type f.base && (keeps_params f.params && keeps_body f.body)

  abbrev pub keeps_top : TopData → Bool
  keeps_top (include_top bytes) = true
  keeps_top (directive_top n) = true
  keeps_top (decl_top d) = keeps_decl d
  keeps_top (func_top f) = keeps_func f
  keeps_top (mark_top opens line) = true

  abbrev pub keeps_tops : List TopData → Bool
  keeps_tops [] = true
  keeps_tops (t ∷ ts) = keeps_top t && keeps_tops ts

-- The program keeps what written C asks.
abbrev pub is_kept : Kept → UnitData → Bool
is_kept k u = keeps_tops k u.tops
