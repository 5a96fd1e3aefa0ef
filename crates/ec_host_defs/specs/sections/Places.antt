-- The places of a program in the order of the text: marks of sections, and declarations, functions and statements with the VARCHARs that they hold.
use Rattle.std.specs.Prelude.{Bool, List, [], ◌∷◌, ◌++◌, Option, Some, None}
use Rattle.ec_base.specs.declared.line.Line.{Line}
use Rattle.ec_ctypes.specs.trees.Exprs.{ExprData, integer, character, string, identifier, unary, binary, assign, bump, call, call_other, index, member, arrow, cast, size_type, size_expr, ExprList, no_exprs, exprs, BaseData, words, varchar, tagged, struct_base, DimData, open_dim, dim, DimList, no_dims, dims, InitData, one, many, InitList, no_inits, inits, InitOption, no_init, some_init, DeclaratorData, declarator, DeclaratorList, no_declarators, declarators, DeclData, decl, DeclList, no_decls, decls}
use Rattle.ec_ctypes.specs.trees.Stmts.{StmtData, stmt, StmtKindData, empty_stmt, expr_stmt, block_stmt, if_stmt, while_stmt, do_stmt, for_stmt, break_stmt, continue_stmt, return_stmt, goto_stmt, label_stmt, decl_stmt, emb_stmt, mark_stmt, StmtList, no_stmts, stmts, StmtOption, no_stmt, some_stmt}
use Rattle.ec_ctypes.specs.trees.Units.{ParamData, FuncData, TopData, include_top, directive_top, decl_top, func_top, mark_top}
use Rattle.ec_host_defs.specs.sections.Uses.{UsesData, ◌&◌, in_base, in_declarators, in_kind, in_function}

pub data PlaceData : Type 0 where
  -- The uses that a place holds. The condition of a `do` stands behind its body: whether the last mark in the body opens a section, if there is one
  holds : Option Bool → Line → UsesData → PlaceData
  -- a mark of a section: whether it opens one
  mark : Bool → Line → PlaceData

abbrev pub Places : Type 0
Places = List PlaceData

abbrev mutual
  pub of_expr : ExprData → Places
  of_expr (integer n t) = []
  of_expr (character c) = []
  of_expr (string s) = []
  of_expr (identifier x) = []
  of_expr (unary op e) = of_expr e
  of_expr (binary op a b) = of_expr a ++ of_expr b
  of_expr (assign op a b) = of_expr a ++ of_expr b
  of_expr (bump before up e) = of_expr e
  of_expr (call f es) = of_exprs es
  of_expr (call_other f es) = of_expr f ++ of_exprs es
  of_expr (index a b) = of_expr a ++ of_expr b
  of_expr (member e m) = of_expr e
  of_expr (arrow e m) = of_expr e
  of_expr (cast b stars e) = of_base b ++ of_expr e
  of_expr (size_type b stars) = of_base b
  of_expr (size_expr e) = of_expr e

  pub of_exprs : ExprList → Places
  of_exprs no_exprs = []
  of_exprs (exprs e es) = of_expr e ++ of_exprs es

  -- the members of a struct
  pub of_base : BaseData → Places
  of_base (words ws) = []
  of_base varchar = []
  of_base (tagged t) = []
  of_base (struct_base t ds) = of_decls ds

  pub of_decls : DeclList → Places
  of_decls no_decls = []
  of_decls (decls d ds) = of_decl d ++ of_decls ds

  pub of_decl : DeclData → Places
  of_decl (decl b items section line) =
      holds None line (in_base b & in_declarators b items) ∷ (of_base b ++ of_declarators items)

  pub of_declarators : DeclaratorList → Places
  of_declarators no_declarators = []
  of_declarators (declarators d ds) = of_declarator d ++ of_declarators ds

  pub of_declarator : DeclaratorData → Places
  of_declarator (declarator stars name ds init) = of_dims ds ++ of_init_option init

  pub of_dims : DimList → Places
  of_dims no_dims = []
  of_dims (dims d ds) = of_dim d ++ of_dims ds

  pub of_dim : DimData → Places
  of_dim open_dim = []
  of_dim (dim e) = of_expr e

  pub of_init_option : InitOption → Places
  of_init_option no_init = []
  of_init_option (some_init i) = of_init i

  pub of_init : InitData → Places
  of_init (one e) = of_expr e
  of_init (many is) = of_inits is

  pub of_inits : InitList → Places
  of_inits no_inits = []
  of_inits (inits i is) = of_init i ++ of_inits is

abbrev pub of_option : Option ExprData → Places
of_option None = []
of_option (Some e) = of_expr e

-- ---- the last mark of a statement

-- the second of two, if it is there
abbrev pub later : Option Bool → Option Bool → Option Bool
later a None = a
later a (Some opens) = Some opens

-- whether the last mark in a statement opens a section, if there is one
abbrev mutual
  pub last_mark : StmtData → Option Bool
  last_mark (stmt line kind) = last_mark_of kind

  pub last_mark_of : StmtKindData → Option Bool
  last_mark_of empty_stmt = None
  last_mark_of (expr_stmt e) = None
  last_mark_of (block_stmt ss) = last_mark_among ss
  last_mark_of (if_stmt e s other) = later (last_mark s) (last_mark_option other)
  last_mark_of (while_stmt e s) = last_mark s
  last_mark_of (do_stmt s e) = last_mark s
  last_mark_of (for_stmt x y z s) = last_mark s
  last_mark_of break_stmt = None
  last_mark_of continue_stmt = None
  last_mark_of (return_stmt e) = None
  last_mark_of (goto_stmt l) = None
  last_mark_of (label_stmt l s) = last_mark s
  last_mark_of (decl_stmt d) = None
  last_mark_of (emb_stmt n) = None
  last_mark_of (mark_stmt opens) = Some opens

  pub last_mark_among : StmtList → Option Bool
  last_mark_among no_stmts = None
  last_mark_among (stmts s ss) = later (last_mark s) (last_mark_among ss)

  pub last_mark_option : StmtOption → Option Bool
  last_mark_option no_stmt = None
  last_mark_option (some_stmt s) = last_mark s

-- ---- the places of a statement

abbrev mutual
  pub of_stmt : StmtData → Places
  of_stmt (stmt line kind) = of_kind line kind

  pub of_kind : Line → StmtKindData → Places
  of_kind line empty_stmt = holds None line (in_kind empty_stmt) ∷ []
  of_kind line (expr_stmt e) = holds None line (in_kind (expr_stmt e)) ∷ of_expr e
  of_kind line (block_stmt ss) = holds None line (in_kind (block_stmt ss)) ∷ of_stmts ss
  of_kind line (if_stmt e s other) =
      holds None line (in_kind (if_stmt e s other)) ∷ (of_expr e ++ (of_stmt s ++ of_stmt_option other))
  of_kind line (while_stmt e s) = holds None line (in_kind (while_stmt e s)) ∷ (of_expr e ++ of_stmt s)
  of_kind line (do_stmt s e) =
      holds (last_mark s) line (in_kind (do_stmt s e)) ∷ (of_stmt s ++ of_expr e)
  of_kind line (for_stmt x y z s) = holds None line (in_kind (for_stmt x y z s))
      ∷ (of_option x ++ (of_option y ++ (of_option z ++ of_stmt s)))
  of_kind line break_stmt = holds None line (in_kind break_stmt) ∷ []
  of_kind line continue_stmt = holds None line (in_kind continue_stmt) ∷ []
  of_kind line (return_stmt e) = holds None line (in_kind (return_stmt e)) ∷ of_option e
  of_kind line (goto_stmt l) = holds None line (in_kind (goto_stmt l)) ∷ []
  of_kind line (label_stmt l s) = holds None line (in_kind (label_stmt l s)) ∷ of_stmt s
  of_kind line (decl_stmt d) = of_decl d
  of_kind line (emb_stmt n) = holds None line (in_kind (emb_stmt n)) ∷ []
  of_kind line (mark_stmt opens) = mark opens line ∷ []

  pub of_stmts : StmtList → Places
  of_stmts no_stmts = []
  of_stmts (stmts s ss) = of_stmt s ++ of_stmts ss

  pub of_stmt_option : StmtOption → Places
  of_stmt_option no_stmt = []
  of_stmt_option (some_stmt s) = of_stmt s

abbrev pub of_params : List ParamData → Places
of_params [] = []
of_params (p ∷ ps) = (of_base p.base ++ of_dims p.dims) ++ of_params ps

abbrev pub of_body : Option StmtList → Places
of_body None = []
of_body (Some ss) = of_stmts ss

abbrev pub of_function : FuncData → Places
of_function f =
    holds None f.line (in_function f) ∷ (of_base f.base ++ (of_params f.params ++ of_body f.body))

abbrev pub of_top : TopData → Places
of_top (include_top bytes) = []
of_top (directive_top n) = []
of_top (decl_top d) = of_decl d
of_top (func_top f) = of_function f
of_top (mark_top opens line) = mark opens line ∷ []

abbrev pub of_tops : List TopData → Places
of_tops [] = []
of_tops (t ∷ ts) = of_top t ++ of_tops ts
