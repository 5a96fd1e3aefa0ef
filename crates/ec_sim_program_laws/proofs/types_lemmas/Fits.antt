-- Trees whose declarations can all have types: VARCHAR is the base of nothing but declarations and ends in a length there, each struct has members, and no list of array lengths is too long.
use Rattle.std.specs.Prelude.{◌≡◌, ◌≤◌, Bool, false, List, [], ◌∷◌, Option, Some, None}
use Rattle.ec_ctypes.specs.trees.Exprs.{ExprData, integer, character, string, identifier, unary, binary, assign, bump, call, call_other, index, member, arrow, cast, size_type, size_expr, ExprList, no_exprs, exprs, BaseData, words, varchar, tagged, struct_base, DimData, open_dim, dim, DimList, no_dims, dims, InitData, one, many, InitList, no_inits, inits, InitOption, no_init, some_init, DeclaratorData, declarator, DeclaratorList, no_declarators, declarators, DeclData, decl, DeclList, no_decls, decls}
use Rattle.ec_ctypes.specs.trees.Stmts.{StmtData, stmt, StmtKindData, empty_stmt, expr_stmt, block_stmt, if_stmt, while_stmt, do_stmt, for_stmt, break_stmt, continue_stmt, return_stmt, goto_stmt, label_stmt, decl_stmt, emb_stmt, mark_stmt, StmtList, no_stmts, stmts, StmtOption, no_stmt, some_stmt}
use Rattle.ec_ctypes.specs.trees.Units.{ParamData, TopData, include_top, directive_top, decl_top, func_top, mark_top}
use Rattle.ec_typing_defs.specs.Expressions.{is_varchar}
use Rattle.ec_sim_statement_laws.specs.expression.Lengths.{EndsInLength}
use Rattle.ec_sim_program_laws.specs.types.Flat.{max_lengths, dims_count}

-- there is one of them or more
abbrev pub SomeDecls : DeclList → Type 0
SomeDecls no_decls = ⊥
SomeDecls (decls d ds) = Unit {0}

abbrev pub SomeDeclarators : DeclaratorList → Type 0
SomeDeclarators no_declarators = ⊥
SomeDeclarators (declarators d ds) = Unit {0}

abbrev pub HasDeclarators : DeclData → Type 0
HasDeclarators (decl b items section line) = SomeDeclarators items

abbrev mutual
  pub Fits : ExprData → Type 0
  Fits (integer n t) = Unit {0}
  Fits (character c) = Unit {0}
  Fits (string s) = Unit {0}
  Fits (identifier x) = Unit {0}
  Fits (unary op e) = Fits e
  Fits (binary op a b) = Fits a × Fits b
  Fits (assign op a b) = Fits a × Fits b
  Fits (bump before up e) = Fits e
  Fits (call f es) = FitAll es
  Fits (call_other f es) = Fits f × FitAll es
  Fits (index a b) = Fits a × Fits b
  Fits (member e m) = Fits e
  Fits (arrow e m) = Fits e
  Fits (cast b stars e) = is_varchar b ≡ false × FitsBase b × Fits e
  Fits (size_type b stars) = is_varchar b ≡ false × FitsBase b
  Fits (size_expr e) = Fits e

  pub FitAll : ExprList → Type 0
  FitAll no_exprs = Unit {0}
  FitAll (exprs e es) = Fits e × FitAll es

  pub FitsBase : BaseData → Type 0
  FitsBase (words ws) = Unit {0}
  FitsBase varchar = Unit {0}
  FitsBase (tagged t) = Unit {0}
  FitsBase (struct_base t ds) = SomeDecls ds × FitMembers ds

  pub FitMembers : DeclList → Type 0
  FitMembers no_decls = Unit {0}
  FitMembers (decls d ds) = HasDeclarators d × FitsDecl d × FitMembers ds

  pub FitsDecl : DeclData → Type 0
  FitsDecl (decl b items section line) = FitsBase b × FitItems (is_varchar b) items

  pub FitItems : Bool → DeclaratorList → Type 0
  FitItems varchars no_declarators = Unit {0}
  FitItems varchars (declarators d ds) = FitsItem varchars d × FitItems varchars ds

  pub FitsItem : Bool → DeclaratorData → Type 0
  FitsItem varchars (declarator stars name ds init) =
      EndsInLength varchars ds × dims_count ds ≤ max_lengths × FitDims ds × FitsInit init

  pub FitDims : DimList → Type 0
  FitDims no_dims = Unit {0}
  FitDims (dims d ds) = FitsDim d × FitDims ds

  pub FitsDim : DimData → Type 0
  FitsDim open_dim = Unit {0}
  FitsDim (dim e) = Fits e

  pub FitsInit : InitOption → Type 0
  FitsInit no_init = Unit {0}
  FitsInit (some_init i) = FitsPart i

  pub FitsPart : InitData → Type 0
  FitsPart (one e) = Fits e
  FitsPart (many is) = FitParts is

  pub FitParts : InitList → Type 0
  FitParts no_inits = Unit {0}
  FitParts (inits i is) = FitsPart i × FitParts is

abbrev pub FitsOption : Option ExprData → Type 0
FitsOption None = Unit {0}
FitsOption (Some e) = Fits e

abbrev mutual
  pub FitsStmt : StmtData → Type 0
  FitsStmt (stmt line kind) = FitsKind kind

  pub FitsKind : StmtKindData → Type 0
  FitsKind empty_stmt = Unit {0}
  FitsKind (expr_stmt e) = Fits e
  FitsKind (block_stmt ss) = FitStmts ss
  FitsKind (if_stmt e s other) = Fits e × FitsStmt s × FitsOther other
  FitsKind (while_stmt e s) = Fits e × FitsStmt s
  FitsKind (do_stmt s e) = FitsStmt s × Fits e
  FitsKind (for_stmt x y z s) = FitsOption x × FitsOption y × FitsOption z × FitsStmt s
  FitsKind break_stmt = Unit {0}
  FitsKind continue_stmt = Unit {0}
  FitsKind (return_stmt e) = FitsOption e
  FitsKind (goto_stmt l) = Unit {0}
  FitsKind (label_stmt l s) = FitsStmt s
  FitsKind (decl_stmt d) = FitsDecl d
  FitsKind (emb_stmt n) = Unit {0}
  FitsKind (mark_stmt opens) = Unit {0}

  pub FitStmts : StmtList → Type 0
  FitStmts no_stmts = Unit {0}
  FitStmts (stmts s ss) = FitsStmt s × FitStmts ss

  pub FitsOther : StmtOption → Type 0
  FitsOther no_stmt = Unit {0}
  FitsOther (some_stmt s) = FitsStmt s

abbrev pub FitsParam : ParamData → Type 0
FitsParam p = is_varchar p.base ≡ false × FitsBase p.base × FitDims p.dims

abbrev pub FitParams : List ParamData → Type 0
FitParams [] = Unit {0}
FitParams (p ∷ ps) = FitsParam p × FitParams ps

abbrev pub FitsBody : Option StmtList → Type 0
FitsBody None = Unit {0}
FitsBody (Some ss) = FitStmts ss

abbrev pub FitsTop : TopData → Type 0
FitsTop (include_top bytes) = Unit {0}
FitsTop (directive_top n) = Unit {0}
FitsTop (decl_top d) = FitsDecl d
FitsTop (func_top f) =
    is_varchar f.base ≡ false × FitsBase f.base × FitParams f.params × FitsBody f.body
FitsTop (mark_top opens line) = Unit {0}

abbrev pub FitTops : List TopData → Type 0
FitTops [] = Unit {0}
FitTops (t ∷ ts) = FitsTop t × FitTops ts
