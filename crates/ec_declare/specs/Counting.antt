-- Counting declarations, and keeping the numbers of those in a section and of functions.
use Rattle.std.specs.Prelude.{ℕ, ◌+◌, Bool, true, false, List, [], ◌∷◌, ◌++◌, Option, Some, None, if◌then◌else◌}
use Rattle.ec_ctypes.specs.trees.Exprs.{DeclaratorList, no_declarators, declarators, DeclData, decl}
use Rattle.ec_ctypes.specs.trees.Stmts.{StmtData, stmt, StmtKindData, empty_stmt, expr_stmt, block_stmt, if_stmt, while_stmt, do_stmt, for_stmt, break_stmt, continue_stmt, return_stmt, goto_stmt, label_stmt, decl_stmt, emb_stmt, mark_stmt, StmtList, no_stmts, stmts, StmtOption, no_stmt, some_stmt}
use Rattle.ec_ctypes.specs.trees.Units.{ParamData, FuncData, TopData, include_top, directive_top, decl_top, func_top, mark_top}

-- the number of the next declaration, and the numbers so far
pub record CountData : Type 0 where
  pub next : ℕ
  pub hosts : List ℕ
  pub functions : List ℕ

abbrev pub none_so_far : CountData
none_so_far = record { next = 0; hosts = []; functions = [] }

abbrev pub kept_if : Bool → ℕ → List ℕ → List ℕ
kept_if passes n ns = if passes then ns ++ n ∷ [] else ns

-- one declaration more: whether it stands in a section, and whether it is that of a function
abbrev pub counted : Bool → Bool → CountData → CountData
counted section is_function c = record {
  next = c.next + 1;
  hosts = kept_if section c.next c.hosts;
  functions = kept_if is_function c.next c.functions;
}

abbrev pub count_items : Bool → DeclaratorList → CountData → CountData
count_items section no_declarators c = c
count_items section (declarators d ds) c = count_items section ds (counted section false c)

abbrev pub count_decl : DeclData → CountData → CountData
count_decl (decl b items section line) c = count_items section items c

abbrev mutual
  pub count_stmt : StmtData → CountData → CountData
  count_stmt (stmt line kind) c = count_kind kind c

  pub count_kind : StmtKindData → CountData → CountData
  count_kind empty_stmt c = c
  count_kind (expr_stmt e) c = c
  count_kind (block_stmt ss) c = count_stmts ss c
  count_kind (if_stmt e s other) c = count_stmt_option other (count_stmt s c)
  count_kind (while_stmt e s) c = count_stmt s c
  count_kind (do_stmt s e) c = count_stmt s c
  count_kind (for_stmt x y z s) c = count_stmt s c
  count_kind break_stmt c = c
  count_kind continue_stmt c = c
  count_kind (return_stmt e) c = c
  count_kind (goto_stmt l) c = c
  count_kind (label_stmt l s) c = count_stmt s c
  count_kind (decl_stmt d) c = count_decl d c
  count_kind (emb_stmt n) c = c
  count_kind (mark_stmt opens) c = c

  pub count_stmts : StmtList → CountData → CountData
  count_stmts no_stmts c = c
  count_stmts (stmts s ss) c = count_stmts ss (count_stmt s c)

  pub count_stmt_option : StmtOption → CountData → CountData
  count_stmt_option no_stmt c = c
  count_stmt_option (some_stmt s) c = count_stmt s c

abbrev pub count_params : List ParamData → CountData → CountData
count_params [] c = c
count_params (p ∷ ps) c = count_params ps (counted p.section false c)

abbrev pub count_body : Option StmtList → CountData → CountData
count_body None c = c
count_body (Some ss) c = count_stmts ss c

abbrev pub count_function : FuncData → CountData → CountData
count_function f c = count_body f.body (count_params f.params (counted f.section true c))

abbrev pub count_top : TopData → CountData → CountData
count_top (include_top bytes) c = c
count_top (directive_top n) c = c
count_top (decl_top d) c = count_decl d c
count_top (func_top f) c = count_function f c
count_top (mark_top opens line) c = c

abbrev pub count_tops : List TopData → CountData → CountData
count_tops [] c = c
count_tops (t ∷ ts) c = count_tops ts (count_top t c)
