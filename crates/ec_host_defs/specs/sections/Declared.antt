-- Which declarations of a program stand in a declare section (PostgreSQL manual, "Declaring Host Variables"). Each declarator, each parameter, named or not, and each declaration or definition of a function counts, in the order of the text; members don't.
use Rattle.std.specs.Prelude.{ℕ, ◌+◌, Bool, true, false, List, [], ◌∷◌, ◌++◌, Option, Some, None, if◌then◌else◌}
use Rattle.ec_ctypes.specs.trees.Exprs.{DeclaratorList, no_declarators, declarators, DeclData, decl}
use Rattle.ec_ctypes.specs.trees.Stmts.{StmtData, stmt, StmtKindData, empty_stmt, expr_stmt, block_stmt, if_stmt, while_stmt, do_stmt, for_stmt, break_stmt, continue_stmt, return_stmt, goto_stmt, label_stmt, decl_stmt, emb_stmt, mark_stmt, StmtList, no_stmts, stmts, StmtOption, no_stmt, some_stmt}
use Rattle.ec_ctypes.specs.trees.Units.{ParamData, FuncData, TopData, include_top, directive_top, decl_top, func_top, mark_top, UnitData}

-- a declaration: whether it stands in a section, and whether it is that of a function
pub record DeclaredData : Type 0 where
  pub section : Bool
  pub is_function : Bool

abbrev pub an_object : Bool → DeclaredData
an_object section = record { section = section; is_function = false }

abbrev pub Declared : Type 0
Declared = List DeclaredData

abbrev pub declared_items : Bool → DeclaratorList → Declared
declared_items section no_declarators = []
declared_items section (declarators d ds) = an_object section ∷ declared_items section ds

abbrev pub declared_by : DeclData → Declared
declared_by (decl b items section line) = declared_items section items

abbrev mutual
  pub declared_in : StmtData → Declared
  declared_in (stmt line kind) = declared_in_kind kind

  pub declared_in_kind : StmtKindData → Declared
  declared_in_kind empty_stmt = []
  declared_in_kind (expr_stmt e) = []
  declared_in_kind (block_stmt ss) = declared_in_all ss
  declared_in_kind (if_stmt e s other) = declared_in s ++ declared_in_option other
  declared_in_kind (while_stmt e s) = declared_in s
  declared_in_kind (do_stmt s e) = declared_in s
  declared_in_kind (for_stmt x y z s) = declared_in s
  declared_in_kind break_stmt = []
  declared_in_kind continue_stmt = []
  declared_in_kind (return_stmt e) = []
  declared_in_kind (goto_stmt l) = []
  declared_in_kind (label_stmt l s) = declared_in s
  declared_in_kind (decl_stmt d) = declared_by d
  declared_in_kind (emb_stmt n) = []
  declared_in_kind (mark_stmt opens) = []

  pub declared_in_all : StmtList → Declared
  declared_in_all no_stmts = []
  declared_in_all (stmts s ss) = declared_in s ++ declared_in_all ss

  pub declared_in_option : StmtOption → Declared
  declared_in_option no_stmt = []
  declared_in_option (some_stmt s) = declared_in s

abbrev pub declared_params : List ParamData → Declared
declared_params [] = []
declared_params (p ∷ ps) = an_object p.section ∷ declared_params ps

abbrev pub declared_in_body : Option StmtList → Declared
declared_in_body None = []
declared_in_body (Some ss) = declared_in_all ss

abbrev pub declared_function : FuncData → Declared
declared_function f = record { section = f.section; is_function = true }
    ∷ (declared_params f.params ++ declared_in_body f.body)

abbrev pub declared_in_top : TopData → Declared
declared_in_top (include_top bytes) = []
declared_in_top (directive_top n) = []
declared_in_top (decl_top d) = declared_by d
declared_in_top (func_top f) = declared_function f
declared_in_top (mark_top opens line) = []

abbrev pub declared_in_tops : List TopData → Declared
declared_in_tops [] = []
declared_in_tops (t ∷ ts) = declared_in_top t ++ declared_in_tops ts

-- the numbers of those that pass the test, where the first has this number
abbrev pub numbers_from : ℕ → (DeclaredData → Bool) → Declared → List ℕ
numbers_from n test [] = []
numbers_from n test (d ∷ ds) = if test d then n ∷ numbers_from (n + 1) test ds
    else numbers_from (n + 1) test ds

-- the numbers of the declarations that stand in a section
abbrev pub hosts_of : UnitData → List ℕ
hosts_of u = numbers_from 0 (λ d. d.section) (declared_in_tops u.tops)

-- the numbers of the functions
abbrev pub functions_of : UnitData → List ℕ
functions_of u = numbers_from 0 (λ d. d.is_function) (declared_in_tops u.tops)
