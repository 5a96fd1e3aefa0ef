-- Trees of the worked examples, and their texts.
use Rattle.std.specs.Prelude.{ℕ, false, List, [], ◌∷◌, codes, Option, Some}
use Prim.Native.String.{String}
use Rattle.ec_base.specs.declared.line.Line.{Line}
use Rattle.ec_ctypes.specs.declared.types.arith.Arith.{Arith}
use Rattle.ec_ctypes.specs.declared.types.arith.Arith.TheVariants.{Int, Long}
use Rattle.ec_ctypes.specs.declared.tree.expr.UnOp.TheVariants as un
use Rattle.ec_ctypes.specs.declared.tree.expr.BinOp.TheVariants as bin
use Rattle.ec_ctypes.specs.trees.Types.{arithmetic}
use Rattle.ec_ctypes.specs.trees.Exprs.{ExprData, integer, string, identifier, unary, binary, call, ExprList, no_exprs, exprs, BaseData, words, struct_base, DimList, no_dims, no_init, DeclaratorData, declarator, DeclaratorList, no_declarators, declarators, DeclData, decl, DeclList, no_decls, decls}
use Rattle.ec_ctypes.specs.trees.Stmts.{StmtData, stmt, StmtKindData, expr_stmt, block_stmt, return_stmt, StmtList, no_stmts, stmts}
use Rattle.ec_ctypes.specs.trees.Units.{ParamData, TopData, decl_top, func_top, UnitData}
use Rattle.ec_language.specs.Letters.{Text}
use Rattle.ec_writing_defs.specs.Chunks.{text_of}
use Rattle.ec_writing_defs.specs.Expressions.{expr_chunks, decl_chunks}
use Rattle.ec_writing_defs.specs.Programs.{stmt_chunks, top_chunks}

-- ---- texts

abbrev pub expr_text : ExprData → Text
expr_text e = text_of (expr_chunks e)

abbrev pub decl_text : DeclData → Text
decl_text d = text_of (decl_chunks d)

abbrev pub stmt_text : StmtData → Text
stmt_text s = text_of (stmt_chunks s)

abbrev pub top_text : TopData → Text
top_text t = text_of (top_chunks t)

-- ---- expressions

abbrev pub int : ℕ → ExprData
int n = integer n (arithmetic Int)

abbrev pub typed : ℕ → Arith → ExprData
typed n t = integer n (arithmetic t)

abbrev pub var : String → ExprData
var name = identifier (codes name)

abbrev pub a : ExprData
a = var "a"

abbrev pub b : ExprData
b = var "b"

abbrev pub c : ExprData
c = var "c"

abbrev pub minus : ExprData → ExprData
minus e = unary un.Minus e

abbrev pub sum : ExprData → ExprData → ExprData
sum e f = binary bin.Add e f

abbrev pub product : ExprData → ExprData → ExprData
product e f = binary bin.Mul e f

abbrev pub difference : ExprData → ExprData → ExprData
difference e f = binary bin.Sub e f

-- ---- declarations

abbrev pub on : ℕ → Line
on n = record { 0 = n }

abbrev pub int_words : BaseData
int_words = words (codes "int" ∷ [])

abbrev pub one_item : DeclaratorData → DeclaratorList
one_item d = declarators d no_declarators

abbrev pub declared : BaseData → DeclaratorList → DeclData
declared base items = decl base items false (on 7)

-- so many stars, and a name
abbrev pub named : ℕ → String → DeclaratorData
named stars name = declarator stars (codes name) no_dims no_init

-- `char c; int n;`
abbrev pub two_members : DeclList
two_members =
    decls (declared (words (codes "char" ∷ [])) (one_item (named 0 "c")))
    (decls (declared int_words (one_item (named 0 "n"))) no_decls)

abbrev pub pair : BaseData
pair = struct_base (Some (codes "p")) two_members

-- ---- statements

abbrev pub at : ℕ → StmtKindData → StmtData
at n kind = stmt (on n) kind

abbrev pub list : List StmtData → StmtList
list [] = no_stmts
list (s ∷ ss) = stmts s (list ss)

abbrev pub arguments : List ExprData → ExprList
arguments [] = no_exprs
arguments (e ∷ es) = exprs e (arguments es)

abbrev pub function : List ParamData → Option StmtList → TopData
function params body =
    func_top
    (record {
      base = int_words;
      stars = 0;
      name = codes "f";
      params = params;
      body = body;
      section = false;
      line = on 7;
    })

abbrev pub param : ℕ → Option Text → DimList → ParamData
param stars name lengths =
    record { base = int_words; stars = stars; name = name; dims = lengths; section = false }

-- ---- a program with a library call

abbrev pub long : ℕ → ExprData
long n = typed n Long

-- `SELECT a INTO :x FROM t`
abbrev pub selecting : StmtData
selecting =
    at 3
    (block_stmt
    (list
    (at 3
    (expr_stmt
    (call (codes "ECPGdo")
    (arguments
    (int 3 ∷ var "NULL" ∷ var "ECPGst_normal" ∷ string (codes "SELECT a FROM t")
    ∷ var "ECPGt_EOIT" ∷ var "ECPGt_int" ∷ unary un.Addr (var "x") ∷ long 0 ∷ long 1 ∷ long 4
    ∷ var "ECPGt_NO_INDICATOR" ∷ var "NULL" ∷ long 0 ∷ long 0 ∷ long 0 ∷ var "ECPGt_EORT" ∷ []))))
    ∷ [])))

abbrev pub printing : StmtData
printing =
    at 4
    (expr_stmt
    (call (codes "printf") (arguments (string (codes "%d\n") ∷ var "x" ∷ []))))

abbrev pub example : UnitData
example = record {
  tops = decl_top (decl int_words (one_item (named 0 "x")) false (on 1))
      ∷ func_top
      (record {
        base = int_words;
        stars = 0;
        name = codes "main";
        params = [];
        body = Some (list (selecting ∷ printing ∷ at 5 (return_stmt (Some (int 0))) ∷ []));
        section = false;
        line = on 2;
      })
      ∷ [];
  embs = [];
  last = on 0;
}
