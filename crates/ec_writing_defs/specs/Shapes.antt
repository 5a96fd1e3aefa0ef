-- Which trees can be written so that they are read back, as a test that computes. `docs/LANGUAGE.md` has the reason for each part.
use Rattle.std.specs.Prelude.{ℕ, suc, Bool, true, false, not, ◌&&◌, ◌||◌, nat_lt, ◌==◌, ℤ, pos, negsuc, int_le, List, [], ◌∷◌, ◌++◌, codes, Option, Some, None}
use Rattle.ec_ctypes.specs.declared.types.arith.Arith.TheVariants.{Int, UInt, Long, ULong, LLong, ULLong}
use Rattle.ec_ctypes.specs.declared.tree.expr.BinOp.{BinOp}
use Rattle.ec_ctypes.specs.declared.tree.expr.BinOp.TheVariants as bin
use Rattle.ec_ctypes.specs.trees.Types.{TyData, arithmetic}
use Rattle.ec_ctypes.specs.Arithmetic.{greatest}
use Rattle.ec_ctypes.specs.trees.Exprs.{ExprData, integer, character, string, identifier, unary, binary, assign, bump, call, call_other, index, member, arrow, cast, size_type, size_expr, ExprList, no_exprs, exprs, BaseData, words, varchar, tagged, struct_base, DimData, open_dim, dim, DimList, no_dims, dims, InitData, one, many, InitList, no_inits, inits, InitOption, no_init, some_init, DeclaratorData, declarator, DeclaratorList, no_declarators, declarators, DeclData, decl, DeclList, no_decls, decls}
use Rattle.ec_ctypes.specs.trees.Embedded.{EmbData}
use Rattle.ec_ctypes.specs.trees.Stmts.{StmtData, stmt, StmtKindData, empty_stmt, expr_stmt, block_stmt, if_stmt, while_stmt, do_stmt, for_stmt, break_stmt, continue_stmt, return_stmt, goto_stmt, label_stmt, decl_stmt, emb_stmt, mark_stmt, StmtList, no_stmts, stmts, StmtOption, no_stmt, some_stmt}
use Rattle.ec_ctypes.specs.trees.Units.{ParamData, FuncData, TopData, include_top, decl_top, func_top, UnitData}
use Rattle.ec_language.specs.Letters.{Text, newline, is_not_newline, each, is_among, is_empty, begins_with, same_text, same_word}
use Rattle.ec_language.specs.ReadPieces.{c_stop}
use Rattle.ec_language.specs.ReadTokens.{include_behind}
use Rattle.ec_language.specs.CText.{is_word}
use Rattle.ec_language.specs.Keywords.{type_words, is_name}
use Rattle.ec_language.specs.Tokens.{is_left_out_word}
use Rattle.ec_language.specs.Productions.{is_void, line_of}
use Rattle.ec_writing_defs.specs.Chunks.{line_behind}
use Rattle.ec_writing_defs.specs.Programs.{stmt_chunks}

-- ---- words and constants

-- a name of C that is no keyword, and none that is left out
abbrev pub is_plain_name : Text → Bool
is_plain_name x = is_word x && (not (is_left_out_word x) && is_name x)

-- These two stand for members of the communication area where an expression begins with them.
abbrev pub is_area_word : Text → Bool
is_area_word x = same_text x (codes "SQLCODE") || same_text x (codes "SQLSTATE")

-- a name that an expression can begin with
abbrev pub is_free_name : Text → Bool
is_free_name x = is_plain_name x && not (is_area_word x)

-- the types of integer constants
abbrev pub is_constant_type : TyData → Bool
is_constant_type (arithmetic Int) = true
is_constant_type (arithmetic UInt) = true
is_constant_type (arithmetic Long) = true
is_constant_type (arithmetic ULong) = true
is_constant_type (arithmetic LLong) = true
is_constant_type (arithmetic ULLong) = true
is_constant_type _ = false

-- the greatest integer of the type
abbrev pub most_of : TyData → ℤ
most_of (arithmetic t) = greatest t
most_of _ = pos 0

abbrev pub fits_type : ℕ → TyData → Bool
fits_type n t = is_constant_type t && int_le (pos n) (most_of t)

-- characters are signed, of 8 bits
abbrev pub is_character : ℤ → Bool
is_character (pos n) = nat_lt n 128
is_character (negsuc n) = nat_lt n 128

abbrev pub is_byte : ℕ → Bool
is_byte b = nat_lt b 256

-- the operators of assignments
abbrev pub is_assignable : Option BinOp → Bool
is_assignable None = true
is_assignable (Some bin.Add) = true
is_assignable (Some bin.Sub) = true
is_assignable (Some bin.Mul) = true
is_assignable (Some bin.Div) = true
is_assignable (Some bin.Rem) = true
is_assignable (Some bin.Shl) = true
is_assignable (Some bin.Shr) = true
is_assignable (Some bin.BitAnd) = true
is_assignable (Some bin.BitXor) = true
is_assignable (Some bin.BitOr) = true
is_assignable (Some _) = false

abbrev pub are_type_words : List Text → Bool
are_type_words [] = true
are_type_words (w ∷ ws) = is_among type_words w && are_type_words ws

-- `struct EXEC SQL` would begin an embedded statement
abbrev pub is_tag : Text → Bool
is_tag t = is_plain_name t && not (same_word t (codes "EXEC"))

-- a tag that is written, if there is one
abbrev pub is_tag_option : Option Text → Bool
is_tag_option None = true
is_tag_option (Some t) = is_tag t

-- ---- expressions and declarations

-- The call of a name is a call by that name.
abbrev pub is_no_name : ExprData → Bool
is_no_name (identifier x) = false
is_no_name _ = true

-- Each stands on this line: a member of a struct has the line on which it stands.
abbrev mutual
  pub is_written_expr : ℕ → ExprData → Bool
  is_written_expr n (integer v t) = fits_type v t
  is_written_expr n (character c) = is_character c
  is_written_expr n (string s) = each is_byte s
  is_written_expr n (identifier x) = is_free_name x
  is_written_expr n (unary op a) = is_written_expr n a
  is_written_expr n (binary op a b) = is_written_expr n a && is_written_expr n b
  is_written_expr n (assign o a b) =
      is_assignable o && (is_written_expr n a && is_written_expr n b)
  is_written_expr n (bump before up a) = is_written_expr n a
  is_written_expr n (call f es) = is_free_name f && are_written_exprs n es
  is_written_expr n (call_other f es) =
      is_no_name f && (is_written_expr n f && are_written_exprs n es)
  is_written_expr n (index a b) = is_written_expr n a && is_written_expr n b
  is_written_expr n (member a m) = is_plain_name m && is_written_expr n a
  is_written_expr n (arrow a m) = is_plain_name m && is_written_expr n a
  is_written_expr n (cast b stars a) = is_written_base n b && is_written_expr n a
  is_written_expr n (size_type b stars) = is_written_base n b
  is_written_expr n (size_expr a) = is_written_expr n a

  pub are_written_exprs : ℕ → ExprList → Bool
  are_written_exprs n no_exprs = true
  are_written_exprs n (exprs e es) = is_written_expr n e && are_written_exprs n es

  pub is_written_base : ℕ → BaseData → Bool
  is_written_base n (words []) = false
  is_written_base n (words (w ∷ ws)) = are_type_words (w ∷ ws)
  is_written_base n (tagged t) = is_tag t
  is_written_base n varchar = false
  is_written_base n (struct_base t no_decls) = false
  is_written_base n (struct_base t (decls m ms)) =
      is_tag_option t && (is_written_member n m && are_written_members n ms)

  pub are_written_members : ℕ → DeclList → Bool
  are_written_members n no_decls = true
  are_written_members n (decls m ms) = is_written_member n m && are_written_members n ms

  -- a member has one declarator or more
  pub is_written_member : ℕ → DeclData → Bool
  is_written_member n (decl b no_declarators section line) = false
  is_written_member n (decl b (declarators d ds) section line) =
      (not section && line.0 == n)
      && (is_written_base n b && (is_written_declarator n d && are_written_declarators n ds))

  pub is_written_dim : ℕ → DimData → Bool
  is_written_dim n open_dim = true
  is_written_dim n (dim e) = is_written_expr n e

  pub are_written_dims : ℕ → DimList → Bool
  are_written_dims n no_dims = true
  are_written_dims n (dims d ds) = is_written_dim n d && are_written_dims n ds

  pub is_written_init : ℕ → InitData → Bool
  is_written_init n (one e) = is_written_expr n e
  is_written_init n (many is) = are_some_inits n is

  -- braces hold one initializer or more
  pub are_some_inits : ℕ → InitList → Bool
  are_some_inits n no_inits = false
  are_some_inits n (inits i is) = is_written_init n i && are_written_inits n is

  pub are_written_inits : ℕ → InitList → Bool
  are_written_inits n no_inits = true
  are_written_inits n (inits i is) = is_written_init n i && are_written_inits n is

  pub is_written_initializer : ℕ → InitOption → Bool
  is_written_initializer n no_init = true
  is_written_initializer n (some_init i) = is_written_init n i

  pub is_written_declarator : ℕ → DeclaratorData → Bool
  is_written_declarator n (declarator stars name ds i) =
      is_plain_name name && (are_written_dims n ds && is_written_initializer n i)

  pub are_written_declarators : ℕ → DeclaratorList → Bool
  are_written_declarators n no_declarators = true
  are_written_declarators n (declarators d ds) =
      is_written_declarator n d && are_written_declarators n ds

-- A declaration stands in no section, and has the line of what it is part of.
abbrev pub is_written_decl : ℕ → DeclData → Bool
is_written_decl n (decl b ds section line) =
    (not section && line.0 == n) && (is_written_base n b && are_written_declarators n ds)

-- ---- statements

-- `#line` takes nine digits and no zero at the front
abbrev pub is_line : ℕ → Bool
is_line n = nat_lt 0 n && nat_lt n 1000000000

abbrev pub is_written_option : ℕ → Option ExprData → Bool
is_written_option n None = true
is_written_option n (Some e) = is_written_expr n e

-- whether a statement ends in an `if` without `else`
abbrev mutual
  pub is_open : StmtData → Bool
  is_open (stmt line kind) = is_open_kind kind

  pub is_open_kind : StmtKindData → Bool
  is_open_kind (if_stmt e s other) = is_open_else other
  is_open_kind (while_stmt e s) = is_open s
  is_open_kind (for_stmt a b c s) = is_open s
  is_open_kind (label_stmt l s) = is_open s
  is_open_kind _ = false

  pub is_open_else : StmtOption → Bool
  is_open_else no_stmt = true
  is_open_else (some_stmt s) = is_open s

abbrev pub is_declaration : ℕ → StmtKindData → Bool
is_declaration at (decl_stmt d) = is_written_decl at d
is_declaration at _ = false

abbrev mutual
  -- a statement that is no declaration
  pub is_written_stmt : StmtData → Bool
  is_written_stmt (stmt line kind) = is_line line.0 && is_written_kind line.0 kind

  -- with its line
  pub is_written_kind : ℕ → StmtKindData → Bool
  is_written_kind n empty_stmt = true
  is_written_kind n (expr_stmt e) = is_written_expr n e
  is_written_kind n (block_stmt ss) = are_written_items ss
  is_written_kind n (if_stmt e s other) =
      is_written_expr n e && (is_written_stmt s && is_written_else (is_open s) other)
  is_written_kind n (while_stmt e s) = is_written_expr n e && is_written_stmt s
  -- the condition stands on the line behind the body
  is_written_kind n (do_stmt s e) =
      is_written_stmt s && is_written_expr (line_behind (suc n) (stmt_chunks s)) e
  is_written_kind n (for_stmt a b c s) =
      (is_written_option n a && (is_written_option n b && is_written_option n c))
      && is_written_stmt s
  is_written_kind n break_stmt = true
  is_written_kind n continue_stmt = true
  is_written_kind n (return_stmt e) = is_written_option n e
  is_written_kind n (goto_stmt l) = is_plain_name l
  is_written_kind n (label_stmt l s) = is_plain_name l && is_written_stmt s
  is_written_kind n (decl_stmt d) = false
  is_written_kind n (emb_stmt m) = false
  is_written_kind n (mark_stmt opens) = false

  -- `else` would belong to an `if` without one that stands before it (6.8.4.1, 3)
  pub is_written_else : Bool → StmtOption → Bool
  is_written_else opens no_stmt = true
  is_written_else opens (some_stmt s) = not opens && is_written_stmt s

  -- statements and declarations of a block
  pub are_written_items : StmtList → Bool
  are_written_items no_stmts = true
  are_written_items (stmts s ss) = is_written_item s && are_written_items ss

  pub is_written_item : StmtData → Bool
  is_written_item (stmt line kind) =
      is_line line.0 && (is_declaration line.0 kind || is_written_kind line.0 kind)

-- ---- programs

abbrev pub is_written_name : Option Text → Bool
is_written_name None = true
is_written_name (Some x) = is_plain_name x

abbrev pub is_written_param : ℕ → ParamData → Bool
is_written_param n q =
    (not q.section && is_written_base n q.base)
    && (is_written_name q.name && are_written_dims n q.dims)

abbrev pub are_written_params : ℕ → List ParamData → Bool
are_written_params n [] = true
are_written_params n (q ∷ qs) = is_written_param n q && are_written_params n qs

-- one parameter `void` alone is none
abbrev pub is_void_list : List ParamData → Bool
is_void_list (q ∷ []) = is_void q.base q.stars q.name q.dims
is_void_list _ = false

abbrev pub is_written_body : Option StmtList → Bool
is_written_body None = true
is_written_body (Some ss) = are_written_items ss

abbrev pub is_written_func : FuncData → Bool
is_written_func f =
    (not f.section && is_line f.line.0)
    && ((is_written_base f.line.0 f.base && is_plain_name f.name)
    && ((are_written_params f.line.0 f.params && not (is_void_list f.params))
    && is_written_body f.body))

-- No embedded piece starts in a line: C text goes on to its end.
abbrev pub has_no_piece : Text → Bool
has_no_piece bytes = is_empty (c_stop (bytes ++ newline ∷ []))

abbrev pub is_line_end : Option Text → Bool
is_line_end None = false
is_line_end (Some rest) = same_text rest (newline ∷ [])

-- an `#include` line, to the end of its line (6.10.2)
abbrev pub is_include_line : Text → Bool
is_include_line bytes =
    begins_with (codes "#include") bytes
    && (each is_not_newline bytes
    && (has_no_piece bytes && is_line_end (include_behind (bytes ++ newline ∷ []))))

abbrev pub is_written_top : TopData → Bool
is_written_top (decl_top d) = is_line (line_of d).0 && is_written_decl (line_of d).0 d
is_written_top (func_top f) = is_written_func f
is_written_top (include_top bytes) = is_include_line bytes
is_written_top _ = false

abbrev pub are_written_tops : List TopData → Bool
are_written_tops [] = true
are_written_tops (t ∷ ts) = is_written_top t && are_written_tops ts

abbrev pub none_embedded : List EmbData → Bool
none_embedded [] = true
none_embedded (e ∷ es) = false

-- The program can be written so that it is read back.
abbrev pub is_written_shape : UnitData → Bool
is_written_shape u = are_written_tops u.tops && none_embedded u.embs
