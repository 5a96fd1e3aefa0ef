-- What the tree of every source keeps, as a test that computes: the parts of the shape of written C that the grammar and the tokens give. Sections, VARCHAR, embedded statements, directives and marks may stand in it.
use Rattle.std.specs.Prelude.{Bool, true, false, not, ◌&&◌, ◌||◌, List, [], ◌∷◌, Option, Some, None}
use Rattle.ec_ctypes.specs.trees.Exprs.{ExprData, integer, character, string, identifier, unary, binary, assign, bump, call, call_other, index, member, arrow, cast, size_type, size_expr, ExprList, no_exprs, exprs, BaseData, words, varchar, tagged, struct_base, DimData, open_dim, dim, DimList, no_dims, dims, InitData, one, many, InitList, no_inits, inits, InitOption, no_init, some_init, DeclaratorData, declarator, DeclaratorList, no_declarators, declarators, DeclData, decl, DeclList, no_decls, decls}
use Rattle.ec_ctypes.specs.trees.Stmts.{StmtData, stmt, StmtKindData, empty_stmt, expr_stmt, block_stmt, if_stmt, while_stmt, do_stmt, for_stmt, break_stmt, continue_stmt, return_stmt, goto_stmt, label_stmt, decl_stmt, emb_stmt, mark_stmt, StmtList, no_stmts, stmts, StmtOption, no_stmt, some_stmt}
use Rattle.ec_ctypes.specs.trees.Tokens.{TokData, word_token, integer_token, character_token, string_token, include_token, TokenData}
use Rattle.ec_ctypes.specs.trees.Units.{ParamData, FuncData, TopData, include_top, directive_top, decl_top, func_top, mark_top, UnitData}
use Rattle.ec_language.specs.CText.{is_word}
use Rattle.ec_language.specs.Letters.{each}
use Rattle.ec_language.specs.Tokens.{is_left_out_word}
use Rattle.ec_writing_defs.specs.Shapes.{is_plain_name, is_free_name, fits_type, is_character, is_byte, is_assignable, are_type_words, is_line, is_open, is_written_name, is_void_list, is_include_line}

-- ---- tokens

-- what a token holds
abbrev pub is_source_tok : TokData → Bool
is_source_tok (word_token w) = is_word w && not (is_left_out_word w)
is_source_tok (integer_token n t) = fits_type n t
is_source_tok (character_token c) = is_character c
is_source_tok (string_token s) = each is_byte s
is_source_tok (include_token bytes) = is_include_line bytes
is_source_tok _ = true

abbrev pub is_source_token : TokenData → Bool
is_source_token t = is_line t.line.0 && is_source_tok t.tok

abbrev pub are_source_tokens : List TokenData → Bool
are_source_tokens [] = true
are_source_tokens (t ∷ ts) = is_source_token t && are_source_tokens ts

-- ---- expressions and declarations

-- What is called apart from a name may be a name, as in `(f)(x)`.
abbrev mutual
  pub is_source_expr : ExprData → Bool
  is_source_expr (integer v t) = fits_type v t
  is_source_expr (character c) = is_character c
  is_source_expr (string s) = each is_byte s
  is_source_expr (identifier x) = is_free_name x
  is_source_expr (unary op a) = is_source_expr a
  is_source_expr (binary op a b) = is_source_expr a && is_source_expr b
  is_source_expr (assign o a b) = is_assignable o && (is_source_expr a && is_source_expr b)
  is_source_expr (bump before up a) = is_source_expr a
  is_source_expr (call f es) = is_free_name f && are_source_exprs es
  is_source_expr (call_other f es) = is_source_expr f && are_source_exprs es
  is_source_expr (index a b) = is_source_expr a && is_source_expr b
  is_source_expr (member a m) = is_plain_name m && is_source_expr a
  is_source_expr (arrow a m) = is_plain_name m && is_source_expr a
  is_source_expr (cast b stars a) = is_source_base b && is_source_expr a
  is_source_expr (size_type b stars) = is_source_base b
  is_source_expr (size_expr a) = is_source_expr a

  pub are_source_exprs : ExprList → Bool
  are_source_exprs no_exprs = true
  are_source_exprs (exprs e es) = is_source_expr e && are_source_exprs es

  pub is_source_base : BaseData → Bool
  is_source_base (words []) = false
  is_source_base (words (w ∷ ws)) = are_type_words (w ∷ ws)
  is_source_base (tagged t) = is_plain_name t
  is_source_base varchar = true
  is_source_base (struct_base t no_decls) = false
  is_source_base (struct_base t (decls m ms)) =
      is_written_name t && (is_source_member m && are_source_members ms)

  pub are_source_members : DeclList → Bool
  are_source_members no_decls = true
  are_source_members (decls m ms) = is_source_member m && are_source_members ms

  -- a member has one declarator or more
  pub is_source_member : DeclData → Bool
  is_source_member (decl b no_declarators section line) = false
  is_source_member (decl b (declarators d ds) section line) =
      is_line line.0
      && (is_source_base b && (is_source_declarator d && are_source_declarators ds))

  pub is_source_dim : DimData → Bool
  is_source_dim open_dim = true
  is_source_dim (dim e) = is_source_expr e

  pub are_source_dims : DimList → Bool
  are_source_dims no_dims = true
  are_source_dims (dims d ds) = is_source_dim d && are_source_dims ds

  pub is_source_init : InitData → Bool
  is_source_init (one e) = is_source_expr e
  is_source_init (many is) = are_some_source_inits is

  -- braces hold one initializer or more
  pub are_some_source_inits : InitList → Bool
  are_some_source_inits no_inits = false
  are_some_source_inits (inits i is) = is_source_init i && are_source_inits is

  pub are_source_inits : InitList → Bool
  are_source_inits no_inits = true
  are_source_inits (inits i is) = is_source_init i && are_source_inits is

  pub is_source_initializer : InitOption → Bool
  is_source_initializer no_init = true
  is_source_initializer (some_init i) = is_source_init i

  pub is_source_declarator : DeclaratorData → Bool
  is_source_declarator (declarator stars name ds i) =
      is_plain_name name && (are_source_dims ds && is_source_initializer i)

  pub are_source_declarators : DeclaratorList → Bool
  are_source_declarators no_declarators = true
  are_source_declarators (declarators d ds) =
      is_source_declarator d && are_source_declarators ds

abbrev pub is_source_decl : DeclData → Bool
is_source_decl (decl b ds section line) =
    is_line line.0 && (is_source_base b && are_source_declarators ds)

-- ---- statements

abbrev pub is_source_option : Option ExprData → Bool
is_source_option None = true
is_source_option (Some e) = is_source_expr e

-- what stands in a block alone: a declaration or a mark
abbrev pub is_item_alone : StmtKindData → Bool
is_item_alone (decl_stmt d) = is_source_decl d
is_item_alone (mark_stmt opens) = true
is_item_alone _ = false

abbrev mutual
  -- a statement that is no declaration and no mark
  pub is_source_stmt : StmtData → Bool
  is_source_stmt (stmt line kind) = is_line line.0 && is_source_kind kind

  pub is_source_kind : StmtKindData → Bool
  is_source_kind empty_stmt = true
  is_source_kind (expr_stmt e) = is_source_expr e
  is_source_kind (block_stmt ss) = are_source_items ss
  is_source_kind (if_stmt e s other) =
      is_source_expr e && (is_source_stmt s && is_source_else (is_open s) other)
  is_source_kind (while_stmt e s) = is_source_expr e && is_source_stmt s
  is_source_kind (do_stmt s e) = is_source_stmt s && is_source_expr e
  is_source_kind (for_stmt a b c s) =
      (is_source_option a && (is_source_option b && is_source_option c)) && is_source_stmt s
  is_source_kind break_stmt = true
  is_source_kind continue_stmt = true
  is_source_kind (return_stmt e) = is_source_option e
  is_source_kind (goto_stmt l) = is_plain_name l
  is_source_kind (label_stmt l s) = is_plain_name l && is_source_stmt s
  is_source_kind (decl_stmt d) = false
  is_source_kind (emb_stmt m) = true
  is_source_kind (mark_stmt opens) = false

  -- `else` belongs to the nearest `if` (6.8.4.1, 3)
  pub is_source_else : Bool → StmtOption → Bool
  is_source_else opens no_stmt = true
  is_source_else opens (some_stmt s) = not opens && is_source_stmt s

  -- what stands in a block
  pub are_source_items : StmtList → Bool
  are_source_items no_stmts = true
  are_source_items (stmts s ss) = is_source_item s && are_source_items ss

  pub is_source_item : StmtData → Bool
  is_source_item (stmt line kind) = is_line line.0 && (is_item_alone kind || is_source_kind kind)

-- ---- programs

abbrev pub is_source_param : ParamData → Bool
is_source_param q =
    is_source_base q.base && (is_written_name q.name && are_source_dims q.dims)

abbrev pub are_source_params : List ParamData → Bool
are_source_params [] = true
are_source_params (q ∷ qs) = is_source_param q && are_source_params qs

abbrev pub is_source_body : Option StmtList → Bool
is_source_body None = true
is_source_body (Some ss) = are_source_items ss

abbrev pub is_source_func : FuncData → Bool
is_source_func f =
    is_line f.line.0
    && ((is_source_base f.base && is_plain_name f.name)
    && ((are_source_params f.params && not (is_void_list f.params)) && is_source_body f.body))

abbrev pub is_source_top : TopData → Bool
is_source_top (include_top bytes) = is_include_line bytes
is_source_top (directive_top n) = true
is_source_top (decl_top d) = is_source_decl d
is_source_top (func_top f) = is_source_func f
is_source_top (mark_top opens line) = true

abbrev pub are_source_tops : List TopData → Bool
are_source_tops [] = true
are_source_tops (t ∷ ts) = is_source_top t && are_source_tops ts

-- The program can stand in a source.
abbrev pub is_source_shape : UnitData → Bool
is_source_shape u = are_source_tops u.tops
