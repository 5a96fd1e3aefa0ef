-- How expressions are written, and the declarations that may stand in them. An operand has parentheses in three cases and in no other: its level is below that of its place; a unary operator, a cast or `sizeof` stands directly under another; it is an integer and a `.` follows.
use Rattle.std.specs.Prelude.{ℕ, zero, suc, Bool, true, false, nat_lt, List, [], ◌∷◌, ◌++◌, codes, Option, Some, None}
use Rattle.ec_ctypes.specs.declared.text.token.Punct.{Punct}
use Rattle.ec_ctypes.specs.declared.text.token.Punct.TheVariants as p
use Rattle.ec_ctypes.specs.declared.tree.expr.UnOp.{UnOp}
use Rattle.ec_ctypes.specs.declared.tree.expr.UnOp.TheVariants as un
use Rattle.ec_ctypes.specs.declared.tree.expr.BinOp.{BinOp}
use Rattle.ec_ctypes.specs.declared.tree.expr.BinOp.TheVariants as bin
use Rattle.ec_ctypes.specs.trees.Exprs.{ExprData, integer, character, string, identifier, unary, binary, assign, bump, call, call_other, index, member, arrow, cast, size_type, size_expr, ExprList, no_exprs, exprs, BaseData, words, varchar, tagged, struct_base, DimData, open_dim, dim, DimList, no_dims, dims, InitData, one, many, InitList, no_inits, inits, InitOption, no_init, some_init, DeclaratorData, declarator, DeclaratorList, no_declarators, declarators, DeclData, decl, DeclList, no_decls, decls}
use Rattle.ec_ctypes.specs.trees.Tokens.{word_token, integer_token, character_token, string_token, punct_token}
use Rattle.ec_language.specs.Letters.{Text}
use Rattle.ec_language.specs.Productions.{Rank, or_rank, and_rank, bit_or_rank, bit_xor_rank, bit_and_rank, equal_rank, relation_rank, shift_rank, add_rank, multiply_rank}
use Rattle.ec_writing_defs.specs.Chunks.{Chunk, the, blank, Chunks}

-- ---- levels

-- where an expression stands in the grammar (6.5), the loosest first
pub data Level : Type 0 where
  assigning : Level
  ranked : Rank → Level
  casting : Level
  prefixed : Level
  postfixed : Level

abbrev pub rank_height : Rank → ℕ
rank_height or_rank = 1
rank_height and_rank = 2
rank_height bit_or_rank = 3
rank_height bit_xor_rank = 4
rank_height bit_and_rank = 5
rank_height equal_rank = 6
rank_height relation_rank = 7
rank_height shift_rank = 8
rank_height add_rank = 9
rank_height multiply_rank = 10

abbrev pub height : Level → ℕ
height assigning = 0
height (ranked r) = rank_height r
height casting = 11
height prefixed = 12
height postfixed = 13

-- the level of the right operand of a rank
abbrev pub tighter : Rank → Level
tighter or_rank = ranked and_rank
tighter and_rank = ranked bit_or_rank
tighter bit_or_rank = ranked bit_xor_rank
tighter bit_xor_rank = ranked bit_and_rank
tighter bit_and_rank = ranked equal_rank
tighter equal_rank = ranked relation_rank
tighter relation_rank = ranked shift_rank
tighter shift_rank = ranked add_rank
tighter add_rank = ranked multiply_rank
tighter multiply_rank = casting

abbrev pub rank_of : BinOp → Rank
rank_of bin.Or = or_rank
rank_of bin.And = and_rank
rank_of bin.BitOr = bit_or_rank
rank_of bin.BitXor = bit_xor_rank
rank_of bin.BitAnd = bit_and_rank
rank_of bin.Eq = equal_rank
rank_of bin.Ne = equal_rank
rank_of bin.Lt = relation_rank
rank_of bin.Gt = relation_rank
rank_of bin.Le = relation_rank
rank_of bin.Ge = relation_rank
rank_of bin.Shl = shift_rank
rank_of bin.Shr = shift_rank
rank_of bin.Add = add_rank
rank_of bin.Sub = add_rank
rank_of bin.Mul = multiply_rank
rank_of bin.Div = multiply_rank
rank_of bin.Rem = multiply_rank

abbrev pub bump_level : Bool → Level
bump_level true = prefixed
bump_level false = postfixed

abbrev pub level : ExprData → Level
level (unary op a) = prefixed
level (binary op a b) = ranked (rank_of op)
level (assign op a b) = assigning
level (bump before up a) = bump_level before
level (cast b stars a) = casting
level (size_type b stars) = prefixed
level (size_expr a) = prefixed
level _ = postfixed

-- ---- marks

abbrev pub binary_mark : BinOp → Punct
binary_mark bin.Or = p.OrOr
binary_mark bin.And = p.AndAnd
binary_mark bin.BitOr = p.Or
binary_mark bin.BitXor = p.Caret
binary_mark bin.BitAnd = p.And
binary_mark bin.Eq = p.EqualEqual
binary_mark bin.Ne = p.NotEqual
binary_mark bin.Lt = p.Less
binary_mark bin.Gt = p.Greater
binary_mark bin.Le = p.LessEqual
binary_mark bin.Ge = p.GreaterEqual
binary_mark bin.Shl = p.Shl
binary_mark bin.Shr = p.Shr
binary_mark bin.Add = p.Plus
binary_mark bin.Sub = p.Minus
binary_mark bin.Mul = p.Star
binary_mark bin.Div = p.Slash
binary_mark bin.Rem = p.Percent

abbrev pub assign_mark : Option BinOp → Punct
assign_mark (Some bin.Add) = p.PlusAssign
assign_mark (Some bin.Sub) = p.MinusAssign
assign_mark (Some bin.Mul) = p.StarAssign
assign_mark (Some bin.Div) = p.SlashAssign
assign_mark (Some bin.Rem) = p.PercentAssign
assign_mark (Some bin.Shl) = p.ShlAssign
assign_mark (Some bin.Shr) = p.ShrAssign
assign_mark (Some bin.BitAnd) = p.AndAssign
assign_mark (Some bin.BitXor) = p.CaretAssign
assign_mark (Some bin.BitOr) = p.OrAssign
assign_mark _ = p.Assign

abbrev pub unary_mark : UnOp → Punct
unary_mark un.Addr = p.And
unary_mark un.Deref = p.Star
unary_mark un.Plus = p.Plus
unary_mark un.Minus = p.Minus
unary_mark un.Not = p.Not
unary_mark un.Flip = p.Tilde

abbrev pub bump_mark : Bool → Punct
bump_mark true = p.PlusPlus
bump_mark false = p.MinusMinus

-- ---- parts

abbrev pub mark : Punct → Chunk
mark m = the (punct_token m)

abbrev pub word : Text → Chunk
word w = the (word_token w)

abbrev pub in_parens : Chunks → Chunks
in_parens cs = mark p.LeftParen ∷ cs ++ mark p.RightParen ∷ []

-- An expression that was written so, at a place of this height.
abbrev pub at_height : ℕ → ExprData → Chunks → Chunks
at_height n e cs = elim (nat_lt (height (level e)) n) [ true ↦ in_parens cs | false ↦ cs ]

-- and at a place of this level
abbrev pub at_place : Level → ExprData → Chunks → Chunks
at_place place e cs = at_height (height place) e cs

-- before `.` an integer has parentheses too, or it would go on as a number
abbrev pub before_dot : ExprData → Chunks → Chunks
before_dot (integer n t) cs = in_parens cs
before_dot e cs = at_place postfixed e cs

abbrev pub more_word_chunks : List Text → Chunks
more_word_chunks [] = []
more_word_chunks (w ∷ ws) = blank ∷ word w ∷ more_word_chunks ws

-- the words of a type in their order, with one blank between them
abbrev pub word_chunks : List Text → Chunks
word_chunks [] = []
word_chunks (w ∷ ws) = word w ∷ more_word_chunks ws

abbrev pub star_chunks : ℕ → Chunks
star_chunks zero = []
star_chunks (suc n) = mark p.Star ∷ star_chunks n

-- stars behind a type, with one blank before the first
abbrev pub stars_behind : ℕ → Chunks
stars_behind zero = []
stars_behind (suc n) = blank ∷ star_chunks (suc n)

-- a type in parentheses, by what its base was written as
abbrev pub typed : Chunks → ℕ → Chunks
typed base stars = mark p.LeftParen ∷ base ++ (stars_behind stars ++ mark p.RightParen ∷ [])

abbrev pub bumped_chunks : Bool → Bool → Chunks → Chunks
bumped_chunks true up cs = mark (bump_mark up) ∷ cs
bumped_chunks false up cs = cs ++ mark (bump_mark up) ∷ []

abbrev pub arguments : Chunks → Chunks
arguments cs = mark p.LeftParen ∷ cs ++ mark p.RightParen ∷ []

-- `struct`, and its tag if it has one
abbrev pub struct_head : Option Text → Chunks
struct_head None = word (codes "struct") ∷ []
struct_head (Some tag) = word (codes "struct") ∷ blank ∷ word tag ∷ []

-- ---- expressions and declarations

abbrev mutual
  pub expr_chunks : ExprData → Chunks
  expr_chunks (integer n t) = the (integer_token n t) ∷ []
  expr_chunks (character c) = the (character_token c) ∷ []
  expr_chunks (string s) = the (string_token s) ∷ []
  expr_chunks (identifier x) = word x ∷ []
  -- a unary operator, a cast or `sizeof` that stands directly under another has parentheses, so their operands have the level of postfix expressions
  expr_chunks (unary op a) = mark (unary_mark op) ∷ at_place postfixed a (expr_chunks a)
  expr_chunks (binary op a b) =
      at_place (ranked (rank_of op)) a (expr_chunks a)
      ++ blank ∷ mark (binary_mark op) ∷ blank ∷ at_place (tighter (rank_of op)) b (expr_chunks b)
  expr_chunks (assign op a b) =
      at_place (ranked or_rank) a (expr_chunks a)
      ++ blank ∷ mark (assign_mark op) ∷ blank ∷ expr_chunks b
  expr_chunks (bump before up a) = bumped_chunks before up (at_place postfixed a (expr_chunks a))
  expr_chunks (call f es) = word f ∷ arguments (list_chunks es)
  expr_chunks (call_other f es) =
      at_place postfixed f (expr_chunks f) ++ arguments (list_chunks es)
  expr_chunks (index a b) =
      at_place postfixed a (expr_chunks a)
      ++ (mark p.LeftBracket ∷ expr_chunks b ++ mark p.RightBracket ∷ [])
  expr_chunks (member a m) = before_dot a (expr_chunks a) ++ mark p.Dot ∷ word m ∷ []
  expr_chunks (arrow a m) =
      at_place postfixed a (expr_chunks a) ++ mark p.Arrow ∷ word m ∷ []
  expr_chunks (cast b stars a) =
      typed (base_chunks b) stars ++ at_place postfixed a (expr_chunks a)
  expr_chunks (size_type b stars) = word (codes "sizeof") ∷ typed (base_chunks b) stars
  expr_chunks (size_expr a) =
      word (codes "sizeof") ∷ blank ∷ at_place postfixed a (expr_chunks a)

  pub list_chunks : ExprList → Chunks
  list_chunks no_exprs = []
  list_chunks (exprs e es) = expr_chunks e ++ more_chunks es

  pub more_chunks : ExprList → Chunks
  more_chunks no_exprs = []
  more_chunks (exprs e es) = mark p.Comma ∷ blank ∷ expr_chunks e ++ more_chunks es

  -- VARCHAR is no C and leaves nothing
  pub base_chunks : BaseData → Chunks
  base_chunks (words ws) = word_chunks ws
  base_chunks varchar = []
  base_chunks (tagged tag) = struct_head (Some tag)
  base_chunks (struct_base tag ms) =
      struct_head tag
      ++ (blank ∷ mark p.LeftBrace ∷ members_chunks ms ++ (blank ∷ mark p.RightBrace ∷ []))

  -- each member, with one blank before it
  pub members_chunks : DeclList → Chunks
  members_chunks no_decls = []
  members_chunks (decls m ms) = blank ∷ decl_chunks m ++ members_chunks ms

  pub dim_chunks : DimData → Chunks
  dim_chunks open_dim = []
  dim_chunks (dim e) = at_place (ranked or_rank) e (expr_chunks e)

  pub dims_chunks : DimList → Chunks
  dims_chunks no_dims = []
  dims_chunks (dims d ds) =
      (mark p.LeftBracket ∷ dim_chunks d ++ mark p.RightBracket ∷ []) ++ dims_chunks ds

  pub init_chunks : InitData → Chunks
  init_chunks (one e) = expr_chunks e
  init_chunks (many is) = mark p.LeftBrace ∷ inits_chunks is ++ mark p.RightBrace ∷ []

  pub inits_chunks : InitList → Chunks
  inits_chunks no_inits = []
  inits_chunks (inits i is) = init_chunks i ++ more_inits_chunks is

  pub more_inits_chunks : InitList → Chunks
  more_inits_chunks no_inits = []
  more_inits_chunks (inits i is) =
      mark p.Comma ∷ blank ∷ init_chunks i ++ more_inits_chunks is

  pub initializer_chunks : InitOption → Chunks
  initializer_chunks no_init = []
  initializer_chunks (some_init i) = blank ∷ mark p.Assign ∷ blank ∷ init_chunks i

  pub declarator_chunks : DeclaratorData → Chunks
  declarator_chunks (declarator stars name ds i) =
      star_chunks stars ++ (word name ∷ dims_chunks ds ++ initializer_chunks i)

  pub more_declarators_chunks : DeclaratorList → Chunks
  more_declarators_chunks no_declarators = []
  more_declarators_chunks (declarators d ds) =
      mark p.Comma ∷ blank ∷ declarator_chunks d ++ more_declarators_chunks ds

  pub declarators_chunks : DeclaratorList → Chunks
  declarators_chunks no_declarators = []
  declarators_chunks (declarators d ds) =
      blank ∷ declarator_chunks d ++ more_declarators_chunks ds

  -- a declaration or a member, without its line
  pub decl_chunks : DeclData → Chunks
  decl_chunks (decl b ds section line) =
      base_chunks b ++ (declarators_chunks ds ++ mark p.Semicolon ∷ [])

abbrev pub type_chunks : BaseData → ℕ → Chunks
type_chunks b stars = typed (base_chunks b) stars
