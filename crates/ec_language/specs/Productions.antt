-- The grammar of C as it is taken (ISO/IEC 9899:1999, 6.5 to 6.9): its symbols, and for each of them the productions, with the tree that each makes. A symbol for an optional or a repeated part has an empty production.
use Rattle.std.specs.Prelude.{ℕ, zero, ◌+◌, Bool, true, false, not, ℤ, pos, List, [], ◌∷◌, map, codes, Option, Some, None, fold, if◌then◌else◌}
use Prim.Native.String.{String}
use denote.Enum.Bare.{sameb}
use Rattle.ec_base.specs.declared.line.Line.{Line}
use Rattle.ec_ctypes.specs.contracts.text.token.Punct.{the_type}
use Rattle.ec_ctypes.specs.declared.text.token.Punct.{Punct}
use Rattle.ec_ctypes.specs.declared.text.token.Punct.TheVariants as p
use Rattle.ec_ctypes.specs.declared.tree.expr.UnOp.{UnOp}
use Rattle.ec_ctypes.specs.declared.tree.expr.UnOp.TheVariants as un
use Rattle.ec_ctypes.specs.declared.tree.expr.BinOp.{BinOp}
use Rattle.ec_ctypes.specs.declared.tree.expr.BinOp.TheVariants as bin
use Rattle.ec_ctypes.specs.trees.Types.{TyData, void}
use Rattle.ec_ctypes.specs.trees.Exprs.{ExprData, integer, character, string, identifier, unary, binary, assign, bump, call, call_other, index, member, arrow, cast, size_type, size_expr, ExprList, no_exprs, exprs, BaseData, words, varchar, tagged, struct_base, DimData, open_dim, dim, DimList, no_dims, dims, InitData, one, many, InitList, no_inits, inits, InitOption, no_init, some_init, DeclaratorData, declarator, DeclaratorList, no_declarators, declarators, DeclData, decl, DeclList, no_decls, decls}
use Rattle.ec_ctypes.specs.trees.Stmts.{StmtData, stmt, StmtKindData, empty_stmt, expr_stmt, block_stmt, if_stmt, while_stmt, do_stmt, for_stmt, break_stmt, continue_stmt, return_stmt, goto_stmt, label_stmt, decl_stmt, emb_stmt, mark_stmt, StmtList, no_stmts, stmts, no_stmt, some_stmt}
use Rattle.ec_ctypes.specs.trees.Units.{ParamData, TopData, include_top, directive_top, decl_top, func_top, mark_top, UnitData}
use Rattle.ec_ctypes.specs.trees.Tokens.{TokData, word_token, integer_token, character_token, string_token, punct_token, include_token, emb_token, section_start, section_end, end_token, TokenData}
use Rattle.ec_language.specs.Letters.{Text, same_text, is_among}
use Rattle.ec_language.specs.Keywords.{type_words, varchar_words, is_name}

-- ---- tokens, as the grammar sees them

-- a token, and whether it stands in a declare section
pub record Placed : Type 0 where
  pub token : TokenData
  pub section : Bool

-- whether the last mark so far opens a section
abbrev pub section_behind : Bool → TokData → Bool
section_behind section section_start = true
section_behind section section_end = false
section_behind section _ = section

abbrev pub placed_from : Bool → List TokenData → List Placed
placed_from section [] = []
placed_from section (t ∷ ts) =
    record { token = t; section = section } ∷ placed_from (section_behind section t.tok) ts

abbrev pub placed : List TokenData → List Placed
placed ts = placed_from false ts

-- what a tree takes of its first token
pub record Start : Type 0 where
  pub line : Line
  pub section : Bool

abbrev pub start_of : List Placed → Start
start_of [] = record { line = record { 0 = 0 }; section = false }
start_of (t ∷ ts) = record { line = t.token.line; section = t.section }

-- ---- terminals

pub data Terminal : Type 0 where
  mark : Punct → Terminal
  -- this word
  keyword : Text → Terminal
  type_word : Terminal
  varchar_word : Terminal
  -- a word that is no keyword
  name : Terminal
  integer_constant : Terminal
  character_constant : Terminal
  string_literal : Terminal
  include_line : Terminal
  -- an embedded statement that is executed, and one that is a directive
  executable : Terminal
  directive : Terminal
  opening_mark : Terminal
  closing_mark : Terminal
  end_of_text : Terminal

abbrev pub same_punct : Punct → Punct → Bool
same_punct = sameb the_type

-- whether a token is such a terminal
abbrev pub is : Terminal → TokData → Bool
is (mark m) (punct_token n) = same_punct n m
is (keyword k) (word_token w) = same_text w k
is type_word (word_token w) = is_among type_words w
is varchar_word (word_token w) = is_among varchar_words w
is name (word_token w) = is_name w
is integer_constant (integer_token n t) = true
is character_constant (character_token c) = true
is string_literal (string_token s) = true
is include_line (include_token bytes) = true
is executable (emb_token n executed) = executed
is directive (emb_token n executed) = not executed
is opening_mark section_start = true
is closing_mark section_end = true
is end_of_text end_token = true
is _ _ = false

-- what a token holds
abbrev pub bytes_in : TokData → Text
bytes_in (word_token w) = w
bytes_in (string_token s) = s
bytes_in (include_token bytes) = bytes
bytes_in _ = []

abbrev pub number_in : TokData → ℕ
number_in (integer_token n t) = n
number_in (emb_token n executed) = n
number_in _ = 0

abbrev pub type_in : TokData → TyData
type_in (integer_token n t) = t
type_in _ = void

abbrev pub character_in : TokData → ℤ
character_in (character_token c) = c
character_in _ = pos 0

abbrev pub text_of : Placed → Text
text_of t = bytes_in t.token.tok

abbrev pub number_of : Placed → ℕ
number_of t = number_in t.token.tok

-- ---- symbols

-- the ranks of binary operators (6.5.5 to 6.5.14), the loosest first
pub data Rank : Type 0 where
  or_rank : Rank
  and_rank : Rank
  bit_or_rank : Rank
  bit_xor_rank : Rank
  bit_and_rank : Rank
  equal_rank : Rank
  relation_rank : Rank
  shift_rank : Rank
  add_rank : Rank
  multiply_rank : Rank

pub data Sym : Type 0 where
  unit : Sym
  items : Sym
  item : Sym
  -- a declaration or a function, without `static`
  external : Sym
  -- what stands behind its base
  external_tail : Sym
  -- and behind its name
  behind_name : Sym
  body : Sym
  parameter_part : Sym
  parameters : Sym
  more_parameters : Sym
  parameter : Sym
  parameter_name : Sym
  specifiers : Sym
  base : Sym
  more_words : Sym
  constants : Sym
  tag_or_members : Sym
  members_option : Sym
  members : Sym
  more_members : Sym
  member_declaration : Sym
  stars : Sym
  declarator_part : Sym
  declarators_option : Sym
  more_declarators : Sym
  lengths : Sym
  length_part : Sym
  length_option : Sym
  initializer_option : Sym
  initializer : Sym
  initializer_list : Sym
  more_initializers : Sym
  block : Sym
  block_items : Sym
  block_item : Sym
  declaration : Sym
  statement : Sym
  else_option : Sym
  for_head : Sym
  for_start : Sym
  expression_option : Sym
  -- an expression in parentheses
  parenthesized : Sym
  assignment : Sym
  assignment_option : Sym
  assignment_operator : Sym
  operators : Rank → Sym
  more_operands : Rank → Sym
  more_operand : Rank → Sym
  cast_part : Sym
  type_in_parentheses : Sym
  type_name : Sym
  unary_part : Sym
  unary_operator : Sym
  size_operand : Sym
  postfix : Sym
  postfix_parts : Sym
  postfix_part : Sym
  index_part : Sym
  argument_part : Sym
  arguments : Sym
  more_arguments : Sym
  primary : Sym

-- the symbol of the operands of a rank: the next tighter rank, and behind the last casts
abbrev pub operand : Rank → Sym
operand or_rank = operators and_rank
operand and_rank = operators bit_or_rank
operand bit_or_rank = operators bit_xor_rank
operand bit_xor_rank = operators bit_and_rank
operand bit_and_rank = operators equal_rank
operand equal_rank = operators relation_rank
operand relation_rank = operators shift_rank
operand shift_rank = operators add_rank
operand add_rank = operators multiply_rank
operand multiply_rank = cast_part

-- ---- what the symbols stand for

-- what may stand behind a primary expression
pub data Postfix : Type 0 where
  at_index : ExprData → Postfix
  at_member : Text → Postfix
  at_arrow : Text → Postfix
  bumped : Bool → Postfix
  called : ExprList → Postfix

-- what may stand behind the name of an external declaration
pub data BehindName : Type 0 where
  function : List ParamData → Option StmtList → BehindName
  object : DimList → InitOption → DeclaratorList → BehindName

-- a declaration or a function, without its place
pub record External : Type 0 where
  pub base : BaseData
  pub tail : Option (ℕ × Text × BehindName)

-- a statement, and whether it ends in an `if` without `else`
pub record OpenStatement : Type 0 where
  pub statement : StmtData
  pub is_open : Bool

-- the first part of a `for`
pub data ForStart : Type 0 where
  for_expression : Option ExprData → ForStart
  for_declaration : DeclData → ForStart

pub record ForHead : Type 0 where
  pub first : ForStart
  pub condition : Option ExprData
  pub step : Option ExprData

-- a primary expression, and whether it is a bare name
pub record Primary : Type 0 where
  pub expression : ExprData
  pub is_name : Bool

abbrev pub Value : Sym → Type 0
Value unit = UnitData
Value items = List TopData
Value item = TopData
Value external = External
Value external_tail = Option (ℕ × Text × BehindName)
Value behind_name = BehindName
Value body = Option StmtList
Value parameter_part = List ParamData
Value parameters = List ParamData
Value more_parameters = List ParamData
Value parameter = ParamData
Value parameter_name = Option Text
Value specifiers = BaseData
Value base = BaseData
Value more_words = List Text
Value constants = Unit {0}
Value tag_or_members = BaseData
Value members_option = Option DeclList
Value members = DeclList
Value more_members = DeclList
Value member_declaration = DeclData
Value stars = ℕ
Value declarator_part = DeclaratorData
Value declarators_option = DeclaratorList
Value more_declarators = DeclaratorList
Value lengths = DimList
Value length_part = DimData
Value length_option = DimData
Value initializer_option = InitOption
Value initializer = InitData
Value initializer_list = InitList
Value more_initializers = InitList
Value block = StmtList
Value block_items = StmtList
Value block_item = StmtData
Value declaration = DeclData
Value statement = OpenStatement
Value else_option = Option OpenStatement
Value for_head = ForHead
Value for_start = ForStart
Value expression_option = Option ExprData
Value parenthesized = ExprData
Value assignment = ExprData
Value assignment_option = Option (Option BinOp × ExprData)
Value assignment_operator = Option BinOp
Value (operators r) = ExprData
Value (more_operands r) = List (BinOp × ExprData)
Value (more_operand r) = BinOp × ExprData
Value cast_part = ExprData
Value type_in_parentheses = BaseData × ℕ
Value type_name = BaseData × ℕ
Value unary_part = ExprData
Value unary_operator = UnOp
Value size_operand = ExprData
Value postfix = ExprData
Value postfix_parts = List Postfix
Value postfix_part = Postfix
Value index_part = ExprData
Value argument_part = ExprList
Value arguments = ExprList
Value more_arguments = ExprList
Value primary = Primary

-- ---- productions

-- what is counted: the binary operators and postfix parts of one whole expression; the stars and array lengths of one declarator, function, parameter or type name
pub data Counted : Type 0 where
  operations : Counted
  derivations : Counted

pub data Element : Type 0 where
  tok : Terminal → Element
  -- a token that is counted
  count : Counted → Terminal → Element
  sym : Sym → Element
  -- one level of nesting deeper
  nest : Sym → Element
  -- an expression: a whole one, unless it is part of another
  whole : Sym → Element
  -- a declarator, function, parameter or type name, with stars and lengths of its own
  own : Sym → Element

abbrev pub Row : Type 0
Row = List Element

abbrev pub Node : Element → Type 0
Node (tok t) = Placed
Node (count k t) = Placed
Node (sym s) = Value s
Node (nest s) = Value s
Node (whole s) = Value s
Node (own s) = Value s

-- what the elements of a row stand for
abbrev pub Nodes : Row → Type 0
Nodes [] = Unit {0}
Nodes (i ∷ r) = Node i × Nodes r

-- whether tokens of a production may stand behind an element that stands for this
abbrev pub Follows : Type 0
Follows = (i : Element) → Node i → Bool

-- A production: its elements, the tree that it makes of what they stand for and of where it begins, and what its further tokens may stand behind.
pub record Production (A : Type 0) : Type 0 where
  pub row : Row
  pub make : Start → Nodes row → A
  pub follows : Follows

-- a production whose tokens may stand behind all
abbrev pub rule : {A : Type 0} (r : Row) → (Start → Nodes r → A) → Production A
rule r make = record { row = r; make = make; follows = λ i v. true }

-- ---- trees

abbrev pub declared : Start → BaseData → DeclaratorList → DeclData
declared start b ds = decl b ds start.section start.line

-- the base is `void` alone, with no stars, no name and no lengths
abbrev pub is_void : BaseData → ℕ → Option Text → DimList → Bool
is_void (words (w ∷ [])) zero None no_dims = same_text w (codes "void")
is_void _ _ _ _ = false

-- the parameter list `(void)` has no parameters (6.7.5.3, 10)
abbrev pub without_void : List ParamData → List ParamData
without_void (p ∷ []) = if is_void p.base p.stars p.name p.dims then [] else p ∷ []
without_void ps = ps

abbrev pub external_named : Start → BaseData → ℕ → Text → BehindName → TopData
external_named start b n name' (function params body') =
    func_top
    (record {
      base = b;
      stars = n;
      name = name';
      params = params;
      body = body';
      section = start.section;
      line = start.line;
    })
external_named start b n name' (object ds i others) =
    decl_top (declared start b (declarators (declarator n name' ds i) others))

abbrev pub external_top : Start → BaseData → Option (ℕ × Text × BehindName) → TopData
external_top start b None = decl_top (declared start b no_declarators)
external_top start b (Some x) = external_named start b x.0 x.1 x.2

abbrev pub tag_base : Text → Option DeclList → BaseData
tag_base tag None = tagged tag
tag_base tag (Some ms) = struct_base (Some tag) ms

abbrev pub at : Start → StmtKindData → StmtData
at start kind = stmt start.line kind

-- a statement that ends in no `if` without `else`
abbrev pub closed : Start → StmtKindData → OpenStatement
closed start kind = record { statement = at start kind; is_open = false }

-- one that ends with another
abbrev pub ending : Start → StmtKindData → OpenStatement → OpenStatement
ending start kind last = record { statement = at start kind; is_open = last.is_open }

abbrev pub with_else : Start → ExprData → OpenStatement → Option OpenStatement → OpenStatement
with_else start e s None =
    record { statement = at start (if_stmt e s.statement no_stmt); is_open = true }
with_else start e s (Some other) =
    ending start (if_stmt e s.statement (some_stmt other.statement)) other

-- `else` belongs to the nearest `if`: the statement before it doesn't end in one without `else` (6.8.4.1, 3)
abbrev pub behind_closed : Follows
behind_closed (nest statement) s = not s.is_open
behind_closed i v = true

abbrev pub line_of : DeclData → Line
line_of (decl b ds section line) = line

-- a `for` with a declaration is a block that holds the declaration and the loop (6.8.5.3)
abbrev pub for_loop : Start → ForStart → Option ExprData → Option ExprData → OpenStatement
    → OpenStatement
for_loop start (for_expression e) condition step s =
    ending start (for_stmt e condition step s.statement) s
for_loop start (for_declaration d) condition step s =
    ending start
    (block_stmt
    (stmts (stmt (line_of d) (decl_stmt d))
    (stmts (at start (for_stmt None condition step s.statement)) no_stmts))) s

abbrev pub set_by : ExprData → Option (Option BinOp × ExprData) → ExprData
set_by left None = left
set_by left (Some x) = assign x.0 left x.1

abbrev pub with_operand : ExprData → BinOp × ExprData → ExprData
with_operand left x = binary x.0 left x.1

abbrev pub with_postfix : ExprData → Postfix → ExprData
with_postfix e (at_index i) = index e i
with_postfix e (at_member m) = member e m
with_postfix e (at_arrow m) = arrow e m
with_postfix e (bumped up) = bump false up e
with_postfix e (called es) = call_other e es

-- this member of the communication area
abbrev pub area_member : String → Primary
area_member member' =
    record { expression = member (identifier (codes "sqlca")) (codes member'); is_name = false }

-- a name, or one of the two words that stand for members of the communication area (PostgreSQL manual, 34.8.3, SQLSTATE vs. SQLCODE)
abbrev pub named : Text → Primary
named w = elim (same_text w (codes "SQLCODE")) [
  | true ↦ area_member "sqlcode"
  | false ↦ elim (same_text w (codes "SQLSTATE")) [
    | true ↦ area_member "sqlstate"
    | false ↦ record { expression = identifier w; is_name = true }
  ]
]

abbrev pub name_in : ExprData → Text
name_in (identifier x) = x
name_in _ = []

-- the name of a primary expression that is one
abbrev pub bare_name : Primary → Text
bare_name x = name_in x.expression

-- to the left. A call of a bare name is a call by that name
abbrev pub with_postfixes : Primary → List Postfix → ExprData
with_postfixes x [] = x.expression
with_postfixes x (called es ∷ ps) =
    fold with_postfix (if x.is_name then call (bare_name x) es else call_other x.expression es) ps
with_postfixes x (q ∷ ps) = fold with_postfix (with_postfix x.expression q) ps

-- ---- the operators of a rank, and those of assignments

abbrev pub rank_operators : Rank → List (Punct × BinOp)
rank_operators or_rank = (p.OrOr, bin.Or) ∷ []
rank_operators and_rank = (p.AndAnd, bin.And) ∷ []
rank_operators bit_or_rank = (p.Or, bin.BitOr) ∷ []
rank_operators bit_xor_rank = (p.Caret, bin.BitXor) ∷ []
rank_operators bit_and_rank = (p.And, bin.BitAnd) ∷ []
rank_operators equal_rank = (p.EqualEqual, bin.Eq) ∷ (p.NotEqual, bin.Ne) ∷ []
rank_operators relation_rank =
    (p.Less, bin.Lt) ∷ (p.Greater, bin.Gt) ∷ (p.LessEqual, bin.Le) ∷ (p.GreaterEqual, bin.Ge) ∷ []
rank_operators shift_rank = (p.Shl, bin.Shl) ∷ (p.Shr, bin.Shr) ∷ []
rank_operators add_rank = (p.Plus, bin.Add) ∷ (p.Minus, bin.Sub) ∷ []
rank_operators multiply_rank = (p.Star, bin.Mul) ∷ (p.Slash, bin.Div) ∷ (p.Percent, bin.Rem) ∷ []

-- what an operand stands for
abbrev pub operand_value : (r : Rank) → Value (operand r) → ExprData
operand_value or_rank e = e
operand_value and_rank e = e
operand_value bit_or_rank e = e
operand_value bit_xor_rank e = e
operand_value bit_and_rank e = e
operand_value equal_rank e = e
operand_value relation_rank e = e
operand_value shift_rank e = e
operand_value add_rank e = e
operand_value multiply_rank e = e

-- an operator of the rank, counted, and its right operand
abbrev pub operand_rule : (r : Rank) → Punct × BinOp → Production (BinOp × ExprData)
operand_rule r x =
    rule (count operations (mark x.0) ∷ sym (operand r) ∷ [])
    (λ start y. (x.1, operand_value r y.1.0))

abbrev pub assignments : List (Punct × Option BinOp)
assignments =
    (p.Assign, None) ∷ (p.PlusAssign, Some bin.Add) ∷ (p.MinusAssign, Some bin.Sub)
    ∷ (p.StarAssign, Some bin.Mul) ∷ (p.SlashAssign, Some bin.Div)
    ∷ (p.PercentAssign, Some bin.Rem) ∷ (p.ShlAssign, Some bin.Shl) ∷ (p.ShrAssign, Some bin.Shr)
    ∷ (p.AndAssign, Some bin.BitAnd)
    ∷ (p.CaretAssign, Some bin.BitXor) ∷ (p.OrAssign, Some bin.BitOr) ∷ []

abbrev pub assignment_rule : Punct × Option BinOp → Production (Option BinOp)
assignment_rule x = rule (tok (mark x.0) ∷ []) (λ start y. x.1)

abbrev pub unary_rule : Punct × UnOp → Production UnOp
unary_rule x = rule (tok (mark x.0) ∷ []) (λ start y. x.1)

abbrev pub unary_operators : List (Punct × UnOp)
unary_operators =
    (p.And, un.Addr) ∷ (p.Star, un.Deref) ∷ (p.Plus, un.Plus) ∷ (p.Minus, un.Minus)
    ∷ (p.Tilde, un.Flip) ∷ (p.Not, un.Not) ∷ []

-- ---- the table

abbrev pub word : String → Element
word text = tok (keyword (codes text))

abbrev pub sign : Punct → Element
sign m = tok (mark m)

abbrev pub productions : (s : Sym) → List (Production (Value s))
productions unit =
    rule (sym items ∷ tok end_of_text ∷ [])
    (λ start x. record { tops = x.0; embs = []; last = x.1.0.token.line })
    ∷ []
productions items =
    rule [] (λ start x. [])
    ∷ rule (sym item ∷ sym items ∷ []) (λ start x. x.0 ∷ x.1.0)
    ∷ []
productions item =
    rule (tok include_line ∷ []) (λ start x. include_top (text_of x.0))
    ∷ rule (tok directive ∷ []) (λ start x. directive_top (number_of x.0))
    ∷ rule (tok opening_mark ∷ []) (λ start x. mark_top true start.line)
    ∷ rule (tok closing_mark ∷ []) (λ start x. mark_top false start.line)
    ∷ rule (sym external ∷ []) (λ start x. external_top start x.0.base x.0.tail)
    ∷ rule (word "static" ∷ sym external ∷ []) (λ start x. external_top start x.1.0.base x.1.0.tail)
    ∷ []
productions external =
    rule (sym specifiers ∷ own external_tail ∷ []) (λ start x. record { base = x.0; tail = x.1.0 })
    ∷ []
productions external_tail =
    rule (sign p.Semicolon ∷ []) (λ start x. None)
    ∷ rule (sym stars ∷ tok name ∷ sym behind_name ∷ [])
    (λ start x. Some (x.0, text_of x.1.0, x.1.1.0))
    ∷ []
productions behind_name =
    rule (nest parameter_part ∷ sym body ∷ []) (λ start x. function x.0 x.1.0)
    ∷ rule (sym lengths ∷ sym initializer_option ∷ sym more_declarators ∷ sign p.Semicolon ∷ [])
    (λ start x. object x.0 x.1.0 x.1.1.0)
    ∷ []
productions body =
    rule (sign p.Semicolon ∷ []) (λ start x. None)
    ∷ rule (nest block ∷ []) (λ start x. Some x.0)
    ∷ []
productions parameter_part =
    rule (sign p.LeftParen ∷ sym parameters ∷ sign p.RightParen ∷ [])
    (λ start x. without_void x.1.0)
    ∷ []
productions parameters =
    rule [] (λ start x. [])
    ∷ rule (own parameter ∷ sym more_parameters ∷ []) (λ start x. x.0 ∷ x.1.0)
    ∷ []
productions more_parameters =
    rule [] (λ start x. [])
    ∷ rule (sign p.Comma ∷ own parameter ∷ sym more_parameters ∷ []) (λ start x. x.1.0 ∷ x.1.1.0)
    ∷ []
productions parameter =
    rule (sym specifiers ∷ sym stars ∷ sym parameter_name ∷ sym lengths ∷ [])
    (λ start x. record
    { base = x.0; stars = x.1.0; name = x.1.1.0; dims = x.1.1.1.0; section = start.section })
    ∷ []
productions parameter_name =
    rule [] (λ start x. None)
    ∷ rule (tok name ∷ []) (λ start x. Some (text_of x.0))
    ∷ []
productions specifiers = rule (sym constants ∷ sym base ∷ []) (λ start x. x.1.0) ∷ []
productions base =
    rule (tok type_word ∷ sym more_words ∷ []) (λ start x. words (text_of x.0 ∷ x.1.0))
    ∷ rule (tok varchar_word ∷ sym constants ∷ []) (λ start x. varchar)
    ∷ rule (word "struct" ∷ sym tag_or_members ∷ sym constants ∷ []) (λ start x. x.1.0)
    ∷ []
productions more_words =
    rule [] (λ start x. [])
    ∷ rule (word "const" ∷ sym more_words ∷ []) (λ start x. x.1.0)
    ∷ rule (tok type_word ∷ sym more_words ∷ []) (λ start x. text_of x.0 ∷ x.1.0)
    ∷ []
productions constants =
    rule [] (λ start x. tt)
    ∷ rule (word "const" ∷ sym constants ∷ []) (λ start x. tt)
    ∷ []
productions tag_or_members =
    rule (tok name ∷ sym members_option ∷ []) (λ start x. tag_base (text_of x.0) x.1.0)
    ∷ rule (nest members ∷ []) (λ start x. struct_base None x.0)
    ∷ []
productions members_option =
    rule [] (λ start x. None)
    ∷ rule (nest members ∷ []) (λ start x. Some x.0)
    ∷ []
productions members =
    rule (sign p.LeftBrace ∷ sym member_declaration ∷ sym more_members ∷ sign p.RightBrace ∷ [])
    (λ start x. decls x.1.0 x.1.1.0)
    ∷ []
productions more_members =
    rule [] (λ start x. no_decls)
    ∷ rule (sym member_declaration ∷ sym more_members ∷ []) (λ start x. decls x.0 x.1.0)
    ∷ []
productions member_declaration =
    rule (sym specifiers ∷ own declarator_part ∷ sym more_declarators ∷ sign p.Semicolon ∷ [])
    (λ start x. declared start x.0 (declarators x.1.0 x.1.1.0))
    ∷ []
productions stars =
    rule [] (λ start x. 0)
    ∷ rule (count derivations (mark p.Star) ∷ sym constants ∷ sym stars ∷ [])
    (λ start x. x.1.1.0 + 1)
    ∷ []
productions declarator_part =
    rule (sym stars ∷ tok name ∷ sym lengths ∷ sym initializer_option ∷ [])
    (λ start x. declarator x.0 (text_of x.1.0) x.1.1.0 x.1.1.1.0)
    ∷ []
productions declarators_option =
    rule [] (λ start x. no_declarators)
    ∷ rule (own declarator_part ∷ sym more_declarators ∷ []) (λ start x. declarators x.0 x.1.0)
    ∷ []
productions more_declarators =
    rule [] (λ start x. no_declarators)
    ∷ rule (sign p.Comma ∷ own declarator_part ∷ sym more_declarators ∷ [])
    (λ start x. declarators x.1.0 x.1.1.0)
    ∷ []
productions lengths =
    rule [] (λ start x. no_dims)
    ∷ rule (nest length_part ∷ sym lengths ∷ []) (λ start x. dims x.0 x.1.0)
    ∷ []
productions length_part =
    rule (count derivations (mark p.LeftBracket) ∷ sym length_option ∷ sign p.RightBracket ∷ [])
    (λ start x. x.1.0)
    ∷ []
productions length_option =
    rule [] (λ start x. open_dim)
    ∷ rule (whole (operators or_rank) ∷ []) (λ start x. dim x.0)
    ∷ []
productions initializer_option =
    rule [] (λ start x. no_init)
    ∷ rule (sign p.Assign ∷ sym initializer ∷ []) (λ start x. some_init x.1.0)
    ∷ []
productions initializer =
    rule (whole assignment ∷ []) (λ start x. one x.0)
    ∷ rule (nest initializer_list ∷ []) (λ start x. many x.0)
    ∷ []
productions initializer_list =
    rule (sign p.LeftBrace ∷ sym initializer ∷ sym more_initializers ∷ sign p.RightBrace ∷ [])
    (λ start x. inits x.1.0 x.1.1.0)
    ∷ []
productions more_initializers =
    rule [] (λ start x. no_inits)
    ∷ rule (sign p.Comma ∷ []) (λ start x. no_inits)
    ∷ rule (sign p.Comma ∷ sym initializer ∷ sym more_initializers ∷ [])
    (λ start x. inits x.1.0 x.1.1.0)
    ∷ []
productions block =
    rule (sign p.LeftBrace ∷ sym block_items ∷ sign p.RightBrace ∷ []) (λ start x. x.1.0)
    ∷ []
productions block_items =
    rule [] (λ start x. no_stmts)
    ∷ rule (sym block_item ∷ sym block_items ∷ []) (λ start x. stmts x.0 x.1.0)
    ∷ []
productions block_item =
    rule (sym declaration ∷ []) (λ start x. at start (decl_stmt x.0))
    ∷ rule (tok opening_mark ∷ []) (λ start x. at start (mark_stmt true))
    ∷ rule (tok closing_mark ∷ []) (λ start x. at start (mark_stmt false))
    ∷ rule (sym statement ∷ []) (λ start x. x.0.statement)
    ∷ []
productions declaration =
    rule (sym specifiers ∷ sym declarators_option ∷ sign p.Semicolon ∷ [])
    (λ start x. declared start x.0 x.1.0)
    ∷ []
productions statement =
    rule (sign p.Semicolon ∷ []) (λ start x. closed start empty_stmt)
    ∷ rule (whole assignment ∷ sign p.Semicolon ∷ []) (λ start x. closed start (expr_stmt x.0))
    ∷ rule (nest block ∷ []) (λ start x. closed start (block_stmt x.0))
    ∷ rule (tok name ∷ sign p.Colon ∷ nest statement ∷ [])
    (λ start x. ending start (label_stmt (text_of x.0) x.1.1.0.statement) x.1.1.0)
    ∷ rule (tok executable ∷ []) (λ start x. closed start (emb_stmt (number_of x.0)))
    ∷ rule (tok directive ∷ []) (λ start x. closed start (emb_stmt (number_of x.0)))
    ∷ record {
      row = word "if" ∷ nest parenthesized ∷ nest statement ∷ sym else_option
          ∷ [];
      make = λ start x. with_else start x.1.0 x.1.1.0 x.1.1.1.0;
      follows = behind_closed;
    }
    ∷ rule (word "while" ∷ nest parenthesized ∷ nest statement ∷ [])
    (λ start x. ending start (while_stmt x.1.0 x.1.1.0.statement) x.1.1.0)
    ∷ rule (word "do" ∷ nest statement ∷ word "while" ∷ nest parenthesized ∷ sign p.Semicolon ∷ [])
    (λ start x. closed start (do_stmt x.1.0.statement x.1.1.1.0))
    ∷ rule (word "for" ∷ nest for_head ∷ nest statement ∷ [])
    (λ start x. for_loop start x.1.0.first x.1.0.condition x.1.0.step x.1.1.0)
    ∷ rule (word "break" ∷ sign p.Semicolon ∷ []) (λ start x. closed start break_stmt)
    ∷ rule (word "continue" ∷ sign p.Semicolon ∷ []) (λ start x. closed start continue_stmt)
    ∷ rule (word "return" ∷ sym expression_option ∷ sign p.Semicolon ∷ [])
    (λ start x. closed start (return_stmt x.1.0))
    ∷ rule (word "goto" ∷ tok name ∷ sign p.Semicolon ∷ [])
    (λ start x. closed start (goto_stmt (text_of x.1.0)))
    ∷ []
productions else_option =
    rule [] (λ start x. None)
    ∷ rule (word "else" ∷ nest statement ∷ []) (λ start x. Some x.1.0)
    ∷ []
productions for_head =
    rule
    (sign p.LeftParen ∷ sym for_start ∷ sym expression_option ∷ sign p.Semicolon
    ∷ sym expression_option ∷ sign p.RightParen ∷ [])
    (λ start x. record { first = x.1.0; condition = x.1.1.0; step = x.1.1.1.1.0 })
    ∷ []
productions for_start =
    rule (sym expression_option ∷ sign p.Semicolon ∷ []) (λ start x. for_expression x.0)
    ∷ rule (sym specifiers ∷ own declarator_part ∷ sym more_declarators ∷ sign p.Semicolon ∷ [])
    (λ start x. for_declaration (declared start x.0 (declarators x.1.0 x.1.1.0)))
    ∷ []
productions expression_option =
    rule [] (λ start x. None)
    ∷ rule (whole assignment ∷ []) (λ start x. Some x.0)
    ∷ []
productions parenthesized =
    rule (sign p.LeftParen ∷ whole assignment ∷ sign p.RightParen ∷ []) (λ start x. x.1.0)
    ∷ []
productions assignment =
    rule (sym (operators or_rank) ∷ sym assignment_option ∷ []) (λ start x. set_by x.0 x.1.0)
    ∷ []
productions assignment_option =
    rule [] (λ start x. None)
    ∷ rule (sym assignment_operator ∷ nest assignment ∷ []) (λ start x. Some (x.0, x.1.0))
    ∷ []
productions assignment_operator = map assignment_rule assignments
productions (operators r) =
    rule (sym (operand r) ∷ sym (more_operands r) ∷ [])
    (λ start x. fold with_operand (operand_value r x.0) x.1.0)
    ∷ []
productions (more_operands r) =
    rule [] (λ start x. [])
    ∷ rule (sym (more_operand r) ∷ sym (more_operands r) ∷ []) (λ start x. x.0 ∷ x.1.0)
    ∷ []
productions (more_operand r) = map (operand_rule r) (rank_operators r)
productions cast_part =
    rule (nest type_in_parentheses ∷ nest cast_part ∷ []) (λ start x. cast x.0.0 x.0.1 x.1.0)
    ∷ rule (sym unary_part ∷ []) (λ start x. x.0)
    ∷ []
productions type_in_parentheses =
    rule (sign p.LeftParen ∷ own type_name ∷ sign p.RightParen ∷ []) (λ start x. x.1.0)
    ∷ []
productions type_name = rule (sym specifiers ∷ sym stars ∷ []) (λ start x. (x.0, x.1.0)) ∷ []
productions unary_part =
    rule (sym postfix ∷ []) (λ start x. x.0)
    ∷ rule (sign p.PlusPlus ∷ nest unary_part ∷ []) (λ start x. bump true true x.1.0)
    ∷ rule (sign p.MinusMinus ∷ nest unary_part ∷ []) (λ start x. bump true false x.1.0)
    ∷ rule (sym unary_operator ∷ nest cast_part ∷ []) (λ start x. unary x.0 x.1.0)
    ∷ rule (word "sizeof" ∷ nest size_operand ∷ []) (λ start x. x.1.0)
    ∷ []
productions unary_operator = map unary_rule unary_operators
productions size_operand =
    rule (sym unary_part ∷ []) (λ start x. size_expr x.0)
    ∷ rule (nest type_in_parentheses ∷ []) (λ start x. size_type x.0.0 x.0.1)
    ∷ []
productions postfix =
    rule (sym primary ∷ sym postfix_parts ∷ []) (λ start x. with_postfixes x.0 x.1.0)
    ∷ []
productions postfix_parts =
    rule [] (λ start x. [])
    ∷ rule (sym postfix_part ∷ sym postfix_parts ∷ []) (λ start x. x.0 ∷ x.1.0)
    ∷ []
productions postfix_part =
    rule (nest index_part ∷ []) (λ start x. at_index x.0)
    ∷ rule (count operations (mark p.Dot) ∷ tok name ∷ []) (λ start x. at_member (text_of x.1.0))
    ∷ rule (count operations (mark p.Arrow) ∷ tok name ∷ []) (λ start x. at_arrow (text_of x.1.0))
    ∷ rule (count operations (mark p.PlusPlus) ∷ []) (λ start x. bumped true)
    ∷ rule (count operations (mark p.MinusMinus) ∷ []) (λ start x. bumped false)
    ∷ rule (nest argument_part ∷ []) (λ start x. called x.0)
    ∷ []
productions index_part =
    rule (count operations (mark p.LeftBracket) ∷ whole assignment ∷ sign p.RightBracket ∷ [])
    (λ start x. x.1.0)
    ∷ []
productions argument_part =
    rule (count operations (mark p.LeftParen) ∷ sym arguments ∷ sign p.RightParen ∷ [])
    (λ start x. x.1.0)
    ∷ []
productions arguments =
    rule [] (λ start x. no_exprs)
    ∷ rule (whole assignment ∷ sym more_arguments ∷ []) (λ start x. exprs x.0 x.1.0)
    ∷ []
productions more_arguments =
    rule [] (λ start x. no_exprs)
    ∷ rule (sign p.Comma ∷ whole assignment ∷ sym more_arguments ∷ [])
    (λ start x. exprs x.1.0 x.1.1.0)
    ∷ []
productions primary =
    rule (tok name ∷ []) (λ start x. named (text_of x.0))
    ∷ rule (tok integer_constant ∷ [])
    (λ start x. record
    { expression = integer (number_of x.0) (type_in x.0.token.tok); is_name = false })
    ∷ rule (tok character_constant ∷ [])
    (λ start x. record { expression = character (character_in x.0.token.tok); is_name = false })
    ∷ rule (tok string_literal ∷ [])
    (λ start x. record { expression = string (text_of x.0); is_name = false })
    ∷ rule (nest parenthesized ∷ []) (λ start x. record { expression = x.0; is_name = false })
    ∷ []
