-- Lists of tokens for the examples of the grammar, written as texts with a blank between any two tokens.
use Rattle.std.specs.Prelude.{ℕ, zero, suc, ◌==◌, Bool, true, false, List, [], ◌∷◌, ◌++◌, map, codes, Option, Some, None}
use Prim.Native.String.{String}
use Rattle.ec_base.specs.declared.line.Line.{Line}
use Rattle.ec_base.specs.declared.stop.Stop.{Stop}
use Rattle.ec_ctypes.specs.declared.text.token.Punct.{Punct}
use Rattle.ec_ctypes.specs.declared.text.token.Punct.TheVariants.{LeftBrace, LeftParen, RightParen}
use Rattle.ec_ctypes.specs.declared.types.arith.Arith.{Arith}
use Rattle.ec_ctypes.specs.declared.types.arith.Arith.TheVariants.{Int}
use Rattle.ec_ctypes.specs.trees.Exprs.{ExprData, integer, identifier, member, BaseData, words, DimList, InitOption, declarator, declarators, no_declarators, DeclData, decl}
use Rattle.ec_ctypes.specs.trees.Stmts.{StmtData, stmt, StmtKindData, empty_stmt, expr_stmt, StmtList, no_stmts, stmts}
use Rattle.ec_ctypes.specs.trees.Types.{arithmetic}
use Rattle.ec_ctypes.specs.trees.Units.{TopData, func_top, UnitData}
use Rattle.ec_ctypes.specs.trees.Tokens.{TokData, word_token, integer_token, punct_token, section_start, section_end, end_token, TokenData}
use Rattle.ec_language.specs.Letters.{Text, same_text}
use Rattle.ec_language.specs.CText.{is_word, is_number}
use Rattle.ec_language.specs.Constants.{integer_constant}
use Rattle.ec_language.specs.Lexemes.{punct_of}
use Rattle.ec_language.specs.Grammar.{PlacedTokens, Limits}
use Rattle.ec_language.specs.Productions.{placed}
use Rattle.ec_language.specs.ReadSyntax.{first_stop}

abbrev pub integer_of : Option (ℕ × Arith) → TokData
integer_of None = end_token
integer_of (Some x) = integer_token x.0 (arithmetic x.1)

abbrev pub mark_of : Option Punct → TokData
mark_of None = end_token
mark_of (Some m) = punct_token m

abbrev pub other_token : Text → TokData
other_token text = elim (is_number text) [
  | true ↦ integer_of (integer_constant text)
  | false ↦ mark_of (punct_of text)
]

-- `BEGIN` and `END` stand for the marks of a section
abbrev pub token_of : Text → TokData
token_of text = elim (same_text text (codes "BEGIN")) [
  | true ↦ section_start
  | false ↦ elim (same_text text (codes "END")) [
    | true ↦ section_end
    | false ↦ elim (is_word text) [ true ↦ word_token text | false ↦ other_token text ]
  ]
]

abbrev pub at_line : ℕ → TokData → TokenData
at_line line t = record { tok = t; line = record { 0 = line }; place = 0 }

-- the token of the bytes so far, if there are any, and what follows
abbrev pub token_before : ℕ → Text → List TokenData → List TokenData
token_before line [] ts = ts
token_before line (b ∷ bs) ts = at_line line (token_of (b ∷ bs)) ∷ ts

-- the tokens from this line on, of the bytes so far and of the rest
abbrev pub tokens_from : ℕ → Text → Text → List TokenData
tokens_from line sofar [] = token_before line sofar (at_line line end_token ∷ [])
tokens_from line sofar (b ∷ bs) = elim (b == 32) [
  | true ↦ token_before line sofar (tokens_from line [] bs)
  | false ↦ elim (b == 10) [
    | true ↦ token_before line sofar (tokens_from (suc line) [] bs)
    | false ↦ tokens_from line (sofar ++ b ∷ []) bs
  ]
]

-- the tokens of the text, and the end
abbrev pub tokens_in : String → List TokenData
tokens_in text = tokens_from 1 [] (codes text)

-- of a function with this body
abbrev pub body_in : String → List TokenData
body_in text = tokens_from 1 [] (codes "int main ( void ) { " ++ codes text ++ codes " }")

-- so many opening braces, of a function and of blocks in one another
abbrev pub braces : ℕ → List TokenData
braces zero = []
braces (suc n) = at_line 1 (punct_token LeftBrace) ∷ braces n

abbrev pub opened : ℕ → PlacedTokens
opened n =
    placed (map (at_line 1) (word_token (codes "int") ∷ word_token (codes "main")
    ∷ punct_token LeftParen ∷ punct_token RightParen ∷ []) ++ braces n)

-- ---- trees

abbrev pub first_line : Line
first_line = record { 0 = 1 }

abbrev pub int_base : BaseData
int_base = words (codes "int" ∷ [])

abbrev pub id : String → ExprData
id name = identifier (codes name)

-- a member of `sqlca`
abbrev pub area : String → ExprData
area name = member (id "sqlca") (codes name)

abbrev pub int_value : ℕ → ExprData
int_value n = integer n (arithmetic Int)

abbrev pub on_first : StmtKindData → StmtData
on_first kind = stmt first_line kind

abbrev pub empty : StmtData
empty = on_first empty_stmt

-- a program of these on one line
abbrev pub unit_of : List TopData → UnitData
unit_of tops = record { tops = tops; embs = []; last = first_line }

abbrev pub main_with : StmtList → UnitData
main_with body =
    unit_of (func_top (record {
      base = int_base;
      stars = 0;
      name = codes "main";
      params = [];
      body = Some body;
      section = false;
      line = first_line;
    }) ∷ [])

-- a function with this statement
abbrev pub doing : StmtKindData → UnitData
doing kind = main_with (stmts (on_first kind) no_stmts)

-- with this expression as its statement
abbrev pub computing : ExprData → UnitData
computing e = doing (expr_stmt e)

-- a declaration of one name as an `int`
abbrev pub declaring : String → DimList → InitOption → Bool → DeclData
declaring name ds i section =
    decl int_base (declarators (declarator 0 (codes name) ds i) no_declarators) section first_line

-- ---- limits

abbrev pub nesting_of : ℕ → Limits
nesting_of n = record { nesting = n; operations = 100; derivations = 100 }

abbrev pub operations_of : ℕ → Limits
operations_of n = record { nesting = 100; operations = n; derivations = 100 }

abbrev pub derivations_of : ℕ → Limits
derivations_of n = record { nesting = 100; operations = 100; derivations = n }

-- the first stop within such limits
abbrev pub stop_within : Limits → List TokenData → Option Stop
stop_within limits ts = first_stop limits [] (placed ts)
