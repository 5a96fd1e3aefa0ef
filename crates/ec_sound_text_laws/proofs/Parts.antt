-- What the symbols of the grammar stand for in written C, and what their makers keep of it.
use Rattle.std.proofs.Common.{◌≡◌, ℕ, Bool, true, false, List, [], ◌∷◌, Option, Some, None}
use Rattle.std.specs.Prelude.{codes, fold, if◌then◌else◌}
use Rattle.std.proofs.lemmas.Bool.{false≢true}
use Rattle.ec_ctypes.specs.declared.tree.expr.BinOp.{BinOp}
use Rattle.ec_ctypes.specs.trees.Exprs.{ExprData, identifier, call, call_other, ExprList, BaseData, struct_base, decl, DeclList, no_decls, decls}
use Rattle.ec_ctypes.specs.trees.Tokens.{TokData, integer_token, emb_token, section_start, section_end}
use Rattle.ec_ctypes.specs.trees.Types.{TyData, void, arithmetic, pointer, array, structure}
use Rattle.ec_ctypes.specs.trees.Units.{ParamData}
use Rattle.ec_language.specs.Letters.{Text, same_text}
use Rattle.ec_language.specs.Productions.{Start, is, type_in, Postfix, at_index, at_member, at_arrow, bumped, called, BehindName, function, object, OpenStatement, ForStart, for_expression, for_declaration, ForHead, Primary, is_void, without_void, external_named, external_top, tag_base, with_else, for_loop, set_by, with_operand, with_postfix, area_member, named, bare_name, with_postfixes}
use Rattle.ec_language.specs.Productions as g
use Rattle.ec_sound_form_laws.specs.Laws.{assigns}
use Rattle.ec_sound_expression_laws.specs.Plain.{IsArithmetic}
use Rattle.ec_sound_text_laws.specs.Read.{is_arithmetic, is_read_tok, ReadExpr, ReadExprs, ReadBase, ReadMember, ReadMembers, ReadDims, ReadInitializer, ReadDeclarators, ReadDecl, ReadOption, ReadStmt, ReadParams, ReadBody, ReadTop}

never : {C : Type 0} → false ≡ true → C
never e = absurd (false≢true e)

-- ---- tokens

arithmetic_is : (t : TyData) → is_arithmetic t ≡ true → IsArithmetic t
arithmetic_is void e = never e
arithmetic_is (arithmetic a) e = tt
arithmetic_is (pointer t) e = never e
arithmetic_is (array t n) e = never e
arithmetic_is (structure k) e = never e

pub integer_is : (k : TokData) → is g.integer_constant k ≡ true → is_read_tok k ≡ true → IsArithmetic (type_in k)
integer_is (integer_token n t) e s = arithmetic_is t s
integer_is _ e s = never e

pub no_directive : {C : Type 0} (k : TokData) → is g.directive k ≡ true → is_read_tok k ≡ true → C
no_directive (emb_token n x) e s = never s
no_directive _ e s = never e

pub no_executable : {C : Type 0} (k : TokData) → is g.executable k ≡ true → is_read_tok k ≡ true → C
no_executable (emb_token n x) e s = never s
no_executable _ e s = never e

pub no_opening : {C : Type 0} (k : TokData) → is g.opening_mark k ≡ true → is_read_tok k ≡ true → C
no_opening section_start e s = never s
no_opening _ e s = never e

pub no_closing : {C : Type 0} (k : TokData) → is g.closing_mark k ≡ true → is_read_tok k ≡ true → C
no_closing section_end e s = never s
no_closing _ e s = never e

-- ---- expressions

abbrev pub ReadOperands : List (BinOp × ExprData) → Type 0
ReadOperands [] = Unit {0}
ReadOperands (x ∷ xs) = ReadExpr x.1 × ReadOperands xs

pub operands_joined : (xs : List (BinOp × ExprData)) (e : ExprData) → ReadExpr e → ReadOperands xs → ReadExpr (fold with_operand e xs)
operands_joined [] e h k = h
operands_joined (x ∷ xs) e h k = operands_joined xs (with_operand e x) (h, k.0) k.1

abbrev pub MayAssign : Option BinOp → Type 0
MayAssign None = Unit {0}
MayAssign (Some op) = assigns op ≡ true

abbrev pub IsSet : Option (Option BinOp × ExprData) → Type 0
IsSet None = Unit {0}
IsSet (Some x) = MayAssign x.0 × ReadExpr x.1

assigned_is : (o : Option BinOp) (a b : ExprData) → MayAssign o → ReadExpr a → ReadExpr b → ReadExpr (set_by a (Some (o, b)))
assigned_is None a b m h k = (h, k)
assigned_is (Some op) a b m h k = (m, h, k)

pub set_is : (e : ExprData) (x : Option (Option BinOp × ExprData)) → ReadExpr e → IsSet x → ReadExpr (set_by e x)
set_is e None h k = h
set_is e (Some x) h k = assigned_is x.0 e x.1 k.0 h k.1

abbrev pub IsPostfix : Postfix → Type 0
IsPostfix (at_index i) = ReadExpr i
IsPostfix (at_member m) = Unit {0}
IsPostfix (at_arrow m) = Unit {0}
IsPostfix (bumped up) = Unit {0}
IsPostfix (called es) = ReadExprs es

abbrev pub ArePostfixes : List Postfix → Type 0
ArePostfixes [] = Unit {0}
ArePostfixes (q ∷ qs) = IsPostfix q × ArePostfixes qs

postfix_is : (e : ExprData) (q : Postfix) → ReadExpr e → IsPostfix q → ReadExpr (with_postfix e q)
postfix_is e (at_index i) h k = (h, k)
postfix_is e (at_member m) h k = h
postfix_is e (at_arrow m) h k = h
postfix_is e (bumped up) h k = h
postfix_is e (called es) h k = (h, k)

postfixes_joined : (qs : List Postfix) (e : ExprData) → ReadExpr e → ArePostfixes qs → ReadExpr (fold with_postfix e qs)
postfixes_joined [] e h k = h
postfixes_joined (q ∷ qs) e h k = postfixes_joined qs (with_postfix e q) (postfix_is e q h k.0) k.1

called_is : (x : Primary) (es : ExprList) → ReadExpr x.expression → ReadExprs es → ReadExpr (if x.is_name then call (bare_name x) es else call_other x.expression es)
called_is x es p k = go x.is_name
  where
    go : (b : Bool) → ReadExpr (if b then call (bare_name x) es else call_other x.expression es)
    go true = k
    go false = (p, k)

first_postfix : (x : Primary) (q : Postfix) (qs : List Postfix) → ReadExpr x.expression → ArePostfixes (q ∷ qs) → ReadExpr (fold with_postfix (with_postfix x.expression q) qs)
first_postfix x q qs h k = postfixes_joined (q ∷ qs) x.expression h k

pub postfixes_are : (x : Primary) (qs : List Postfix) → ReadExpr x.expression → ArePostfixes qs → ReadExpr (with_postfixes x qs)
postfixes_are x [] p k = p
postfixes_are x (called es ∷ qs) p k = postfixes_joined qs _ (called_is x es p k.0) k.1
postfixes_are x (at_index i ∷ qs) p k = first_postfix x (at_index i) qs p k
postfixes_are x (at_member m ∷ qs) p k = first_postfix x (at_member m) qs p k
postfixes_are x (at_arrow m ∷ qs) p k = first_postfix x (at_arrow m) qs p k
postfixes_are x (bumped up ∷ qs) p k = first_postfix x (bumped up) qs p k

pub named_is : (w : Text) → ReadExpr (named w).expression
named_is w = go (same_text w (codes "SQLCODE")) (same_text w (codes "SQLSTATE"))
  where
    go : (a b : Bool) → ReadExpr ((elim a as (λ y. Primary) [ true ↦ area_member "sqlcode" | false ↦ elim b as (λ y. Primary) [ true ↦ area_member "sqlstate" | false ↦ record { expression = identifier w; is_name = true } ] ]).expression)
    go true b = tt
    go false true = tt
    go false false = tt

-- ---- declarations

abbrev pub ReadSome : DeclList → Type 0
ReadSome no_decls = ⊥
ReadSome (decls m ms) = ReadMember m × ReadMembers ms

abbrev pub ReadSomeOption : Option DeclList → Type 0
ReadSomeOption None = Unit {0}
ReadSomeOption (Some ms) = ReadSome ms

pub members_are : (t : Option Text) (ms : DeclList) → ReadSome ms → ReadBase (struct_base t ms)
members_are t no_decls k = absurd k
members_are t (decls m ms) k = k

pub tag_is : (t : Text) (ms : Option DeclList) → ReadSomeOption ms → ReadBase (tag_base t ms)
tag_is t None k = tt
tag_is t (Some ms) k = members_are (Some t) ms k

pub void_gone : (ps : List ParamData) → ReadParams ps → ReadParams (without_void ps)
void_gone [] h = h
void_gone (p ∷ []) h = go (is_void p.base p.stars p.name p.dims)
  where
    go : (b : Bool) → ReadParams (if b then [] else p ∷ [])
    go true = tt
    go false = h
void_gone (p ∷ q ∷ ps) h = h

abbrev pub ReadBehind : BehindName → Type 0
ReadBehind (function ps b) = ReadParams ps × ReadBody b
ReadBehind (object ds i others) = ReadDims ds × ReadInitializer i × ReadDeclarators others

abbrev pub ReadTail : Option (ℕ × Text × BehindName) → Type 0
ReadTail None = Unit {0}
ReadTail (Some x) = ReadBehind x.2

external_named_is : (start : Start) (b : BaseData) (n : ℕ) (name : Text) (x : BehindName) → ReadBase b → ReadBehind x → ReadTop (external_named start b n name x)
external_named_is start b n name (function ps body) h x = (h, x.0, x.1)
external_named_is start b n name (object ds i others) h x = (h, ((x.0, x.1), x.2))

pub external_is : (start : Start) (b : BaseData) (x : Option (ℕ × Text × BehindName)) → ReadBase b → ReadTail x → ReadTop (external_top start b x)
external_is start b None h k = (h, tt)
external_is start b (Some x) h k = external_named_is start b x.0 x.1 x.2 h k

-- ---- statements

abbrev pub ReadElse : Option OpenStatement → Type 0
ReadElse None = Unit {0}
ReadElse (Some x) = ReadStmt x.statement

pub else_is : (start : Start) (e : ExprData) (s : OpenStatement) (o : Option OpenStatement) → ReadExpr e → ReadStmt s.statement → ReadElse o → ReadStmt (with_else start e s o).statement
else_is start e s None h k x = (h, k, tt)
else_is start e s (Some o) h k x = (h, k, x)

abbrev pub ReadFirst : ForStart → Type 0
ReadFirst (for_expression e) = ReadOption e
ReadFirst (for_declaration d) = ReadDecl d

pub loop_is : (start : Start) (first : ForStart) (condition step : Option ExprData) (s : OpenStatement) → ReadFirst first → ReadOption condition → ReadOption step → ReadStmt s.statement
    → ReadStmt (for_loop start first condition step s).statement
loop_is start (for_expression e) condition step s f c d k = (f, c, d, k)
loop_is start (for_declaration (decl b ds section line)) condition step s f c d k = (f, ((tt, c, d, k), tt))
