-- What the symbols of the grammar stand for in a source, and what their makers keep of it.
use Rattle.std.proofs.Common.{◌≡◌, ℕ, Bool, true, false, not, ◌&&◌, ◌||◌, List, [], ◌∷◌, refl, ◌⊎◌, inl, inr, ap, sym, Option, Some, None}
use Rattle.std.specs.Prelude.{codes, fold, if◌then◌else◌}
use Rattle.std.proofs.lemmas.Bool.{false≢true}
use Rattle.ec_ctypes.specs.declared.tree.expr.BinOp.{BinOp}
use Rattle.ec_ctypes.specs.trees.Exprs.{ExprData, identifier, call, call_other, ExprList, BaseData, struct_base, decl, DeclList, no_decls, decls}
use Rattle.ec_ctypes.specs.trees.Tokens.{TokData, word_token, integer_token, character_token, string_token, include_token}
use Rattle.ec_ctypes.specs.trees.Units.{ParamData}
use Rattle.ec_language.specs.Keywords.{type_words}
use Rattle.ec_language.specs.Letters.{Text, each, same_text, is_among}
use Rattle.ec_language.specs.CText.{is_word}
use Rattle.ec_language.specs.Tokens.{is_left_out_word}
use Rattle.ec_language.specs.Productions.{Start, is, bytes_in, number_in, type_in, character_in, Postfix, at_index, at_member, at_arrow, bumped, called, BehindName, function, object, External, OpenStatement, ForStart, for_expression, for_declaration, ForHead, Primary, is_void, without_void, external_named, external_top, tag_base, with_else, for_loop, line_of, set_by, with_operand, with_postfix, area_member, named, bare_name, with_postfixes}
use Rattle.ec_language.specs.Productions as g
use Rattle.ec_language.proofs.Classes.{turn_not}
use Rattle.ec_language.proofs.Ends.{both}
use Rattle.ec_writing_defs.specs.Shapes.{is_plain_name, is_free_name, fits_type, is_character, is_byte, is_assignable, is_line, is_open, is_void_list, is_include_line}
use Rattle.ec_written_laws.specs.source.SourceShape.{is_source_tok, is_source_expr, are_source_exprs, is_source_base, is_source_member, are_source_members, are_source_dims, is_source_initializer, are_source_declarators, is_source_decl, is_source_option, is_source_stmt, are_source_params, is_source_body, is_source_top}

pub join : {x y : Bool} → x ≡ true → y ≡ true → (x && y) ≡ true
join p q = λ i. p i && q i

pub alone_is : (a b : Bool) → a ≡ true → (a || b) ≡ true
alone_is true b e = refl
alone_is false b e = absurd (false≢true e)

-- ---- tokens

pub name_is : (k : TokData) → is g.name k ≡ true → is_source_tok k ≡ true → is_plain_name (bytes_in k) ≡ true
name_is (word_token w) e s = let h = both (is_word w) (not (is_left_out_word w)) s in join h.0 (join h.1 e)
name_is _ e s = absurd (false≢true e)

pub type_word_is : (k : TokData) → is g.type_word k ≡ true → is_among type_words (bytes_in k) ≡ true
type_word_is (word_token w) e = e
type_word_is _ e = absurd (false≢true e)

pub integer_is : (k : TokData) → is g.integer_constant k ≡ true → is_source_tok k ≡ true → fits_type (number_in k) (type_in k) ≡ true
integer_is (integer_token n t) e s = s
integer_is _ e s = absurd (false≢true e)

pub character_is : (k : TokData) → is g.character_constant k ≡ true → is_source_tok k ≡ true → is_character (character_in k) ≡ true
character_is (character_token c) e s = s
character_is _ e s = absurd (false≢true e)

pub string_is : (k : TokData) → is g.string_literal k ≡ true → is_source_tok k ≡ true → each is_byte (bytes_in k) ≡ true
string_is (string_token t) e s = s
string_is _ e s = absurd (false≢true e)

pub include_is : (k : TokData) → is g.include_line k ≡ true → is_source_tok k ≡ true → is_include_line (bytes_in k) ≡ true
include_is (include_token t) e s = s
include_is _ e s = absurd (false≢true e)

-- ---- expressions

abbrev pub are_operands : List (BinOp × ExprData) → Bool
are_operands [] = true
are_operands (x ∷ xs) = is_source_expr x.1 && are_operands xs

pub operands_joined : (xs : List (BinOp × ExprData)) (e : ExprData) → is_source_expr e ≡ true → are_operands xs ≡ true → is_source_expr (fold with_operand e xs) ≡ true
operands_joined [] e h k = h
operands_joined (x ∷ xs) e h k = let p = both (is_source_expr x.1) (are_operands xs) k in operands_joined xs (with_operand e x) (join h p.0) p.1

abbrev pub IsSet : Option (Option BinOp × ExprData) → Type 0
IsSet None = Unit {0}
IsSet (Some x) = (is_assignable x.0 ≡ true) × (is_source_expr x.1 ≡ true)

pub set_is : (e : ExprData) (x : Option (Option BinOp × ExprData)) → is_source_expr e ≡ true → IsSet x → is_source_expr (set_by e x) ≡ true
set_is e None h k = h
set_is e (Some x) h k = join k.0 (join h k.1)

abbrev pub is_postfix : Postfix → Bool
is_postfix (at_index i) = is_source_expr i
is_postfix (at_member m) = is_plain_name m
is_postfix (at_arrow m) = is_plain_name m
is_postfix (bumped up) = true
is_postfix (called es) = are_source_exprs es

abbrev pub are_postfixes : List Postfix → Bool
are_postfixes [] = true
are_postfixes (q ∷ qs) = is_postfix q && are_postfixes qs

postfix_is : (e : ExprData) (q : Postfix) → is_source_expr e ≡ true → is_postfix q ≡ true → is_source_expr (with_postfix e q) ≡ true
postfix_is e (at_index i) h k = join h k
postfix_is e (at_member m) h k = join k h
postfix_is e (at_arrow m) h k = join k h
postfix_is e (bumped up) h k = h
postfix_is e (called es) h k = join h k

postfixes_joined : (qs : List Postfix) (e : ExprData) → is_source_expr e ≡ true → are_postfixes qs ≡ true → is_source_expr (fold with_postfix e qs) ≡ true
postfixes_joined [] e h k = h
postfixes_joined (q ∷ qs) e h k = let p = both (is_postfix q) (are_postfixes qs) k in postfixes_joined qs (with_postfix e q) (postfix_is e q h p.0) p.1

pub record IsPrimary (x : Primary) : Type 0 where
  pub shape : is_source_expr x.expression ≡ true
  pub free : x.is_name ≡ true → is_free_name (bare_name x) ≡ true

called_is : (x : Primary) (es : ExprList) → IsPrimary x → are_source_exprs es ≡ true → is_source_expr (if x.is_name then call (bare_name x) es else call_other x.expression es) ≡ true
called_is x es p k = go x.is_name p.free
  where
    go : (b : Bool) → (b ≡ true → is_free_name (bare_name x) ≡ true) → is_source_expr (if b then call (bare_name x) es else call_other x.expression es) ≡ true
    go true f = join (f refl) k
    go false f = join p.shape k

first_postfix : (x : Primary) (q : Postfix) (qs : List Postfix) → is_source_expr x.expression ≡ true → are_postfixes (q ∷ qs) ≡ true → is_source_expr (fold with_postfix (with_postfix x.expression q) qs) ≡ true
first_postfix x q qs h k = postfixes_joined (q ∷ qs) x.expression h k

pub postfixes_are : (x : Primary) (qs : List Postfix) → IsPrimary x → are_postfixes qs ≡ true → is_source_expr (with_postfixes x qs) ≡ true
postfixes_are x [] p k = p.shape
postfixes_are x (called es ∷ qs) p k = let h = both (are_source_exprs es) (are_postfixes qs) k in postfixes_joined qs _ (called_is x es p h.0) h.1
postfixes_are x (at_index i ∷ qs) p k = first_postfix x (at_index i) qs p.shape k
postfixes_are x (at_member m ∷ qs) p k = first_postfix x (at_member m) qs p.shape k
postfixes_are x (at_arrow m ∷ qs) p k = first_postfix x (at_arrow m) qs p.shape k
postfixes_are x (bumped up ∷ qs) p k = first_postfix x (bumped up) qs p.shape k

pub no_bare : (e : ExprData) → is_source_expr e ≡ true → IsPrimary (record { expression = e; is_name = false })
no_bare e h = record { shape = h; free = λ f. absurd (false≢true f) }

pub named_is : (w : Text) → is_plain_name w ≡ true → IsPrimary (named w)
named_is w h = go (same_text w (codes "SQLCODE")) (same_text w (codes "SQLSTATE")) refl refl
  where
    go : (a b : Bool) → same_text w (codes "SQLCODE") ≡ a → same_text w (codes "SQLSTATE") ≡ b
        → IsPrimary (elim a [ true ↦ area_member "sqlcode" | false ↦ elim b [ true ↦ area_member "sqlstate" | false ↦ record { expression = identifier w; is_name = true } ] ])
    go true b ea eb = no_bare _ refl
    go false true ea eb = no_bare _ refl
    go false false ea eb =
        let free : is_free_name w ≡ true = λ i. h i && not (ea i || eb i) in
        record { shape = free; free = λ e. free }

-- ---- declarations

abbrev pub are_some_members : DeclList → Bool
are_some_members no_decls = false
are_some_members (decls m ms) = is_source_member m && are_source_members ms

abbrev pub IsMembers : Option DeclList → Type 0
IsMembers None = Unit {0}
IsMembers (Some ms) = are_some_members ms ≡ true

pub tag_is : (t : Text) (ms : Option DeclList) → is_plain_name t ≡ true → IsMembers ms → is_source_base (tag_base t ms) ≡ true
tag_is t None h k = h
tag_is t (Some no_decls) h k = absurd (false≢true k)
tag_is t (Some (decls m ms)) h k = join h k

pub members_are : (ms : DeclList) → are_some_members ms ≡ true → is_source_base (struct_base None ms) ≡ true
members_are no_decls k = absurd (false≢true k)
members_are (decls m ms) k = k

pub void_gone : (ps : List ParamData) → are_source_params ps ≡ true → (are_source_params (without_void ps) && not (is_void_list (without_void ps))) ≡ true
void_gone [] h = refl
void_gone (p ∷ []) h = go (is_void p.base p.stars p.name p.dims) refl
  where
    go : (b : Bool) → is_void p.base p.stars p.name p.dims ≡ b → (are_source_params (if b then [] else p ∷ []) && not (is_void_list (if b then [] else p ∷ []))) ≡ true
    go true e = refl
    go false e = join h (λ i. not (e i))
void_gone (p ∷ q ∷ ps) h = join h refl

abbrev pub IsBehind : BehindName → Type 0
IsBehind (function ps b) = ((are_source_params ps && not (is_void_list ps)) ≡ true) × (is_source_body b ≡ true)
IsBehind (object ds i others) = (are_source_dims ds ≡ true) × (is_source_initializer i ≡ true) × (are_source_declarators others ≡ true)

abbrev pub IsTail : Option (ℕ × Text × BehindName) → Type 0
IsTail None = Unit {0}
IsTail (Some x) = (is_plain_name x.1 ≡ true) × IsBehind x.2

external_named_is : (start : Start) (b : BaseData) (n : ℕ) (name : Text) (x : BehindName) → is_line start.line.0 ≡ true → is_source_base b ≡ true → is_plain_name name ≡ true → IsBehind x
    → is_source_top (external_named start b n name x) ≡ true
external_named_is start b n name (function ps body) l h k x = join l (join (join h k) (join x.0 x.1))
external_named_is start b n name (object ds i others) l h k x = join l (join h (join (join k (join x.0 x.1)) x.2))

pub external_is : (start : Start) (b : BaseData) (x : Option (ℕ × Text × BehindName)) → is_line start.line.0 ≡ true → is_source_base b ≡ true → IsTail x → is_source_top (external_top start b x) ≡ true
external_is start b None l h k = join l (join h refl)
external_is start b (Some x) l h k = external_named_is start b x.0 x.1 x.2 l h k.0 k.1

-- ---- statements

-- The grammar takes a loop with a declaration for open where the block that it is isn't.
pub record IsStatement (x : OpenStatement) : Type 0 where
  pub shape : is_source_stmt x.statement ≡ true
  pub shut : x.is_open ≡ false → is_open x.statement ≡ false

abbrev pub IsOther : Option OpenStatement → Type 0
IsOther None = Unit {0}
IsOther (Some x) = IsStatement x

abbrev pub IsShut : OpenStatement → Option OpenStatement → Type 0
IsShut s None = Unit {0}
IsShut s (Some x) = s.is_open ≡ false

pub shut_before : (s : OpenStatement) (o : Option OpenStatement) → (o ≡ None) ⊎ (not s.is_open ≡ true) → IsShut s o
shut_before s None h = tt
shut_before s (Some x) (inl e) = absurd (cc)
shut_before s (Some x) (inr e) = turn_not s.is_open e

pub else_is : (start : Start) (e : ExprData) (s : OpenStatement) (o : Option OpenStatement) → is_line start.line.0 ≡ true → is_source_expr e ≡ true → IsStatement s → IsOther o → IsShut s o
    → IsStatement (with_else start e s o)
else_is start e s None l h k x y = record { shape = join l (join h (join k.shape refl)); shut = λ f. absurd (false≢true (sym f)) }
else_is start e s (Some o) l h k x y = record { shape = join l (join h (join k.shape (join (ap not (k.shut y)) x.shape))); shut = x.shut }

abbrev pub IsFirst : ForStart → Type 0
IsFirst (for_expression e) = is_source_option e ≡ true
IsFirst (for_declaration d) = is_source_decl d ≡ true

abbrev pub IsHead : ForHead → Type 0
IsHead x = IsFirst x.first × (is_source_option x.condition ≡ true) × (is_source_option x.step ≡ true)

pub loop_is : (start : Start) (first : ForStart) (condition step : Option ExprData) (s : OpenStatement) → is_line start.line.0 ≡ true → IsFirst first → is_source_option condition ≡ true → is_source_option step ≡ true → IsStatement s
    → IsStatement (for_loop start first condition step s)
loop_is start (for_expression e) condition step s l f c d k = record { shape = join l (join (join f (join c d)) k.shape); shut = k.shut }
loop_is start (for_declaration (decl b ds section line)) condition step s l f c d k =
    let h = both (is_line line.0) (is_source_base b && are_source_declarators ds) f in
    record {
      shape = join l (join (join h.0 (alone_is (is_source_decl (decl b ds section line)) false f)) (join (join l (join (join refl (join c d)) k.shape)) refl));
      shut = λ e. refl;
    }
