-- What is derived within the limits is flat: each production, one line for each.
use Rattle.std.proofs.Common.{◌≤◌, ℕ, Bool, true, false, List, [], ◌∷◌, map, Option, Some, None, Ok, arith}
use Rattle.std.specs.Prelude.{codes, fold, if◌then◌else◌}
use Rattle.ec_ctypes.specs.declared.text.token.Punct.{Punct}
use Rattle.ec_ctypes.specs.declared.tree.expr.UnOp.{UnOp}
use Rattle.ec_ctypes.specs.declared.tree.expr.BinOp.{BinOp}
use Rattle.ec_ctypes.specs.trees.Exprs.{ExprData, identifier, call, call_other, ExprList, BaseData, DeclList}
use Rattle.ec_ctypes.specs.trees.Tokens.{TokenData}
use Rattle.ec_ctypes.specs.trees.Units.{ParamData, UnitData}
use Rattle.ec_language.specs.Grammar.{PlacedTokens, no_counts}
use Rattle.ec_language.specs.Letters.{Text, same_text}
use Rattle.ec_language.specs.Productions.{placed, Start, start_of, Sym, Value, operand, Rank, or_rank, and_rank, bit_or_rank, bit_xor_rank, bit_and_rank, equal_rank, relation_rank, shift_rank, add_rank, multiply_rank, operand_value, operand_rule, rank_operators, operators, more_operands, more_operand, assignments, assignment_rule, unary_operators, unary_rule, Element, tok, count, sym as ofs, nest, whole, own, Row, Node, Nodes, Production, productions, Postfix, at_index, at_member, at_arrow, bumped, called, BehindName, function, object, OpenStatement, ForStart, for_expression, for_declaration, Primary, is_void, without_void, external_named, external_top, tag_base, with_else, for_loop, line_of, set_by, with_operand, with_postfix, area_member, named, bare_name, with_postfixes}
use Rattle.ec_language.specs.Productions as g
use Rattle.ec_language.specs.Syntax.{limits, TreeOrStop, tree}
use Rattle.ec_sim_program_laws.specs.types.Flat.{max_lengths, dims_count, IsFlat, AreFlat, BaseIsFlat, MembersAreFlat, DeclIsFlat, ItemsAreFlat, ItemIsFlat, DimsAreFlat, DimIsFlat, InitIsFlat, PartIsFlat, PartsAreFlat, OptionIsFlat, StmtIsFlat, StmtsAreFlat, BodyIsFlat, ParamsAreFlat, TopIsFlat, TopsAreFlat}
use Rattle.ec_sim_program_laws.proofs.flat_lemmas.Derived.{Each, lengths_in, OfElement, OfRow, Keeps, holds}

-- ---- what symbols stand for

abbrev OperandsAreFlat : List (BinOp × ExprData) → Type 0
OperandsAreFlat [] = Unit {0}
OperandsAreFlat (x ∷ xs) = IsFlat x.1 × OperandsAreFlat xs

abbrev SetIsFlat : Option (Option BinOp × ExprData) → Type 0
SetIsFlat None = Unit {0}
SetIsFlat (Some x) = IsFlat x.1

abbrev PostfixIsFlat : Postfix → Type 0
PostfixIsFlat (at_index i) = IsFlat i
PostfixIsFlat (at_member m) = Unit {0}
PostfixIsFlat (at_arrow m) = Unit {0}
PostfixIsFlat (bumped up) = Unit {0}
PostfixIsFlat (called es) = AreFlat es

abbrev PostfixesAreFlat : List Postfix → Type 0
PostfixesAreFlat [] = Unit {0}
PostfixesAreFlat (q ∷ qs) = PostfixIsFlat q × PostfixesAreFlat qs

abbrev SomeAreFlat : Option DeclList → Type 0
SomeAreFlat None = Unit {0}
SomeAreFlat (Some ms) = MembersAreFlat ms

abbrev ParamIsFlat : ParamData → Type 0
ParamIsFlat p = BaseIsFlat p.base × (dims_count p.dims ≤ max_lengths) × DimsAreFlat p.dims

abbrev BehindIsFlat : BehindName → Type 0
BehindIsFlat (function ps b) = ParamsAreFlat ps × BodyIsFlat b
BehindIsFlat (object ds i others) = (dims_count ds ≤ max_lengths) × DimsAreFlat ds × InitIsFlat i × ItemsAreFlat others

abbrev TailIsFlat : Option (ℕ × Text × BehindName) → Type 0
TailIsFlat None = Unit {0}
TailIsFlat (Some x) = BehindIsFlat x.2

abbrev ElseIsFlat : Option OpenStatement → Type 0
ElseIsFlat None = Unit {0}
ElseIsFlat (Some s) = StmtIsFlat s.statement

abbrev FirstIsFlat : ForStart → Type 0
FirstIsFlat (for_expression e) = OptionIsFlat e
FirstIsFlat (for_declaration d) = DeclIsFlat d

abbrev ValueIsFlat : (s : Sym) → Value s → Type 0
ValueIsFlat g.unit v = TopsAreFlat v.tops
ValueIsFlat g.items v = TopsAreFlat v
ValueIsFlat g.item v = TopIsFlat v
ValueIsFlat g.external v = BaseIsFlat v.base × TailIsFlat v.tail
ValueIsFlat g.external_tail v = TailIsFlat v
ValueIsFlat g.behind_name v = BehindIsFlat v
ValueIsFlat g.body v = BodyIsFlat v
ValueIsFlat g.parameter_part v = ParamsAreFlat v
ValueIsFlat g.parameters v = ParamsAreFlat v
ValueIsFlat g.more_parameters v = ParamsAreFlat v
ValueIsFlat g.parameter v = ParamIsFlat v
ValueIsFlat g.parameter_name v = Unit {0}
ValueIsFlat g.specifiers v = BaseIsFlat v
ValueIsFlat g.base v = BaseIsFlat v
ValueIsFlat g.more_words v = Unit {0}
ValueIsFlat g.constants v = Unit {0}
ValueIsFlat g.tag_or_members v = BaseIsFlat v
ValueIsFlat g.members_option v = SomeAreFlat v
ValueIsFlat g.members v = MembersAreFlat v
ValueIsFlat g.more_members v = MembersAreFlat v
ValueIsFlat g.member_declaration v = DeclIsFlat v
ValueIsFlat g.stars v = Unit {0}
ValueIsFlat g.declarator_part v = ItemIsFlat v
ValueIsFlat g.declarators_option v = ItemsAreFlat v
ValueIsFlat g.more_declarators v = ItemsAreFlat v
ValueIsFlat g.lengths v = (dims_count v ≤ max_lengths) × DimsAreFlat v
ValueIsFlat g.length_part v = DimIsFlat v
ValueIsFlat g.length_option v = DimIsFlat v
ValueIsFlat g.initializer_option v = InitIsFlat v
ValueIsFlat g.initializer v = PartIsFlat v
ValueIsFlat g.initializer_list v = PartsAreFlat v
ValueIsFlat g.more_initializers v = PartsAreFlat v
ValueIsFlat g.block v = StmtsAreFlat v
ValueIsFlat g.block_items v = StmtsAreFlat v
ValueIsFlat g.block_item v = StmtIsFlat v
ValueIsFlat g.declaration v = DeclIsFlat v
ValueIsFlat g.statement v = StmtIsFlat v.statement
ValueIsFlat g.else_option v = ElseIsFlat v
ValueIsFlat g.for_head v = FirstIsFlat v.first × OptionIsFlat v.condition × OptionIsFlat v.step
ValueIsFlat g.for_start v = FirstIsFlat v
ValueIsFlat g.expression_option v = OptionIsFlat v
ValueIsFlat g.parenthesized v = IsFlat v
ValueIsFlat g.assignment v = IsFlat v
ValueIsFlat g.assignment_option v = SetIsFlat v
ValueIsFlat g.assignment_operator v = Unit {0}
ValueIsFlat (operators r) v = IsFlat v
ValueIsFlat (more_operands r) v = OperandsAreFlat v
ValueIsFlat (more_operand r) v = IsFlat v.1
ValueIsFlat g.cast_part v = IsFlat v
ValueIsFlat g.type_in_parentheses v = BaseIsFlat v.0
ValueIsFlat g.type_name v = BaseIsFlat v.0
ValueIsFlat g.unary_part v = IsFlat v
ValueIsFlat g.unary_operator v = Unit {0}
ValueIsFlat g.size_operand v = IsFlat v
ValueIsFlat g.postfix v = IsFlat v
ValueIsFlat g.postfix_parts v = PostfixesAreFlat v
ValueIsFlat g.postfix_part v = PostfixIsFlat v
ValueIsFlat g.index_part v = IsFlat v
ValueIsFlat g.argument_part v = AreFlat v
ValueIsFlat g.arguments v = AreFlat v
ValueIsFlat g.more_arguments v = AreFlat v
ValueIsFlat g.primary v = IsFlat v.expression

abbrev Flat : (s : Sym) → PlacedTokens → Value s → Type 0
Flat s w v = ValueIsFlat s v

-- ---- rows

abbrev ElementIsFlat : (i : Element) → Node i → Type 0
ElementIsFlat (tok t) v = Unit {0}
ElementIsFlat (count k t) v = Unit {0}
ElementIsFlat (ofs s) v = ValueIsFlat s v
ElementIsFlat (nest s) v = ValueIsFlat s v
ElementIsFlat (whole s) v = ValueIsFlat s v
ElementIsFlat (own s) v = ValueIsFlat s v

abbrev RowIsFlat : (r : Row) → Nodes r → Type 0
RowIsFlat [] vs = Unit {0}
RowIsFlat (i ∷ r) vs = ElementIsFlat i vs.0 × RowIsFlat r vs.1

element_is : (i : Element) (w : PlacedTokens) (v : Node i) → OfElement limits Flat i w v → ElementIsFlat i v
element_is (tok t) w v h = tt
element_is (count k t) w v h = tt
element_is (ofs s) w v h = h
element_is (nest s) w v h = h
element_is (whole s) w v h = h
element_is (own s) w v h = h

row_is : (r : Row) (w : PlacedTokens) (vs : Nodes r) → OfRow limits Flat r w vs → RowIsFlat r vs
row_is [] w vs h = tt
row_is (i ∷ r) w vs h = (element_is i h.0 vs.0 h.3, row_is r h.1 vs.1 h.4)

-- What the production makes is flat, if its row is, and it has so many lengths at most.
abbrev Made : (s : Sym) → Production (Value s) → Type 0
Made s a = (start : Start) (vs : Nodes a.row) → lengths_in s (a.make start vs) ≤ max_lengths → RowIsFlat a.row vs → ValueIsFlat s (a.make start vs)

keeps : (s : Sym) (a : Production (Value s)) → Made s a → Keeps limits Flat s a
keeps s a f w vs l h = f (start_of w) vs l (row_is a.row w vs h)

abbrev AllMade : (s : Sym) → List (Production (Value s)) → Type 0
AllMade s [] = Unit {0}
AllMade s (a ∷ rest) = Made s a × AllMade s rest

all_keep : (s : Sym) (ps : List (Production (Value s))) → AllMade s ps → Each (Keeps limits Flat s) ps
all_keep s [] h = tt
all_keep s (a ∷ rest) h = (keeps s a h.0, all_keep s rest h.1)

-- ---- what is made of them

operands_joined : (xs : List (BinOp × ExprData)) (e : ExprData) → IsFlat e → OperandsAreFlat xs → IsFlat (fold with_operand e xs)
operands_joined [] e h k = h
operands_joined (x ∷ xs) e h k = operands_joined xs (with_operand e x) (h, k.0) k.1

operand_is : (r : Rank) (v : Value (operand r)) → ValueIsFlat (operand r) v → IsFlat (operand_value r v)
operand_is or_rank v h = h
operand_is and_rank v h = h
operand_is bit_or_rank v h = h
operand_is bit_xor_rank v h = h
operand_is bit_and_rank v h = h
operand_is equal_rank v h = h
operand_is relation_rank v h = h
operand_is shift_rank v h = h
operand_is add_rank v h = h
operand_is multiply_rank v h = h

set_is : (e : ExprData) (x : Option (Option BinOp × ExprData)) → IsFlat e → SetIsFlat x → IsFlat (set_by e x)
set_is e None h k = h
set_is e (Some x) h k = (h, k)

postfix_is : (e : ExprData) (q : Postfix) → IsFlat e → PostfixIsFlat q → IsFlat (with_postfix e q)
postfix_is e (at_index i) h k = (h, k)
postfix_is e (at_member m) h k = h
postfix_is e (at_arrow m) h k = h
postfix_is e (bumped up) h k = h
postfix_is e (called es) h k = (h, k)

postfixes_joined : (qs : List Postfix) (e : ExprData) → IsFlat e → PostfixesAreFlat qs → IsFlat (fold with_postfix e qs)
postfixes_joined [] e h k = h
postfixes_joined (q ∷ qs) e h k = postfixes_joined qs (with_postfix e q) (postfix_is e q h k.0) k.1

called_is : (x : Primary) (es : ExprList) → IsFlat x.expression → AreFlat es → IsFlat (if x.is_name then call (bare_name x) es else call_other x.expression es)
called_is x es h k = go x.is_name
  where
    go : (b : Bool) → IsFlat (if b then call (bare_name x) es else call_other x.expression es)
    go true = k
    go false = (h, k)

postfixes_are : (x : Primary) (qs : List Postfix) → IsFlat x.expression → PostfixesAreFlat qs → IsFlat (with_postfixes x qs)
postfixes_are x [] h k = h
postfixes_are x (called es ∷ qs) h k = postfixes_joined qs _ (called_is x es h k.0) k.1
postfixes_are x (at_index i ∷ qs) h k = postfixes_joined (at_index i ∷ qs) x.expression h k
postfixes_are x (at_member m ∷ qs) h k = postfixes_joined (at_member m ∷ qs) x.expression h k
postfixes_are x (at_arrow m ∷ qs) h k = postfixes_joined (at_arrow m ∷ qs) x.expression h k
postfixes_are x (bumped up ∷ qs) h k = postfixes_joined (bumped up ∷ qs) x.expression h k

named_is : (w : Text) → IsFlat (named w).expression
named_is w = go (same_text w (codes "SQLCODE")) (same_text w (codes "SQLSTATE"))
  where
    go : (a b : Bool) → IsFlat (elim a as (λ _. Primary) [ true ↦ area_member "sqlcode" | false ↦ elim b [ true ↦ area_member "sqlstate" | false ↦ record { expression = identifier w; is_name = true } ] ]).expression
    go true b = tt
    go false true = tt
    go false false = tt

tag_is : (t : Text) (ms : Option DeclList) → SomeAreFlat ms → BaseIsFlat (tag_base t ms)
tag_is t None h = tt
tag_is t (Some ms) h = h

void_gone : (ps : List ParamData) → ParamsAreFlat ps → ParamsAreFlat (without_void ps)
void_gone [] h = tt
void_gone (p ∷ []) h = go (is_void p.base p.stars p.name p.dims)
  where
    go : (b : Bool) → ParamsAreFlat (if b then [] else p ∷ [])
    go true = tt
    go false = h
void_gone (p ∷ q ∷ ps) h = h

external_named_is : (start : Start) (b : BaseData) (n : ℕ) (name : Text) (x : BehindName) → BaseIsFlat b → BehindIsFlat x → TopIsFlat (external_named start b n name x)
external_named_is start b n name (function ps body) h k = (h, k.0, k.1)
external_named_is start b n name (object ds i others) h k = (h, ((k.0, k.1, k.2), k.3))

external_is : (start : Start) (b : BaseData) (x : Option (ℕ × Text × BehindName)) → BaseIsFlat b → TailIsFlat x → TopIsFlat (external_top start b x)
external_is start b None h k = (h, tt)
external_is start b (Some x) h k = external_named_is start b x.0 x.1 x.2 h k

else_is : (start : Start) (e : ExprData) (s : OpenStatement) (o : Option OpenStatement) → IsFlat e → StmtIsFlat s.statement → ElseIsFlat o → StmtIsFlat (with_else start e s o).statement
else_is start e s None h k x = (h, k, tt)
else_is start e s (Some o) h k x = (h, k, x)

loop_is : (start : Start) (first : ForStart) (condition step : Option ExprData) (s : OpenStatement) → FirstIsFlat first → OptionIsFlat condition → OptionIsFlat step → StmtIsFlat s.statement → StmtIsFlat (for_loop start first condition step s).statement
loop_is start (for_expression e) condition step s h k l m = (h, k, l, m)
loop_is start (for_declaration d) condition step s h k l m = (h, ((tt, k, l, m), tt))

-- ---- productions that are one for each operator

each_operand : (r : Rank) (xs : List (Punct × BinOp)) → AllMade (more_operand r) (map (operand_rule r) xs)
each_operand r [] = tt
each_operand r (x ∷ xs) = ((λ start vs e h. operand_is r vs.1.0 h.1.0), each_operand r xs)

each_assignment : (xs : List (Punct × Option BinOp)) → AllMade g.assignment_operator (map assignment_rule xs)
each_assignment [] = tt
each_assignment (x ∷ xs) = ((λ start vs e h. tt), each_assignment xs)

each_unary : (xs : List (Punct × UnOp)) → AllMade g.unary_operator (map unary_rule xs)
each_unary [] = tt
each_unary (x ∷ xs) = ((λ start vs e h. tt), each_unary xs)

-- ---- the table

all_made : (s : Sym) → AllMade s (productions s)
all_made g.unit = ((λ start x e h. h.0), tt)
all_made g.items = ((λ start x e h. tt), ((λ start x e h. (h.0, h.1.0)), tt))
all_made g.item = (
  (λ start x e h. tt),
  (
    (λ start x e h. tt),
    ((λ start x e h. tt), ((λ start x e h. tt), ((λ start x e h. external_is start x.0.base x.0.tail h.0.0 h.0.1), ((λ start x e h. external_is start x.1.0.base x.1.0.tail h.1.0.0 h.1.0.1), tt)))),
  ),
)
all_made g.external = ((λ start x e h. (h.0, h.1.0)), tt)
all_made g.external_tail = ((λ start x e h. tt), ((λ start x e h. h.1.1.0), tt))
all_made g.behind_name = ((λ start x e h. (h.0, h.1.0)), ((λ start x e h. (h.0.0, h.0.1, h.1.0, h.1.1.0)), tt))
all_made g.body = ((λ start x e h. tt), ((λ start x e h. h.0), tt))
all_made g.parameter_part = ((λ start x e h. void_gone x.1.0 h.1.0), tt)
all_made g.parameters = ((λ start x e h. tt), ((λ start x e h. (h.0.0, h.0.1, h.0.2, h.1.0)), tt))
all_made g.more_parameters = ((λ start x e h. tt), ((λ start x e h. (h.1.0.0, h.1.0.1, h.1.0.2, h.1.1.0)), tt))
all_made g.parameter = ((λ start x e h. (h.0, h.1.1.1.0.0, h.1.1.1.0.1)), tt)
all_made g.parameter_name = ((λ start x e h. tt), ((λ start x e h. tt), tt))
all_made g.specifiers = ((λ start x e h. h.1.0), tt)
all_made g.base = ((λ start x e h. tt), ((λ start x e h. tt), ((λ start x e h. h.1.0), tt)))
all_made g.more_words = ((λ start x e h. tt), ((λ start x e h. tt), ((λ start x e h. tt), tt)))
all_made g.constants = ((λ start x e h. tt), ((λ start x e h. tt), tt))
all_made g.tag_or_members = ((λ start x e h. tag_is _ x.1.0 h.1.0), ((λ start x e h. h.0), tt))
all_made g.members_option = ((λ start x e h. tt), ((λ start x e h. h.0), tt))
all_made g.members = ((λ start x e h. (h.1.0, h.1.1.0)), tt)
all_made g.more_members = ((λ start x e h. tt), ((λ start x e h. (h.0, h.1.0)), tt))
all_made g.member_declaration = ((λ start x e h. (h.0, (h.1.0, h.1.1.0))), tt)
all_made g.stars = ((λ start x e h. tt), ((λ start x e h. tt), tt))
all_made g.declarator_part = ((λ start x e h. (h.1.1.0.0, h.1.1.0.1, h.1.1.1.0)), tt)
all_made g.declarators_option = ((λ start x e h. tt), ((λ start x e h. (h.0, h.1.0)), tt))
all_made g.more_declarators = ((λ start x e h. tt), ((λ start x e h. (h.1.0, h.1.1.0)), tt))
all_made g.lengths = ((λ start x e h. (e, tt)), ((λ start x e h. (e, (h.0, h.1.0.1))), tt))
all_made g.length_part = ((λ start x e h. h.1.0), tt)
all_made g.length_option = ((λ start x e h. tt), ((λ start x e h. h.0), tt))
all_made g.initializer_option = ((λ start x e h. tt), ((λ start x e h. h.1.0), tt))
all_made g.initializer = ((λ start x e h. h.0), ((λ start x e h. h.0), tt))
all_made g.initializer_list = ((λ start x e h. (h.1.0, h.1.1.0)), tt)
all_made g.more_initializers = ((λ start x e h. tt), ((λ start x e h. tt), ((λ start x e h. (h.1.0, h.1.1.0)), tt)))
all_made g.block = ((λ start x e h. h.1.0), tt)
all_made g.block_items = ((λ start x e h. tt), ((λ start x e h. (h.0, h.1.0)), tt))
all_made g.block_item = ((λ start x e h. h.0), ((λ start x e h. tt), ((λ start x e h. tt), ((λ start x e h. h.0), tt))))
all_made g.declaration = ((λ start x e h. (h.0, h.1.0)), tt)
all_made g.statement = (
  (λ start x e h. tt),
  (
    (λ start x e h. h.0),
    (
      (λ start x e h. h.0),
      (
        (λ start x e h. h.1.1.0),
        (
          (λ start x e h. tt),
          (
            (λ start x e h. tt),
            (
              (λ start x e h. else_is start x.1.0 x.1.1.0 x.1.1.1.0 h.1.0 h.1.1.0 h.1.1.1.0),
              (
                (λ start x e h. (h.1.0, h.1.1.0)),
                (
                  (λ start x e h. (h.1.0, h.1.1.1.0)),
                  (
                    (λ start x e h. loop_is start x.1.0.first x.1.0.condition x.1.0.step x.1.1.0 h.1.0.0 h.1.0.1 h.1.0.2 h.1.1.0),
                    ((λ start x e h. tt), ((λ start x e h. tt), ((λ start x e h. h.1.0), ((λ start x e h. tt), tt)))),
                  ),
                ),
              ),
            ),
          ),
        ),
      ),
    ),
  ),
)
all_made g.else_option = ((λ start x e h. tt), ((λ start x e h. h.1.0), tt))
all_made g.for_head = ((λ start x e h. (h.1.0, h.1.1.0, h.1.1.1.1.0)), tt)
all_made g.for_start = ((λ start x e h. h.0), ((λ start x e h. (h.0, (h.1.0, h.1.1.0))), tt))
all_made g.expression_option = ((λ start x e h. tt), ((λ start x e h. h.0), tt))
all_made g.parenthesized = ((λ start x e h. h.1.0), tt)
all_made g.assignment = ((λ start x e h. set_is x.0 x.1.0 h.0 h.1.0), tt)
all_made g.assignment_option = ((λ start x e h. tt), ((λ start x e h. h.1.0), tt))
all_made g.assignment_operator = each_assignment assignments
all_made (operators r) = ((λ start x e h. operands_joined x.1.0 (operand_value r x.0) (operand_is r x.0 h.0) h.1.0), tt)
all_made (more_operands r) = ((λ start x e h. tt), ((λ start x e h. (h.0, h.1.0)), tt))
all_made (more_operand r) = each_operand r (rank_operators r)
all_made g.cast_part = ((λ start x e h. (h.0, h.1.0)), ((λ start x e h. h.0), tt))
all_made g.type_in_parentheses = ((λ start x e h. h.1.0), tt)
all_made g.type_name = ((λ start x e h. h.0), tt)
all_made g.unary_part = ((λ start x e h. h.0), ((λ start x e h. h.1.0), ((λ start x e h. h.1.0), ((λ start x e h. h.1.0), ((λ start x e h. h.1.0), tt)))))
all_made g.unary_operator = each_unary unary_operators
all_made g.size_operand = ((λ start x e h. h.0), ((λ start x e h. h.0), tt))
all_made g.postfix = ((λ start x e h. postfixes_are x.0 x.1.0 h.0 h.1.0), tt)
all_made g.postfix_parts = ((λ start x e h. tt), ((λ start x e h. (h.0, h.1.0)), tt))
all_made g.postfix_part = ((λ start x e h. h.0), ((λ start x e h. tt), ((λ start x e h. tt), ((λ start x e h. tt), ((λ start x e h. tt), ((λ start x e h. h.0), tt))))))
all_made g.index_part = ((λ start x e h. h.1.0), tt)
all_made g.argument_part = ((λ start x e h. h.1.0), tt)
all_made g.arguments = ((λ start x e h. tt), ((λ start x e h. (h.0, h.1.0)), tt))
all_made g.more_arguments = ((λ start x e h. tt), ((λ start x e h. (h.1.0, h.1.1.0)), tt))
all_made g.primary = ((λ start x e h. named_is (g.text_of x.0)), ((λ start x e h. tt), ((λ start x e h. tt), ((λ start x e h. tt), ((λ start x e h. h.0), tt)))))

-- ---- trees

pub tree_is_flat : (ts : List TokenData) (u : UnitData) → TreeOrStop ts (Ok u) → TopsAreFlat u.tops
tree_is_flat ts u (tree v d) =
    holds limits Flat (λ s. all_keep s (productions s) (all_made s)) d.0 limits.nesting no_counts g.unit (placed ts) v d.1 d.2 (omega arith)
