-- A tree makes no more structs than it has tokens: each production, one line for each.
use Rattle.std.proofs.Common.{◌≤◌, ◌≡◌, ◌∙◌, ℕ, suc, ◌+◌, Bool, true, false, List, [], ◌∷◌, ◌++◌, length, map, Option, Some, None, Ok, refl, ap, arith}
use Rattle.std.proofs.lemmas.List.{length-append}
use Rattle.std.specs.Prelude.{codes, fold, if◌then◌else◌}
use Rattle.ec_ctypes.specs.declared.text.token.Punct.{Punct}
use Rattle.ec_ctypes.specs.declared.tree.expr.BinOp.{BinOp}
use Rattle.ec_ctypes.specs.trees.Exprs.{ExprData, identifier, call, call_other, ExprList, BaseData, DeclList}
use Rattle.ec_ctypes.specs.trees.Tokens.{TokenData}
use Rattle.ec_ctypes.specs.trees.Units.{ParamData, UnitData}
use Rattle.ec_language.specs.Grammar.{PlacedTokens, no_counts}
use Rattle.ec_language.specs.Letters.{Text, same_text}
use Rattle.ec_language.specs.Productions.{placed, placed_from, section_behind, Start, start_of, Sym, Value, operand, Rank, or_rank, and_rank, bit_or_rank, bit_xor_rank, bit_and_rank, equal_rank, relation_rank, shift_rank, add_rank, multiply_rank, operand_value, operand_rule, rank_operators, operators, more_operands, more_operand, Element, tok, count, sym as ofs, nest, whole, own, Row, Node, Nodes, Production, productions, Postfix, at_index, at_member, at_arrow, bumped, called, BehindName, function, object, OpenStatement, ForStart, for_expression, for_declaration, Primary, is_void, without_void, external_named, external_top, tag_base, with_else, for_loop, set_by, with_operand, with_postfix, area_member, named, bare_name, with_postfixes}
use Rattle.ec_language.specs.Productions as g
use Rattle.ec_language.specs.Syntax.{limits, TreeOrStop, tree}
use Rattle.ec_sim_program_laws.proofs.flat_lemmas.Counts.{expr_structs, exprs_structs, base_structs, members_structs, decl_structs, items_structs, item_structs, dims_structs, dim_structs, init_structs, part_structs, parts_structs, option_structs, stmt_structs, stmts_structs, body_structs, param_structs, params_structs, top_structs, tops_structs}
use Rattle.ec_sim_program_laws.proofs.flat_lemmas.Derived.{Each, OfElement, OfRow, Keeps, holds}

-- ---- what symbols stand for

abbrev operands_structs : List (BinOp × ExprData) → ℕ
operands_structs [] = 0
operands_structs (x ∷ xs) = expr_structs x.1 + operands_structs xs

abbrev set_structs : Option (Option BinOp × ExprData) → ℕ
set_structs None = 0
set_structs (Some x) = expr_structs x.1

abbrev postfix_structs : Postfix → ℕ
postfix_structs (at_index i) = expr_structs i
postfix_structs (at_member m) = 0
postfix_structs (at_arrow m) = 0
postfix_structs (bumped up) = 0
postfix_structs (called es) = exprs_structs es

abbrev postfixes_structs : List Postfix → ℕ
postfixes_structs [] = 0
postfixes_structs (q ∷ qs) = postfix_structs q + postfixes_structs qs

abbrev some_structs : Option DeclList → ℕ
some_structs None = 0
some_structs (Some ms) = suc (members_structs ms)

abbrev behind_structs : BehindName → ℕ
behind_structs (function ps b) = params_structs ps + body_structs b
behind_structs (object ds i others) = suc (dims_structs ds + init_structs i) + items_structs others

abbrev tail_structs : Option (ℕ × Text × BehindName) → ℕ
tail_structs None = 0
tail_structs (Some x) = behind_structs x.2

abbrev else_structs : Option OpenStatement → ℕ
else_structs None = 0
else_structs (Some s) = stmt_structs s.statement

abbrev first_structs : ForStart → ℕ
first_structs (for_expression e) = option_structs e
first_structs (for_declaration d) = decl_structs d

abbrev value_structs : (s : Sym) → Value s → ℕ
value_structs g.unit v = tops_structs v.tops
value_structs g.items v = tops_structs v
value_structs g.item v = top_structs v
value_structs g.external v = base_structs v.base + tail_structs v.tail
value_structs g.external_tail v = tail_structs v
value_structs g.behind_name v = behind_structs v
value_structs g.body v = body_structs v
value_structs g.parameter_part v = params_structs v
value_structs g.parameters v = params_structs v
value_structs g.more_parameters v = params_structs v
value_structs g.parameter v = param_structs v
value_structs g.specifiers v = suc (base_structs v)
value_structs g.base v = suc (base_structs v)
value_structs g.tag_or_members v = base_structs v
value_structs g.members_option v = some_structs v
value_structs g.members v = suc (members_structs v)
value_structs g.more_members v = members_structs v
value_structs g.member_declaration v = decl_structs v
value_structs g.declarator_part v = item_structs v
value_structs g.declarators_option v = items_structs v
value_structs g.more_declarators v = items_structs v
value_structs g.lengths v = dims_structs v
value_structs g.length_part v = dim_structs v
value_structs g.length_option v = dim_structs v
value_structs g.initializer_option v = init_structs v
value_structs g.initializer v = part_structs v
value_structs g.initializer_list v = parts_structs v
value_structs g.more_initializers v = parts_structs v
value_structs g.block v = stmts_structs v
value_structs g.block_items v = stmts_structs v
value_structs g.block_item v = stmt_structs v
value_structs g.declaration v = decl_structs v
value_structs g.statement v = stmt_structs v.statement
value_structs g.else_option v = else_structs v
value_structs g.for_head v = first_structs v.first + (option_structs v.condition + option_structs v.step)
value_structs g.for_start v = first_structs v
value_structs g.expression_option v = option_structs v
value_structs g.parenthesized v = expr_structs v
value_structs g.assignment v = expr_structs v
value_structs g.assignment_option v = set_structs v
value_structs (operators r) v = expr_structs v
value_structs (more_operands r) v = operands_structs v
value_structs (more_operand r) v = expr_structs v.1
value_structs g.cast_part v = expr_structs v
value_structs g.type_in_parentheses v = base_structs v.0
value_structs g.type_name v = base_structs v.0
value_structs g.unary_part v = expr_structs v
value_structs g.size_operand v = expr_structs v
value_structs g.postfix v = expr_structs v
value_structs g.postfix_parts v = postfixes_structs v
value_structs g.postfix_part v = postfix_structs v
value_structs g.index_part v = expr_structs v
value_structs g.argument_part v = exprs_structs v
value_structs g.arguments v = exprs_structs v
value_structs g.more_arguments v = exprs_structs v
value_structs g.primary v = expr_structs v.expression
value_structs _ v = 0

-- It makes no more structs than it has tokens.
abbrev Counted : (s : Sym) → PlacedTokens → Value s → Type 0
Counted s w v = value_structs s v ≤ length w

-- ---- rows

abbrev element_structs : (i : Element) → Node i → ℕ
element_structs (tok t) v = 1
element_structs (count k t) v = 1
element_structs (ofs s) v = value_structs s v
element_structs (nest s) v = value_structs s v
element_structs (whole s) v = value_structs s v
element_structs (own s) v = value_structs s v

abbrev row_structs : (r : Row) → Nodes r → ℕ
row_structs [] vs = 0
row_structs (i ∷ r) vs = element_structs i vs.0 + row_structs r vs.1

one_token : (w : PlacedTokens) (n : ℕ) → length w ≡ n → n ≤ length w
one_token w n e = omega (arith, e)

element_is : (i : Element) (w : PlacedTokens) (v : Node i) → OfElement limits Counted i w v → element_structs i v ≤ length w
element_is (tok t) w v h = one_token w 1 (ap length h)
element_is (count k t) w v h = one_token w 1 (ap length h)
element_is (ofs s) w v h = h
element_is (nest s) w v h = h
element_is (whole s) w v h = h
element_is (own s) w v h = h

both_in : (w u v : PlacedTokens) (n m : ℕ) → w ≡ u ++ v → n ≤ length u → m ≤ length v → n + m ≤ length w
both_in w u v n m e h k = let l : length w ≡ length u + length v = ap length e ∙ length-append u v in omega (arith, l, h, k)

row_is : (r : Row) (w : PlacedTokens) (vs : Nodes r) → OfRow limits Counted r w vs → row_structs r vs ≤ length w
row_is [] w vs h = omega arith
row_is (i ∷ r) w vs h = both_in w h.0 h.1 (element_structs i vs.0) (row_structs r vs.1) h.2 (element_is i h.0 vs.0 h.3) (row_is r h.1 vs.1 h.4)

-- What the production makes has no more than its row.
abbrev Made : (s : Sym) → Production (Value s) → Type 0
Made s a = (start : Start) (vs : Nodes a.row) → value_structs s (a.make start vs) ≤ row_structs a.row vs

further : (a b c : ℕ) → a ≤ b → b ≤ c → a ≤ c
further a b c h k = omega (arith, h, k)

keeps : (s : Sym) (a : Production (Value s)) → Made s a → Keeps limits Counted s a
keeps s a f w vs l h = further (value_structs s (a.make (start_of w) vs)) (row_structs a.row vs) (length w) (f (start_of w) vs) (row_is a.row w vs h)

abbrev AllMade : (s : Sym) → List (Production (Value s)) → Type 0
AllMade s [] = Unit {0}
AllMade s (a ∷ rest) = Made s a × AllMade s rest

all_keep : (s : Sym) (ps : List (Production (Value s))) → AllMade s ps → Each (Keeps limits Counted s) ps
all_keep s [] h = tt
all_keep s (a ∷ rest) h = (keeps s a h.0, all_keep s rest h.1)

none : (s : Sym) → ((v : Value s) → value_structs s v ≡ 0) → (ps : List (Production (Value s))) → AllMade s ps
none s f [] = tt
none s f (a ∷ rest) = ((λ start vs. let e : value_structs s (a.make start vs) ≡ 0 = f (a.make start vs) in omega (arith, e)), none s f rest)

-- ---- what is made of them

operands_joined : (xs : List (BinOp × ExprData)) (e : ExprData) → expr_structs (fold with_operand e xs) ≡ expr_structs e + operands_structs xs
operands_joined [] e = omega arith
operands_joined (x ∷ xs) e = let h : expr_structs (fold with_operand (with_operand e x) xs) ≡ (expr_structs e + expr_structs x.1) + operands_structs xs = operands_joined xs (with_operand e x) in omega (arith, h)

operand_is : (r : Rank) (v : Value (operand r)) → expr_structs (operand_value r v) ≡ value_structs (operand r) v
operand_is or_rank v = refl
operand_is and_rank v = refl
operand_is bit_or_rank v = refl
operand_is bit_xor_rank v = refl
operand_is bit_and_rank v = refl
operand_is equal_rank v = refl
operand_is relation_rank v = refl
operand_is shift_rank v = refl
operand_is add_rank v = refl
operand_is multiply_rank v = refl

set_is : (e : ExprData) (x : Option (Option BinOp × ExprData)) → expr_structs (set_by e x) ≡ expr_structs e + set_structs x
set_is e None = omega arith
set_is e (Some x) = refl

postfix_is : (e : ExprData) (q : Postfix) → expr_structs (with_postfix e q) ≡ expr_structs e + postfix_structs q
postfix_is e (at_index i) = refl
postfix_is e (at_member m) = omega arith
postfix_is e (at_arrow m) = omega arith
postfix_is e (bumped up) = omega arith
postfix_is e (called es) = refl

postfixes_joined : (qs : List Postfix) (e : ExprData) → expr_structs (fold with_postfix e qs) ≡ expr_structs e + postfixes_structs qs
postfixes_joined [] e = omega arith
postfixes_joined (q ∷ qs) e =
    let h : expr_structs (fold with_postfix (with_postfix e q) qs) ≡ expr_structs (with_postfix e q) + postfixes_structs qs = postfixes_joined qs (with_postfix e q) in
    omega (arith, h, postfix_is e q)

called_is : (x : Primary) (es : ExprList) → expr_structs (if x.is_name then call (bare_name x) es else call_other x.expression es) ≤ expr_structs x.expression + exprs_structs es
called_is x es = go x.is_name
  where
    go : (b : Bool) → expr_structs (if b then call (bare_name x) es else call_other x.expression es) ≤ expr_structs x.expression + exprs_structs es
    go true = omega arith
    go false = omega arith

at_most : (a b c : ℕ) → a ≡ b → b ≤ c → a ≤ c
at_most a b c e h = omega (arith, e, h)

postfixes_are : (x : Primary) (qs : List Postfix) → expr_structs (with_postfixes x qs) ≤ expr_structs x.expression + postfixes_structs qs
postfixes_are x [] = omega arith
postfixes_are x (called es ∷ qs) =
    at_most _ _ _ (postfixes_joined qs (if x.is_name then call (bare_name x) es else call_other x.expression es)) (let h = called_is x es in omega (arith, h))
postfixes_are x (at_index i ∷ qs) = at_most _ _ _ (postfixes_joined (at_index i ∷ qs) x.expression) (omega arith)
postfixes_are x (at_member m ∷ qs) = at_most _ _ _ (postfixes_joined (at_member m ∷ qs) x.expression) (omega arith)
postfixes_are x (at_arrow m ∷ qs) = at_most _ _ _ (postfixes_joined (at_arrow m ∷ qs) x.expression) (omega arith)
postfixes_are x (bumped up ∷ qs) = at_most _ _ _ (postfixes_joined (bumped up ∷ qs) x.expression) (omega arith)

named_is : (w : Text) → expr_structs (named w).expression ≡ 0
named_is w = go (same_text w (codes "SQLCODE")) (same_text w (codes "SQLSTATE"))
  where
    go : (a b : Bool) → expr_structs (elim a as (λ _. Primary) [ true ↦ area_member "sqlcode" | false ↦ elim b [ true ↦ area_member "sqlstate" | false ↦ record { expression = identifier w; is_name = true } ] ]).expression ≡ 0
    go true b = refl
    go false true = refl
    go false false = refl

tag_is : (t : Text) (ms : Option DeclList) → base_structs (tag_base t ms) ≡ some_structs ms
tag_is t None = refl
tag_is t (Some ms) = refl

void_gone : (ps : List ParamData) → params_structs (without_void ps) ≤ params_structs ps
void_gone [] = omega arith
void_gone (p ∷ []) = go (is_void p.base p.stars p.name p.dims)
  where
    go : (b : Bool) → params_structs (if b then [] else p ∷ []) ≤ params_structs (p ∷ [])
    go true = omega arith
    go false = omega arith
void_gone (p ∷ q ∷ ps) = omega arith

external_named_is : (start : Start) (b : BaseData) (n : ℕ) (name : Text) (x : BehindName) → top_structs (external_named start b n name x) ≡ base_structs b + behind_structs x
external_named_is start b n name (function ps body) = refl
external_named_is start b n name (object ds i others) = refl

external_is : (start : Start) (b : BaseData) (x : Option (ℕ × Text × BehindName)) → top_structs (external_top start b x) ≡ base_structs b + tail_structs x
external_is start b None = refl
external_is start b (Some x) = external_named_is start b x.0 x.1 x.2

else_is : (start : Start) (e : ExprData) (s : OpenStatement) (o : Option OpenStatement) → stmt_structs (with_else start e s o).statement ≡ expr_structs e + (stmt_structs s.statement + else_structs o)
else_is start e s None = refl
else_is start e s (Some o) = refl

loop_is : (start : Start) (first : ForStart) (condition step : Option ExprData) (s : OpenStatement)
    → stmt_structs (for_loop start first condition step s).statement ≡ first_structs first + (option_structs condition + (option_structs step + stmt_structs s.statement))
loop_is start (for_expression e) condition step s = refl
loop_is start (for_declaration d) condition step s = omega arith

-- ---- productions that are one for each operator

each_operand : (r : Rank) (xs : List (Punct × BinOp)) → AllMade (more_operand r) (map (operand_rule r) xs)
each_operand r [] = tt
each_operand r (x ∷ xs) = ((λ start vs. at_most _ _ _ (operand_is r vs.1.0) (omega arith)), each_operand r xs)

-- ---- the table

all_made : (s : Sym) → AllMade s (productions s)
all_made g.unit = ((λ start x. omega arith), tt)
all_made g.items = ((λ start x. omega arith), ((λ start x. omega arith), tt))
all_made g.item = (
  (λ start x. omega arith),
  (
    (λ start x. omega arith),
    (
      (λ start x. omega arith),
      (
        (λ start x. omega arith),
        ((λ start x. at_most _ _ _ (external_is start x.0.base x.0.tail) (omega arith)), ((λ start x. at_most _ _ _ (external_is start x.1.0.base x.1.0.tail) (omega arith)), tt)),
      ),
    ),
  ),
)
all_made g.external = ((λ start x. omega arith), tt)
all_made g.external_tail = ((λ start x. omega arith), ((λ start x. omega arith), tt))
all_made g.behind_name = ((λ start x. omega arith), ((λ start x. omega arith), tt))
all_made g.body = ((λ start x. omega arith), ((λ start x. omega arith), tt))
all_made g.parameter_part = ((λ start x. further _ _ _ (void_gone x.1.0) (omega arith)), tt)
all_made g.parameters = ((λ start x. omega arith), ((λ start x. omega arith), tt))
all_made g.more_parameters = ((λ start x. omega arith), ((λ start x. omega arith), tt))
all_made g.parameter = ((λ start x. omega arith), tt)
all_made g.specifiers = ((λ start x. omega arith), tt)
all_made g.base = ((λ start x. omega arith), ((λ start x. omega arith), ((λ start x. omega arith), tt)))
all_made g.tag_or_members = ((λ start x. at_most _ _ _ (tag_is (g.text_of x.0) x.1.0) (omega arith)), ((λ start x. omega arith), tt))
all_made g.members_option = ((λ start x. omega arith), ((λ start x. omega arith), tt))
all_made g.members = ((λ start x. omega arith), tt)
all_made g.more_members = ((λ start x. omega arith), ((λ start x. omega arith), tt))
all_made g.member_declaration = ((λ start x. omega arith), tt)
all_made g.declarator_part = ((λ start x. omega arith), tt)
all_made g.declarators_option = ((λ start x. omega arith), ((λ start x. omega arith), tt))
all_made g.more_declarators = ((λ start x. omega arith), ((λ start x. omega arith), tt))
all_made g.lengths = ((λ start x. omega arith), ((λ start x. omega arith), tt))
all_made g.length_part = ((λ start x. omega arith), tt)
all_made g.length_option = ((λ start x. omega arith), ((λ start x. omega arith), tt))
all_made g.initializer_option = ((λ start x. omega arith), ((λ start x. omega arith), tt))
all_made g.initializer = ((λ start x. omega arith), ((λ start x. omega arith), tt))
all_made g.initializer_list = ((λ start x. omega arith), tt)
all_made g.more_initializers = ((λ start x. omega arith), ((λ start x. omega arith), ((λ start x. omega arith), tt)))
all_made g.block = ((λ start x. omega arith), tt)
all_made g.block_items = ((λ start x. omega arith), ((λ start x. omega arith), tt))
all_made g.block_item = ((λ start x. omega arith), ((λ start x. omega arith), ((λ start x. omega arith), ((λ start x. omega arith), tt))))
all_made g.declaration = ((λ start x. omega arith), tt)
all_made g.statement = (
  (λ start x. omega arith),
  (
    (λ start x. omega arith),
    (
      (λ start x. omega arith),
      (
        (λ start x. omega arith),
        (
          (λ start x. omega arith),
          (
            (λ start x. omega arith),
            (
              (λ start x. at_most _ _ _ (else_is start x.1.0 x.1.1.0 x.1.1.1.0) (omega arith)),
              (
                (λ start x. omega arith),
                (
                  (λ start x. omega arith),
                  (
                    (λ start x. at_most _ _ _ (loop_is start x.1.0.first x.1.0.condition x.1.0.step x.1.1.0) (omega arith)),
                    ((λ start x. omega arith), ((λ start x. omega arith), ((λ start x. omega arith), ((λ start x. omega arith), tt)))),
                  ),
                ),
              ),
            ),
          ),
        ),
      ),
    ),
  ),
)
all_made g.else_option = ((λ start x. omega arith), ((λ start x. omega arith), tt))
all_made g.for_head = ((λ start x. omega arith), tt)
all_made g.for_start = ((λ start x. omega arith), ((λ start x. omega arith), tt))
all_made g.expression_option = ((λ start x. omega arith), ((λ start x. omega arith), tt))
all_made g.parenthesized = ((λ start x. omega arith), tt)
all_made g.assignment = ((λ start x. at_most _ _ _ (set_is x.0 x.1.0) (omega arith)), tt)
all_made g.assignment_option = ((λ start x. omega arith), ((λ start x. omega arith), tt))
all_made (operators r) = ((λ start x. at_most _ _ _ (operands_joined x.1.0 (operand_value r x.0)) (let e = operand_is r x.0 in omega (arith, e))), tt)
all_made (more_operands r) = ((λ start x. omega arith), ((λ start x. omega arith), tt))
all_made (more_operand r) = each_operand r (rank_operators r)
all_made g.cast_part = ((λ start x. omega arith), ((λ start x. omega arith), tt))
all_made g.type_in_parentheses = ((λ start x. omega arith), tt)
all_made g.type_name = ((λ start x. omega arith), tt)
all_made g.unary_part = ((λ start x. omega arith), ((λ start x. omega arith), ((λ start x. omega arith), ((λ start x. omega arith), ((λ start x. omega arith), tt)))))
all_made g.size_operand = ((λ start x. omega arith), ((λ start x. omega arith), tt))
all_made g.postfix = ((λ start x. further _ _ _ (postfixes_are x.0 x.1.0) (omega arith)), tt)
all_made g.postfix_parts = ((λ start x. omega arith), ((λ start x. omega arith), tt))
all_made g.postfix_part = ((λ start x. omega arith), ((λ start x. omega arith), ((λ start x. omega arith), ((λ start x. omega arith), ((λ start x. omega arith), ((λ start x. omega arith), tt))))))
all_made g.index_part = ((λ start x. omega arith), tt)
all_made g.argument_part = ((λ start x. omega arith), tt)
all_made g.arguments = ((λ start x. omega arith), ((λ start x. omega arith), tt))
all_made g.more_arguments = ((λ start x. omega arith), ((λ start x. omega arith), tt))
all_made g.primary = (
  (λ start x. at_most _ _ _ (named_is (g.text_of x.0)) (omega arith)),
  ((λ start x. omega arith), ((λ start x. omega arith), ((λ start x. omega arith), ((λ start x. omega arith), tt)))),
)
all_made s = none s (λ v. refl) (productions s)

-- ---- trees

placed_length : (section : Bool) (ts : List TokenData) → length (placed_from section ts) ≡ length ts
placed_length section [] = refl
placed_length section (t ∷ ts) = ap suc (placed_length (section_behind section t.tok) ts)

pub tree_structs : (ts : List TokenData) (u : UnitData) → TreeOrStop ts (Ok u) → tops_structs u.tops ≤ length ts
tree_structs ts u (tree v d) =
    let h : tops_structs u.tops ≤ length (placed ts) = holds limits Counted (λ s. all_keep s (productions s) (all_made s)) d.0 limits.nesting no_counts g.unit (placed ts) v d.1 d.2 (omega arith) in
    omega (arith, h, placed_length false ts)
