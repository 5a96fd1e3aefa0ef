-- The embedded statements that stand in the tree of a source are all of them, in their order.
use Rattle.std.proofs.Common.{◌≡◌, ℕ, zero, suc, ◌+◌, Bool, true, false, not, List, [], ◌∷◌, ◌++◌, map, length, refl, sym, ap, ◌∙◌, subst, Option, Some, None, Result, Ok, Err, if◌then◌else◌}
use Rattle.std.proofs.lemmas.Bool.{false≢true}
use Rattle.ec_base.specs.declared.fault.FaultKind.{FaultKind}
use Rattle.ec_base.specs.declared.fault.FaultKind.TheVariants.{F4, F9}
use Rattle.ec_base.specs.declared.fault.LimitKind.TheVariants.{L2}
use Rattle.ec_base.specs.declared.stop.Stop.{Stop}
use Rattle.ec_base.specs.declared.stop.Stop.TheVariants.{Limit}
use Rattle.ec_ctypes.specs.declared.text.piece.Piece.{Piece}
use Rattle.ec_ctypes.specs.declared.text.piece.PieceKind.{PieceKind}
use Rattle.ec_ctypes.specs.declared.text.piece.PieceKind.TheVariants.{C, Emb, SectionStart, SectionEnd}
use Rattle.ec_ctypes.specs.declared.text.token.Punct.{Punct}
use Rattle.ec_ctypes.specs.declared.types.arith.Arith.{Arith}
use Rattle.ec_ctypes.specs.declared.tree.expr.UnOp.{UnOp}
use Rattle.ec_ctypes.specs.declared.tree.expr.BinOp.{BinOp}
use Rattle.ec_ctypes.specs.trees.Exprs.{BaseData}
use Rattle.ec_ctypes.specs.trees.Stmts.{StmtList}
use Rattle.ec_ctypes.specs.trees.Tokens.{TokData, emb_token, string_token, section_start, section_end, TokenData}
use Rattle.ec_ctypes.specs.trees.Embedded.{EmbData}
use Rattle.ec_ctypes.specs.trees.Units.{TopData, UnitData}
use Rattle.ec_language.specs.Constants.{integer_constant, character_value, string_value}
use Rattle.ec_language.specs.Grammar.{PlacedTokens, no_counts}
use Rattle.ec_language.specs.Letters.{Text}
use Rattle.ec_language.specs.Lexemes.{Class, word, number, character, string, punct, left_out, comment, is_fresh_after}
use Rattle.ec_language.specs.Productions.{Placed, placed_from, section_behind, placed, Start, start_of, Terminal, is, number_of, Sym, Value, operand, Rank, or_rank, and_rank, bit_or_rank, bit_xor_rank, bit_and_rank, equal_rank, relation_rank, shift_rank, add_rank, multiply_rank, operand_rule, rank_operators, operators, more_operands, more_operand, assignments, assignment_rule, unary_operators, unary_rule, Element, tok, count, sym as ofs, nest, whole, own, Row, Node, Nodes, Follows, Production, productions, OpenStatement, ForStart, for_expression, for_declaration, BehindName, function, object, External, external_top, with_else, for_loop}
use Rattle.ec_language.specs.Productions as g
use Rattle.ec_language.specs.Syntax.{limits, TreeOrStop, tree}
use Rattle.ec_language.specs.Tokens.{Part, Item, blank, match, include, directive, last_directive, Step, CParts, end, item, bad, part_at, is_left_out_word, integer_tok, character_tok, string_tok, token_of, PieceParts, c_text, statement, opening, closing, declaration, embedded, fault_at, statements_behind, AllParts, join_two, join_first, join_strings, without_head, token, with_token, max_tokens, is_full, part_within, numbered_within, Tokens}
use Rattle.ec_host_defs.specs.Statements.{is_statement, statement_places, with_statement}
use Rattle.ec_phases_defs.specs.Laws.{statement_count}
use Rattle.ec_phases_defs.specs.Sources as source
use Rattle.ec_phases_defs.specs.Sources.{ReadsStatements}
use Rattle.ec_written_laws.proofs.bound_lemmas.Derived.{Each, OfElement, OfRow, Keeps, holds}
use Rattle.ec_written_laws.specs.bound.Numbers.{stmt_numbers, stmts_numbers, body_numbers, top_numbers, tops_numbers, numbers_from}

-- ---- tokens, and what symbols stand for

abbrev tok_numbers : TokData → List ℕ → List ℕ
tok_numbers (emb_token n executed) ns = n ∷ ns
tok_numbers _ ns = ns

abbrev placed_numbers : PlacedTokens → List ℕ → List ℕ
placed_numbers [] ns = ns
placed_numbers (t ∷ w) ns = tok_numbers t.token.tok (placed_numbers w ns)

abbrev behind_numbers : BehindName → List ℕ → List ℕ
behind_numbers (function params body) ns = body_numbers body ns
behind_numbers (object lengths init others) ns = ns

abbrev tail_numbers : Option (ℕ × Text × BehindName) → List ℕ → List ℕ
tail_numbers None ns = ns
tail_numbers (Some x) ns = behind_numbers x.2 ns

abbrev other_numbers : Option OpenStatement → List ℕ → List ℕ
other_numbers None ns = ns
other_numbers (Some s) ns = stmt_numbers s.statement ns

abbrev value_numbers : (s : Sym) → Value s → List ℕ → List ℕ
value_numbers g.unit v ns = tops_numbers v.tops ns
value_numbers g.items v ns = tops_numbers v ns
value_numbers g.item v ns = top_numbers v ns
value_numbers g.external v ns = tail_numbers v.tail ns
value_numbers g.external_tail v ns = tail_numbers v ns
value_numbers g.behind_name v ns = behind_numbers v ns
value_numbers g.body v ns = body_numbers v ns
value_numbers g.block v ns = stmts_numbers v ns
value_numbers g.block_items v ns = stmts_numbers v ns
value_numbers g.block_item v ns = stmt_numbers v ns
value_numbers g.statement v ns = stmt_numbers v.statement ns
value_numbers g.else_option v ns = other_numbers v ns
value_numbers _ v ns = ns

-- The numbers in the tokens of a symbol are those in what it stands for.
abbrev Numbers : (s : Sym) → PlacedTokens → Value s → Type 0
Numbers s w v = (ns : List ℕ) → placed_numbers w ns ≡ value_numbers s v ns

placed_both : (u w : PlacedTokens) (ns : List ℕ) → placed_numbers (u ++ w) ns ≡ placed_numbers u (placed_numbers w ns)
placed_both [] w ns = refl
placed_both (t ∷ u) w ns = ap (tok_numbers t.token.tok) (placed_both u w ns)

-- ---- rows

abbrev terminal_numbers : Terminal → TokData → List ℕ → List ℕ
terminal_numbers g.executable k ns = g.number_in k ∷ ns
terminal_numbers g.directive k ns = g.number_in k ∷ ns
terminal_numbers _ k ns = ns

abbrev element_numbers : (i : Element) → Node i → List ℕ → List ℕ
element_numbers (tok t) v ns = terminal_numbers t v.token.tok ns
element_numbers (count k t) v ns = terminal_numbers t v.token.tok ns
element_numbers (ofs s) v ns = value_numbers s v ns
element_numbers (nest s) v ns = value_numbers s v ns
element_numbers (whole s) v ns = value_numbers s v ns
element_numbers (own s) v ns = value_numbers s v ns

abbrev row_numbers : (r : Row) → Nodes r → List ℕ → List ℕ
row_numbers [] vs ns = ns
row_numbers (i ∷ r) vs ns = element_numbers i vs.0 (row_numbers r vs.1 ns)

terminal_is : (t : Terminal) (k : TokData) → is t k ≡ true → (ns : List ℕ) → tok_numbers k ns ≡ terminal_numbers t k ns
terminal_is g.executable (emb_token n e) h ns = refl
terminal_is g.directive (emb_token n e) h ns = refl
terminal_is g.executable _ h ns = absurd (false≢true h)
terminal_is g.directive _ h ns = absurd (false≢true h)
terminal_is _ (emb_token n e) h ns = absurd (false≢true h)
terminal_is _ _ h ns = refl

token_is : (t : Terminal) (w : PlacedTokens) (v : Placed) → w ≡ v ∷ [] → is t v.token.tok ≡ true → (ns : List ℕ) → placed_numbers w ns ≡ terminal_numbers t v.token.tok ns
token_is t w v e h ns = ap (λ x. placed_numbers x ns) e ∙ terminal_is t v.token.tok h ns

element_is : (i : Element) (w : PlacedTokens) (v : Node i) → OfElement Numbers i w v → (ns : List ℕ) → placed_numbers w ns ≡ element_numbers i v ns
element_is (tok t) w v h ns = token_is t w v h.0 h.1 ns
element_is (count k t) w v h ns = token_is t w v h.0 h.1 ns
element_is (ofs s) w v h ns = h ns
element_is (nest s) w v h ns = h ns
element_is (whole s) w v h ns = h ns
element_is (own s) w v h ns = h ns

row_is : (follows : Follows) (r : Row) (w : PlacedTokens) (vs : Nodes r) → OfRow Numbers follows r w vs → (ns : List ℕ) → placed_numbers w ns ≡ row_numbers r vs ns
row_is follows [] w vs h ns = ap (λ x. placed_numbers x ns) h
row_is follows (i ∷ r) w vs h ns =
    ap (λ x. placed_numbers x ns) h.2 ∙ placed_both h.0 h.1 ns ∙ ap (placed_numbers h.0) (row_is follows r h.1 vs.1 h.4 ns) ∙ element_is i h.0 vs.0 h.3 (row_numbers r vs.1 ns)

-- What the production makes has the numbers of its row.
abbrev Same : (s : Sym) → Production (Value s) → Type 0
Same s a = (start : Start) (vs : Nodes a.row) (ns : List ℕ) → row_numbers a.row vs ns ≡ value_numbers s (a.make start vs) ns

keeps : (s : Sym) (a : Production (Value s)) → Same s a → Keeps Numbers s a
keeps s a f w vs h ns = row_is a.follows a.row w vs h ns ∙ f (start_of w) vs ns

abbrev AllSame : (s : Sym) → List (Production (Value s)) → Type 0
AllSame s [] = Unit {0}
AllSame s (a ∷ rest) = Same s a × AllSame s rest

all_keep : (s : Sym) (ps : List (Production (Value s))) → AllSame s ps → Each (Keeps Numbers s) ps
all_keep s [] h = tt
all_keep s (a ∷ rest) h = (keeps s a h.0, all_keep s rest h.1)

-- ---- productions

-- an operand of any rank has none
no_operand : (r : Rank) (v : Value (operand r)) (ns : List ℕ) → value_numbers (operand r) v ns ≡ ns
no_operand or_rank v ns = refl
no_operand and_rank v ns = refl
no_operand bit_or_rank v ns = refl
no_operand bit_xor_rank v ns = refl
no_operand bit_and_rank v ns = refl
no_operand equal_rank v ns = refl
no_operand relation_rank v ns = refl
no_operand shift_rank v ns = refl
no_operand add_rank v ns = refl
no_operand multiply_rank v ns = refl

each_operand : (r : Rank) (xs : List (Punct × BinOp)) → AllSame (more_operand r) (map (operand_rule r) xs)
each_operand r [] = tt
each_operand r (x ∷ xs) = ((λ start vs ns. no_operand r vs.1.0 ns), each_operand r xs)

each_assignment : (xs : List (Punct × Option BinOp)) → AllSame g.assignment_operator (map assignment_rule xs)
each_assignment [] = tt
each_assignment (x ∷ xs) = ((λ start vs ns. refl), each_assignment xs)

each_unary : (xs : List (Punct × UnOp)) → AllSame g.unary_operator (map unary_rule xs)
each_unary [] = tt
each_unary (x ∷ xs) = ((λ start vs ns. refl), each_unary xs)

external_is : (start : Start) (b : BaseData) (tail : Option (ℕ × Text × BehindName)) (ns : List ℕ) → tail_numbers tail ns ≡ top_numbers (external_top start b tail) ns
external_is start b None ns = refl
external_is start b (Some (n, x, function params body)) ns = refl
external_is start b (Some (n, x, object lengths init others)) ns = refl

else_is : (start : Start) (e : _) (s : OpenStatement) (o : Option OpenStatement) (ns : List ℕ) → stmt_numbers s.statement (other_numbers o ns) ≡ stmt_numbers (with_else start e s o).statement ns
else_is start e s None ns = refl
else_is start e s (Some other) ns = refl

loop_is : (start : Start) (first : ForStart) (condition step : _) (s : OpenStatement) (ns : List ℕ) → stmt_numbers s.statement ns ≡ stmt_numbers (for_loop start first condition step s).statement ns
loop_is start (for_expression e) condition step s ns = refl
loop_is start (for_declaration d) condition step s ns = refl

all_same : (s : Sym) → AllSame s (productions s)
all_same g.unit = ((λ b x ns. refl), tt)
all_same g.items = ((λ b x ns. refl), ((λ b x ns. refl), tt))
all_same g.item = ((λ b x ns. refl), ((λ b x ns. refl), ((λ b x ns. refl), ((λ b x ns. refl), ((λ b x ns. external_is b x.0.base x.0.tail ns), ((λ b x ns. external_is b x.1.0.base x.1.0.tail ns), tt))))))
all_same g.external = ((λ b x ns. refl), tt)
all_same g.external_tail = ((λ b x ns. refl), ((λ b x ns. refl), tt))
all_same g.behind_name = ((λ b x ns. refl), ((λ b x ns. refl), tt))
all_same g.body = ((λ b x ns. refl), ((λ b x ns. refl), tt))
all_same g.parameter_part = ((λ b x ns. refl), tt)
all_same g.parameters = ((λ b x ns. refl), ((λ b x ns. refl), tt))
all_same g.more_parameters = ((λ b x ns. refl), ((λ b x ns. refl), tt))
all_same g.parameter = ((λ b x ns. refl), tt)
all_same g.parameter_name = ((λ b x ns. refl), ((λ b x ns. refl), tt))
all_same g.specifiers = ((λ b x ns. refl), tt)
all_same g.base = ((λ b x ns. refl), ((λ b x ns. refl), ((λ b x ns. refl), tt)))
all_same g.more_words = ((λ b x ns. refl), ((λ b x ns. refl), ((λ b x ns. refl), tt)))
all_same g.constants = ((λ b x ns. refl), ((λ b x ns. refl), tt))
all_same g.tag_or_members = ((λ b x ns. refl), ((λ b x ns. refl), tt))
all_same g.members_option = ((λ b x ns. refl), ((λ b x ns. refl), tt))
all_same g.members = ((λ b x ns. refl), tt)
all_same g.more_members = ((λ b x ns. refl), ((λ b x ns. refl), tt))
all_same g.member_declaration = ((λ b x ns. refl), tt)
all_same g.stars = ((λ b x ns. refl), ((λ b x ns. refl), tt))
all_same g.declarator_part = ((λ b x ns. refl), tt)
all_same g.declarators_option = ((λ b x ns. refl), ((λ b x ns. refl), tt))
all_same g.more_declarators = ((λ b x ns. refl), ((λ b x ns. refl), tt))
all_same g.lengths = ((λ b x ns. refl), ((λ b x ns. refl), tt))
all_same g.length_part = ((λ b x ns. refl), tt)
all_same g.length_option = ((λ b x ns. refl), ((λ b x ns. refl), tt))
all_same g.initializer_option = ((λ b x ns. refl), ((λ b x ns. refl), tt))
all_same g.initializer = ((λ b x ns. refl), ((λ b x ns. refl), tt))
all_same g.initializer_list = ((λ b x ns. refl), tt)
all_same g.more_initializers = ((λ b x ns. refl), ((λ b x ns. refl), ((λ b x ns. refl), tt)))
all_same g.block = ((λ b x ns. refl), tt)
all_same g.block_items = ((λ b x ns. refl), ((λ b x ns. refl), tt))
all_same g.block_item = ((λ b x ns. refl), ((λ b x ns. refl), ((λ b x ns. refl), ((λ b x ns. refl), tt))))
all_same g.declaration = ((λ b x ns. refl), tt)
all_same g.statement = (
  (λ b x ns. refl),
  (
    (λ b x ns. refl),
    (
      (λ b x ns. refl),
      (
        (λ b x ns. refl),
        (
          (λ b x ns. refl),
          (
            (λ b x ns. refl),
            (
              (λ b x ns. else_is b x.1.0 x.1.1.0 x.1.1.1.0 ns),
              (
                (λ b x ns. refl),
                (
                  (λ b x ns. refl),
                  (
                    (λ b x ns. loop_is b x.1.0.first x.1.0.condition x.1.0.step x.1.1.0 ns),
                    ((λ b x ns. refl), ((λ b x ns. refl), ((λ b x ns. refl), ((λ b x ns. refl), tt)))),
                  ),
                ),
              ),
            ),
          ),
        ),
      ),
    ),
  ),
)
all_same g.else_option = ((λ b x ns. refl), ((λ b x ns. refl), tt))
all_same g.for_head = ((λ b x ns. refl), tt)
all_same g.for_start = ((λ b x ns. refl), ((λ b x ns. refl), tt))
all_same g.expression_option = ((λ b x ns. refl), ((λ b x ns. refl), tt))
all_same g.parenthesized = ((λ b x ns. refl), tt)
all_same g.assignment = ((λ b x ns. refl), tt)
all_same g.assignment_option = ((λ b x ns. refl), ((λ b x ns. refl), tt))
all_same g.assignment_operator = each_assignment assignments
all_same (operators r) = ((λ b x ns. no_operand r x.0 ns), tt)
all_same (more_operands r) = ((λ b x ns. refl), ((λ b x ns. refl), tt))
all_same (more_operand r) = each_operand r (rank_operators r)
all_same g.cast_part = ((λ b x ns. refl), ((λ b x ns. refl), tt))
all_same g.type_in_parentheses = ((λ b x ns. refl), tt)
all_same g.type_name = ((λ b x ns. refl), tt)
all_same g.unary_part = ((λ b x ns. refl), ((λ b x ns. refl), ((λ b x ns. refl), ((λ b x ns. refl), ((λ b x ns. refl), tt)))))
all_same g.unary_operator = each_unary unary_operators
all_same g.size_operand = ((λ b x ns. refl), ((λ b x ns. refl), tt))
all_same g.postfix = ((λ b x ns. refl), tt)
all_same g.postfix_parts = ((λ b x ns. refl), ((λ b x ns. refl), tt))
all_same g.postfix_part = ((λ b x ns. refl), ((λ b x ns. refl), ((λ b x ns. refl), ((λ b x ns. refl), ((λ b x ns. refl), ((λ b x ns. refl), tt))))))
all_same g.index_part = ((λ b x ns. refl), tt)
all_same g.argument_part = ((λ b x ns. refl), tt)
all_same g.arguments = ((λ b x ns. refl), ((λ b x ns. refl), tt))
all_same g.more_arguments = ((λ b x ns. refl), ((λ b x ns. refl), tt))
all_same g.primary = ((λ b x ns. refl), ((λ b x ns. refl), ((λ b x ns. refl), ((λ b x ns. refl), ((λ b x ns. refl), tt)))))

-- ---- trees

abbrev token_numbers : List TokenData → List ℕ → List ℕ
token_numbers [] ns = ns
token_numbers (t ∷ ts) ns = tok_numbers t.tok (token_numbers ts ns)

placed_same : (section : Bool) (ts : List TokenData) (ns : List ℕ) → placed_numbers (placed_from section ts) ns ≡ token_numbers ts ns
placed_same section [] ns = refl
placed_same section (t ∷ ts) ns = ap (tok_numbers t.tok) (placed_same (section_behind section t.tok) ts ns)

tree_numbers : (ts : List TokenData) (u : UnitData) → TreeOrStop ts (Ok u) → token_numbers ts [] ≡ tops_numbers u.tops []
tree_numbers ts u (tree v d) =
    sym (placed_same false ts []) ∙ holds Numbers limits (λ s. all_keep s (productions s) (all_same s)) d.0 limits.nesting no_counts g.unit (placed ts) v d.1 d.2 []

-- ---- parts of pieces

abbrev part_numbers : Result TokData FaultKind → List ℕ → List ℕ
part_numbers (Ok k) ns = tok_numbers k ns
part_numbers (Err kind) ns = ns

abbrev parts_numbers : List Part → List ℕ → List ℕ
parts_numbers [] ns = ns
parts_numbers (p ∷ parts) ns = part_numbers p.tok (parts_numbers parts ns)

parts_both : (parts others : List Part) (ns : List ℕ) → parts_numbers (parts ++ others) ns ≡ parts_numbers parts (parts_numbers others ns)
parts_both [] others ns = refl
parts_both (p ∷ parts) others ns = ap (part_numbers p.tok) (parts_both parts others ns)

no_token : (line : ℕ) (class : Class) (text : Text) (ns : List ℕ) → parts_numbers (part_at line (token_of class text)) ns ≡ ns
no_token line word text ns = go (is_left_out_word text)
  where
    go : (b : Bool) → parts_numbers (part_at line (Some (if b then Err F9 else Ok (TokData.word_token text)))) ns ≡ ns
    go true = refl
    go false = refl
no_token line number text ns = go (integer_constant text)
  where
    go : (o : Option (ℕ × Arith)) → parts_numbers (part_at line (Some (integer_tok o))) ns ≡ ns
    go None = refl
    go (Some p) = refl
no_token line character text ns = go (character_value text)
  where
    go : (o : _) → parts_numbers (part_at line (Some (character_tok o))) ns ≡ ns
    go None = refl
    go (Some p) = refl
no_token line string text ns = go (string_value text)
  where
    go : (o : Option Text) → parts_numbers (part_at line (Some (string_tok o))) ns ≡ ns
    go None = refl
    go (Some p) = refl
no_token line (punct p) text ns = refl
no_token line left_out text ns = refl
no_token line comment text ns = refl

no_item : (line : ℕ) (fresh : Bool) (u rest : Text) (k : Option (Result TokData FaultKind)) (step : Step) → Item false fresh u rest k step → (ns : List ℕ) → parts_numbers (part_at line k) ns ≡ ns
no_item line fresh u rest k step (blank f t r l b) ns = refl
no_item line fresh u rest k step (match f t r class j long e) ns = ap (λ o. parts_numbers (part_at line o) ns) e ∙ no_token line class u ns
no_item line fresh u rest k step (include f t r e l) ns = refl
no_item line fresh u rest k step (directive f t l r e w a b) ns = refl
no_item line fresh u rest k step (last_directive f t r e w a b) ns = refl

no_statements : (line : ℕ) (fresh : Bool) (text : Text) (parts : List Part) (last : ℕ) → CParts false line fresh text parts last → (ns : List ℕ) → parts_numbers parts ns ≡ ns
no_statements line fresh text parts last (end l f) ns = refl
no_statements line fresh text parts last (item l f t u rest k step ps others e a i are h) ns =
    ap (λ x. parts_numbers x ns) h ∙ parts_both (part_at line k) others ns ∙ ap (parts_numbers (part_at line k)) (no_statements _ _ _ _ _ are ns) ∙ no_item line fresh u rest k step i ns
no_statements line fresh text parts last (bad l f t ps e n h) ns = ap (λ x. parts_numbers x ns) h

-- the number of a statement, if the piece is one
abbrev one_if : Bool → ℕ → List ℕ → List ℕ
one_if true n ns = n ∷ ns
one_if false n ns = ns

no_fault : (o : Option ℕ) (ns : List ℕ) → parts_numbers (fault_at o F4) ns ≡ ns
no_fault None ns = refl
no_fault (Some line) ns = refl

wrapped : (line last : ℕ) (inner : List Part) (ns : List ℕ) → ((ns : List ℕ) → parts_numbers inner ns ≡ ns)
    → parts_numbers (record { line = line; tok = Ok section_start } ∷ inner ++ record { line = last; tok = Ok section_end } ∷ []) ns ≡ ns
wrapped line last inner ns e = parts_both inner (record { line = last; tok = Ok section_end } ∷ []) ns ∙ e ns

piece_numbers : (line : ℕ) (fresh : Bool) (n : ℕ) (p : Piece) (parts : List Part) (last : ℕ) → PieceParts false line fresh n p parts last → (ns : List ℕ) → parts_numbers parts ns ≡ one_if (is_statement p.kind) n ns
piece_numbers line fresh n p parts last (c_text ps l kind are) ns = no_statements _ _ _ _ _ are ns ∙ sym (ap (λ k. one_if (is_statement k) n ns) kind)
piece_numbers line fresh n p parts last (statement units ps l kind w are e f) ns = ap (λ x. parts_numbers x ns) e ∙ ap (λ x. n ∷ x) (no_fault _ ns) ∙ sym (ap (λ k. one_if (is_statement k) n ns) kind)
piece_numbers line fresh n p parts last (opening ps l kind w e f) ns = ap (λ x. parts_numbers x ns) e ∙ sym (ap (λ k. one_if (is_statement k) n ns) kind)
piece_numbers line fresh n p parts last (closing ps l kind w e f) ns = ap (λ x. parts_numbers x ns) e ∙ sym (ap (λ k. one_if (is_statement k) n ns) kind)
piece_numbers line fresh n p parts last (declaration found ps inner l kind w are e) ns =
    ap (λ x. parts_numbers x ns) e ∙ wrapped line last inner ns (no_statements _ _ _ _ _ are) ∙ sym (ap (λ k. one_if (is_statement k) n ns) kind)
piece_numbers line fresh n p parts last (embedded ps l kind w e f) ns = absurd (cc (w))

more_numbers : (k : PieceKind) (n m : ℕ) → one_if (is_statement k) n (numbers_from (statements_behind n k) m) ≡ numbers_from n (elim (is_statement k) as (λ _. ℕ) [ true ↦ suc m | false ↦ m ])
more_numbers Emb n m = refl
more_numbers _ n m = refl

all_numbers : (line : ℕ) (fresh : Bool) (n : ℕ) (pieces : List Piece) (parts : List Part) (last : ℕ) → AllParts false line fresh n pieces parts last → parts_numbers parts [] ≡ numbers_from n (statement_count pieces)
all_numbers line fresh n [] parts last are = ap (λ x. parts_numbers x []) are.0
all_numbers line fresh n (p ∷ ps) parts last are =
    ap (λ x. parts_numbers x []) are.3 ∙ parts_both are.0 are.1 [] ∙ ap (parts_numbers are.0) (all_numbers are.2 (is_fresh_after fresh p.bytes) (statements_behind n p.kind) ps are.1 last are.5)
    ∙ piece_numbers line fresh n p are.0 are.2 are.4 _ ∙ more_numbers p.kind n (statement_count ps)

-- ---- joined strings

two_join : (p q : Part) (parts : List Part) (a b : Result TokData FaultKind) (ns : List ℕ) → p.tok ≡ a → q.tok ≡ b → parts_numbers (join_two p a q b parts) ns ≡ part_numbers a (part_numbers b (parts_numbers parts ns))
two_join p q parts (Ok (string_token s)) (Ok (string_token t)) ns e f = refl
two_join p q parts a b ns e f = λ i. part_numbers (e i) (part_numbers (f i) (parts_numbers parts ns))

first_joins : (p : Part) (parts : List Part) (ns : List ℕ) → parts_numbers (join_first p parts) ns ≡ part_numbers p.tok (parts_numbers parts ns)
first_joins p [] ns = refl
first_joins p (q ∷ parts) ns = two_join p q parts p.tok q.tok ns refl refl

all_join : (parts : List Part) (ns : List ℕ) → parts_numbers (join_strings parts) ns ≡ parts_numbers parts ns
all_join [] ns = refl
all_join (p ∷ parts) ns = first_joins p (join_strings parts) ns ∙ ap (part_numbers p.tok) (all_join parts ns)

no_head : (parts : List Part) → without_head false parts ≡ parts
no_head [] = refl
no_head (p ∷ []) = refl
no_head (p ∷ q ∷ parts) = refl

-- ---- tokens

rest_ok : (t : TokenData) (r : Result (List TokenData) Stop) (ts : List TokenData) → with_token t r ≡ Ok ts → (us : List TokenData) × (r ≡ Ok us) × (ts ≡ t ∷ us)
rest_ok t (Ok us) ts e = let same : t ∷ us ≡ ts = cc in (us, refl, sym same)
rest_ok t (Err stop) ts e = absurd (cc)

numbered_same : (most : Option ℕ) (place last : ℕ) (parts : List Part) (ts : List TokenData) → numbered_within most place last parts ≡ Ok ts → token_numbers ts [] ≡ parts_numbers parts []
numbered_same most place last [] ts e = let same : token TokData.end_token last place ∷ [] ≡ ts = cc in sym (ap (λ x. token_numbers x []) same)
numbered_same most place last (p ∷ parts) ts e = on p.tok e (numbered_same most (suc place) last parts)
  where
    on : (k : Result TokData FaultKind) → part_within most place p.line k (numbered_within most (suc place) last parts) ≡ Ok ts
        → ((us : List TokenData) → numbered_within most (suc place) last parts ≡ Ok us → token_numbers us [] ≡ parts_numbers parts [])
        → token_numbers ts [] ≡ part_numbers k (parts_numbers parts [])
    on (Err kind) e ih = absurd (cc)
    on (Ok k) e ih = test (is_full most place) e
      where
        test : (full : Bool) → (if full then Err (Limit L2) else with_token (token k p.line place) (numbered_within most (suc place) last parts)) ≡ Ok ts → token_numbers ts [] ≡ tok_numbers k (parts_numbers parts [])
        test true e = absurd (cc)
        test false e =
            let r = rest_ok (token k p.line place) (numbered_within most (suc place) last parts) ts e in
            ap (λ x. token_numbers x []) r.2 ∙ ap (tok_numbers k) (ih r.0 r.1)

tokens_numbers : (pieces : List Piece) (ts : List TokenData) → Tokens false pieces ts → token_numbers ts [] ≡ numbers_from 0 (statement_count pieces)
tokens_numbers pieces ts are =
    numbered_same (Some max_tokens) 0 are.1 (without_head false (join_strings are.0)) ts (sym are.3) ∙ ap (λ x. parts_numbers x []) (no_head (join_strings are.0)) ∙ all_join are.0 [] ∙ all_numbers 1 true 0 pieces are.0 are.1 are.2

-- ---- statements

abbrev count_of : Result (List EmbData) Stop → ℕ → Type 0
count_of (Ok es) n = length es ≡ n
count_of (Err stop) n = Unit {0}

statements_count : (ps : List Piece) (ns : List ℕ) (a : Result (List EmbData) Stop) → ReadsStatements ps ns a → count_of a (statement_count ps)
statements_count [] ns a (source.end ms) = refl
statements_count (p ∷ ps) ns a (source.other q qs ms b k r) = subst (count_of a) (sym (count_other (is_statement p.kind) k)) (statements_count ps ns a r)
  where
    count_other : (b : Bool) → b ≡ false → (elim b as (λ _. ℕ) [ true ↦ suc (statement_count ps) | false ↦ statement_count ps ]) ≡ statement_count ps
    count_other b e = ap (λ b. elim b as (λ _. ℕ) [ true ↦ suc (statement_count ps) | false ↦ statement_count ps ]) e
statements_count (p ∷ ps) (n ∷ ns) a (source.stops q qs m ms stop k s) = tt
statements_count (p ∷ ps) (n ∷ ns) a (source.statement q qs m ms e others b k s r is) = subst (λ x. count_of x (statement_count (p ∷ ps))) (sym is) (go others (statements_count ps ns others r))
  where
    go : (others : Result (List EmbData) Stop) → count_of others (statement_count ps) → count_of (with_statement (Ok e) others) (statement_count (p ∷ ps))
    go (Ok es) j = ap suc j ∙ sym (ap (λ b. elim b as (λ _. ℕ) [ true ↦ suc (statement_count ps) | false ↦ statement_count ps ]) k)
    go (Err stop) j = tt

-- The numbers in the tree are those of all statements.
pub all_stand : (pieces : List Piece) (ts : List TokenData) (u : UnitData) (es : List EmbData) → Tokens false pieces ts → TreeOrStop ts (Ok u) → ReadsStatements pieces (statement_places ts) (Ok es) → tops_numbers u.tops [] ≡ numbers_from 0 (length es)
all_stand pieces ts u es x d r = sym (tree_numbers ts u d) ∙ tokens_numbers pieces ts x ∙ sym (ap (numbers_from 0) (statements_count pieces (statement_places ts) (Ok es) r))
