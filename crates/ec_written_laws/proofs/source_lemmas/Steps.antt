-- What each production keeps, one line for each.
use Rattle.std.proofs.Common.{◌≡◌, Bool, true, false, not, ◌&&◌, ◌||◌, List, [], ◌∷◌, ◌++◌, map, refl, ◌⊎◌, inl, inr, sym, ◌∙◌, Option, None, Ok}
use Rattle.ec_ctypes.specs.declared.text.token.Punct.{Punct}
use Rattle.ec_ctypes.specs.declared.tree.expr.UnOp.{UnOp}
use Rattle.ec_ctypes.specs.declared.tree.expr.BinOp.{BinOp}
use Rattle.ec_ctypes.specs.trees.Stmts.{StmtData, stmt}
use Rattle.ec_ctypes.specs.trees.Tokens.{TokenData}
use Rattle.ec_ctypes.specs.trees.Units.{UnitData}
use Rattle.ec_language.specs.Grammar.{PlacedTokens, no_counts}
use Rattle.ec_language.specs.Productions.{Placed, placed_from, section_behind, placed, Sym, Value, operand, Rank, or_rank, and_rank, bit_or_rank, bit_xor_rank, bit_and_rank, equal_rank, relation_rank, shift_rank, add_rank, multiply_rank, operand_value, operand_rule, rank_operators, operators, more_operands, more_operand, assignments, assignment_rule, unary_operators, unary_rule, productions, OpenStatement}
use Rattle.ec_language.specs.Productions as g
use Rattle.ec_language.specs.Syntax.{limits, TreeOrStop, tree}
use Rattle.ec_language.proofs.Ends.{both}
use Rattle.ec_language.proofs.Heights.{nothing_left}
use Rattle.ec_writing_defs.specs.Shapes.{is_assignable, are_type_words, is_line, is_written_name, is_void_list}
use Rattle.ec_written_laws.specs.source.SourceShape.{is_source_token, are_source_tokens, is_source_expr, are_source_exprs, is_source_base, is_source_member, are_source_members, is_source_dim, are_source_dims, is_source_init, are_some_source_inits, are_source_inits, is_source_initializer, is_source_declarator, are_source_declarators, is_source_decl, is_source_option, is_item_alone, is_source_stmt, is_source_kind, are_source_items, is_source_item, is_source_param, are_source_params, is_source_body, is_source_top, are_source_tops, is_source_shape}
use Rattle.ec_written_laws.proofs.source_lemmas.Derived.{Good, Each, Keeps, holds}
use Rattle.ec_written_laws.proofs.source_lemmas.Parts.{join, alone_is, name_is, type_word_is, integer_is, character_is, string_is, include_is, are_operands, operands_joined, IsSet, set_is, is_postfix, are_postfixes, IsPrimary, postfixes_are, no_bare, named_is, are_some_members, IsMembers, tag_is, members_are, void_gone, IsBehind, IsTail, external_is, IsStatement, IsOther, shut_before, else_is, IsFirst, IsHead, loop_is}

-- What a symbol stands for has the shape of a source.
abbrev pub Shaped : (s : Sym) → PlacedTokens → Value s → Type 0
Shaped g.unit w v = is_source_shape v ≡ true
Shaped g.items w v = are_source_tops v ≡ true
Shaped g.item w v = is_source_top v ≡ true
Shaped g.external w v = (is_source_base v.base ≡ true) × IsTail v.tail
Shaped g.external_tail w v = IsTail v
Shaped g.behind_name w v = IsBehind v
Shaped g.body w v = is_source_body v ≡ true
Shaped g.parameter_part w v = (are_source_params v && not (is_void_list v)) ≡ true
Shaped g.parameters w v = are_source_params v ≡ true
Shaped g.more_parameters w v = are_source_params v ≡ true
Shaped g.parameter w v = is_source_param v ≡ true
Shaped g.parameter_name w v = is_written_name v ≡ true
Shaped g.specifiers w v = is_source_base v ≡ true
Shaped g.base w v = is_source_base v ≡ true
Shaped g.more_words w v = are_type_words v ≡ true
Shaped g.constants w v = Unit {0}
Shaped g.tag_or_members w v = is_source_base v ≡ true
Shaped g.members_option w v = IsMembers v
Shaped g.members w v = are_some_members v ≡ true
Shaped g.more_members w v = are_source_members v ≡ true
Shaped g.member_declaration w v = is_source_member v ≡ true
Shaped g.stars w v = Unit {0}
Shaped g.declarator_part w v = is_source_declarator v ≡ true
Shaped g.declarators_option w v = are_source_declarators v ≡ true
Shaped g.more_declarators w v = are_source_declarators v ≡ true
Shaped g.lengths w v = are_source_dims v ≡ true
Shaped g.length_part w v = is_source_dim v ≡ true
Shaped g.length_option w v = is_source_dim v ≡ true
Shaped g.initializer_option w v = is_source_initializer v ≡ true
Shaped g.initializer w v = is_source_init v ≡ true
Shaped g.initializer_list w v = are_some_source_inits v ≡ true
Shaped g.more_initializers w v = are_source_inits v ≡ true
Shaped g.block w v = are_source_items v ≡ true
Shaped g.block_items w v = are_source_items v ≡ true
Shaped g.block_item w v = is_source_item v ≡ true
Shaped g.declaration w v = is_source_decl v ≡ true
Shaped g.statement w v = IsStatement v
Shaped g.else_option w v = IsOther v × (w ≡ [] → v ≡ None)
Shaped g.for_head w v = IsHead v
Shaped g.for_start w v = IsFirst v
Shaped g.expression_option w v = is_source_option v ≡ true
Shaped g.parenthesized w v = is_source_expr v ≡ true
Shaped g.assignment w v = is_source_expr v ≡ true
Shaped g.assignment_option w v = IsSet v
Shaped g.assignment_operator w v = is_assignable v ≡ true
Shaped (operators r) w v = is_source_expr v ≡ true
Shaped (more_operands r) w v = are_operands v ≡ true
Shaped (more_operand r) w v = is_source_expr v.1 ≡ true
Shaped g.cast_part w v = is_source_expr v ≡ true
Shaped g.type_in_parentheses w v = is_source_base v.0 ≡ true
Shaped g.type_name w v = is_source_base v.0 ≡ true
Shaped g.unary_part w v = is_source_expr v ≡ true
Shaped g.unary_operator w v = Unit {0}
Shaped g.size_operand w v = is_source_expr v ≡ true
Shaped g.postfix w v = is_source_expr v ≡ true
Shaped g.postfix_parts w v = are_postfixes v ≡ true
Shaped g.postfix_part w v = is_postfix v ≡ true
Shaped g.index_part w v = is_source_expr v ≡ true
Shaped g.argument_part w v = are_source_exprs v ≡ true
Shaped g.arguments w v = are_source_exprs v ≡ true
Shaped g.more_arguments w v = are_source_exprs v ≡ true
Shaped g.primary w v = IsPrimary v

-- ---- productions that are one for each operator

operand_is : (r : Rank) (w : PlacedTokens) (v : Value (operand r)) → Shaped (operand r) w v → is_source_expr (operand_value r v) ≡ true
operand_is or_rank w v h = h
operand_is and_rank w v h = h
operand_is bit_or_rank w v h = h
operand_is bit_xor_rank w v h = h
operand_is bit_and_rank w v h = h
operand_is equal_rank w v h = h
operand_is relation_rank w v h = h
operand_is shift_rank w v h = h
operand_is add_rank w v h = h
operand_is multiply_rank w v h = h

each_operand : (r : Rank) (xs : List (Punct × BinOp)) → Each (Keeps Shaped (more_operand r)) (map (operand_rule r) xs)
each_operand r [] = tt
each_operand r (x ∷ xs) = ((λ w vs l h. operand_is r h.4.0 vs.1.0 h.4.3), each_operand r xs)

abbrev all_assignable : List (Punct × Option BinOp) → Bool
all_assignable [] = true
all_assignable (x ∷ xs) = is_assignable x.1 && all_assignable xs

each_assignment : (xs : List (Punct × Option BinOp)) → all_assignable xs ≡ true → Each (Keeps Shaped g.assignment_operator) (map assignment_rule xs)
each_assignment [] e = tt
each_assignment (x ∷ xs) e = let p = both (is_assignable x.1) (all_assignable xs) e in ((λ w vs l h. p.0), each_assignment xs p.1)

each_unary : (xs : List (Punct × UnOp)) → Each (Keeps Shaped g.unary_operator) (map unary_rule xs)
each_unary [] = tt
each_unary (x ∷ xs) = ((λ w vs l h. tt), each_unary xs)

-- ---- `else`

-- behind the last element of a row there is nothing
alone : {A : Type 0} (o : Option A) (w u v : PlacedTokens) → w ≡ u ++ v → (u ≡ [] → o ≡ None) → w ≡ [] → o ≡ None
alone o w u v e f n = f (nothing_left u v (sym e ∙ n)).0

before_else : (s : OpenStatement) (o : Option OpenStatement) (w u v : PlacedTokens) → w ≡ u ++ v → (u ≡ [] → o ≡ None) → (w ≡ []) ⊎ (not s.is_open ≡ true) → (o ≡ None) ⊎ (not s.is_open ≡ true)
before_else s o w u v e f (inl n) = inl (alone o w u v e f n)
before_else s o w u v e f (inr n) = inr n

no_else : (t : Placed) (w u v : PlacedTokens) → w ≡ u ++ v → u ≡ t ∷ [] → w ≡ [] → ⊥
no_else t w u v e f n = let h = (nothing_left u v (sym e ∙ n)).0 in absurd (cc)

-- ---- items of a block

second_is : (a b : Bool) → b ≡ true → (a || b) ≡ true
second_is true b e = refl
second_is false b e = e

as_item : (s : StmtData) → is_source_stmt s ≡ true → is_source_item s ≡ true
as_item (stmt line kind) h = let p = both (is_line line.0) (is_source_kind kind) h in join p.0 (second_is (is_item_alone kind) (is_source_kind kind) p.1)

-- ---- the table

step : (s : Sym) → Each (Keeps Shaped s) (productions s)
step g.unit = ((λ w x l h. h.3), tt)
step g.items = (
  (λ w x l h. refl),
  ((λ w x l h. join h.3 h.4.3), tt),
)
step g.item = (
  (λ w x l h. include_is x.0.token.tok h.3.1 h.3.2),
  (
    (λ w x l h. refl),
    (
      (λ w x l h. refl),
      (
        (λ w x l h. refl),
        (
          (λ w x l h. external_is (g.start_of w) x.0.base x.0.tail (l refl) h.3.0 h.3.1),
          ((λ w x l h. external_is (g.start_of w) x.1.0.base x.1.0.tail (l refl) h.4.3.0 h.4.3.1), tt),
        ),
      ),
    ),
  ),
)
step g.external = ((λ w x l h. (h.3, h.4.3)), tt)
step g.external_tail = (
  (λ w x l h. tt),
  ((λ w x l h. (name_is x.1.0.token.tok h.4.3.1 h.4.3.2, h.4.4.3)), tt),
)
step g.behind_name = (
  (λ w x l h. (h.3, h.4.3)),
  ((λ w x l h. (h.3, h.4.3, h.4.4.3)), tt),
)
step g.body = (
  (λ w x l h. refl),
  ((λ w x l h. h.3), tt),
)
step g.parameter_part = ((λ w x l h. void_gone x.1.0 h.4.3), tt)
step g.parameters = (
  (λ w x l h. refl),
  ((λ w x l h. join h.3 h.4.3), tt),
)
step g.more_parameters = (
  (λ w x l h. refl),
  ((λ w x l h. join h.4.3 h.4.4.3), tt),
)
step g.parameter = ((λ w x l h. join h.3 (join h.4.4.3 h.4.4.4.3)), tt)
step g.parameter_name = (
  (λ w x l h. refl),
  ((λ w x l h. name_is x.0.token.tok h.3.1 h.3.2), tt),
)
step g.specifiers = ((λ w x l h. h.4.3), tt)
step g.base = (
  (λ w x l h. join (type_word_is x.0.token.tok h.3.1) h.4.3),
  (
    (λ w x l h. refl),
    ((λ w x l h. h.4.3), tt),
  ),
)
step g.more_words = (
  (λ w x l h. refl),
  (
    (λ w x l h. h.4.3),
    ((λ w x l h. join (type_word_is x.0.token.tok h.3.1) h.4.3), tt),
  ),
)
step g.constants = (
  (λ w x l h. tt),
  ((λ w x l h. tt), tt),
)
step g.tag_or_members = (
  (λ w x l h. tag_is _ x.1.0 (name_is x.0.token.tok h.3.1 h.3.2) h.4.3),
  ((λ w x l h. members_are x.0 h.3), tt),
)
step g.members_option = (
  (λ w x l h. tt),
  ((λ w x l h. h.3), tt),
)
step g.members = ((λ w x l h. join h.4.3 h.4.4.3), tt)
step g.more_members = (
  (λ w x l h. refl),
  ((λ w x l h. join h.3 h.4.3), tt),
)
step g.member_declaration = ((λ w x l h. join (l refl) (join h.3 (join h.4.3 h.4.4.3))), tt)
step g.stars = (
  (λ w x l h. tt),
  ((λ w x l h. tt), tt),
)
step g.declarator_part = ((λ w x l h. join (name_is x.1.0.token.tok h.4.3.1 h.4.3.2) (join h.4.4.3 h.4.4.4.3)), tt)
step g.declarators_option = (
  (λ w x l h. refl),
  ((λ w x l h. join h.3 h.4.3), tt),
)
step g.more_declarators = (
  (λ w x l h. refl),
  ((λ w x l h. join h.4.3 h.4.4.3), tt),
)
step g.lengths = (
  (λ w x l h. refl),
  ((λ w x l h. join h.3 h.4.3), tt),
)
step g.length_part = ((λ w x l h. h.4.3), tt)
step g.length_option = (
  (λ w x l h. refl),
  ((λ w x l h. h.3), tt),
)
step g.initializer_option = (
  (λ w x l h. refl),
  ((λ w x l h. h.4.3), tt),
)
step g.initializer = (
  (λ w x l h. h.3),
  ((λ w x l h. h.3), tt),
)
step g.initializer_list = ((λ w x l h. join h.4.3 h.4.4.3), tt)
step g.more_initializers = (
  (λ w x l h. refl),
  (
    (λ w x l h. refl),
    ((λ w x l h. join h.4.3 h.4.4.3), tt),
  ),
)
step g.block = ((λ w x l h. h.4.3), tt)
step g.block_items = (
  (λ w x l h. refl),
  ((λ w x l h. join h.3 h.4.3), tt),
)
step g.block_item = (
  (λ w x l h. join (l refl) (alone_is (is_source_decl x.0) _ h.3)),
  (
    (λ w x l h. join (l refl) refl),
    (
      (λ w x l h. join (l refl) refl),
      ((λ w x l h. as_item x.0.statement h.3.shape), tt),
    ),
  ),
)
step g.declaration = ((λ w x l h. join (l refl) (join h.3 h.4.3)), tt)
step g.statement = (
  (λ w x l h. record { shape = join (l refl) refl; shut = λ e. refl }),
  (
    (λ w x l h. record { shape = join (l refl) h.3; shut = λ e. refl }),
    (
      (λ w x l h. record { shape = join (l refl) h.3; shut = λ e. refl }),
      (
        (λ w x l h. record { shape = join (l refl) (join (name_is x.0.token.tok h.3.1 h.3.2) h.4.4.3.shape); shut = h.4.4.3.shut }),
        (
          (λ w x l h. record { shape = join (l refl) refl; shut = λ e. refl }),
          (
            (λ w x l h. record { shape = join (l refl) refl; shut = λ e. refl }),
            (
              (λ w x l h. else_is (g.start_of w) x.1.0 x.1.1.0 x.1.1.1.0 (l refl) h.4.3 h.4.4.3 h.4.4.4.3.0 (shut_before x.1.1.0 x.1.1.1.0 (before_else x.1.1.0 x.1.1.1.0 h.4.4.1 h.4.4.4.0 h.4.4.4.1 h.4.4.4.2 h.4.4.4.3.1 h.4.4.5))),
              (
                (λ w x l h. record { shape = join (l refl) (join h.4.3 h.4.4.3.shape); shut = h.4.4.3.shut }),
                (
                  (λ w x l h. record { shape = join (l refl) (join h.4.3.shape h.4.4.4.3); shut = λ e. refl }),
                  (
                    (λ w x l h. loop_is (g.start_of w) x.1.0.first x.1.0.condition x.1.0.step x.1.1.0 (l refl) h.4.3.0 h.4.3.1 h.4.3.2 h.4.4.3),
                    (
                      (λ w x l h. record { shape = join (l refl) refl; shut = λ e. refl }),
                      (
                        (λ w x l h. record { shape = join (l refl) refl; shut = λ e. refl }),
                        (
                          (λ w x l h. record { shape = join (l refl) h.4.3; shut = λ e. refl }),
                          ((λ w x l h. record { shape = join (l refl) (name_is x.1.0.token.tok h.4.3.1 h.4.3.2); shut = λ e. refl }), tt),
                        ),
                      ),
                    ),
                  ),
                ),
              ),
            ),
          ),
        ),
      ),
    ),
  ),
)
step g.else_option = (
  (λ w x l h. (tt, λ n. refl)),
  ((λ w x l h. (h.4.3, λ n. absurd (no_else x.0 w h.0 h.1 h.2 h.3.0 n))), tt),
)
step g.for_head = ((λ w x l h. (h.4.3, h.4.4.3, h.4.4.4.4.3)), tt)
step g.for_start = (
  (λ w x l h. h.3),
  ((λ w x l h. join (l refl) (join h.3 (join h.4.3 h.4.4.3))), tt),
)
step g.expression_option = (
  (λ w x l h. refl),
  ((λ w x l h. h.3), tt),
)
step g.parenthesized = ((λ w x l h. h.4.3), tt)
step g.assignment = ((λ w x l h. set_is x.0 x.1.0 h.3 h.4.3), tt)
step g.assignment_option = (
  (λ w x l h. tt),
  ((λ w x l h. (h.3, h.4.3)), tt),
)
step g.assignment_operator = each_assignment assignments refl
step (operators r) = ((λ w x l h. operands_joined x.1.0 (operand_value r x.0) (operand_is r h.0 x.0 h.3) h.4.3), tt)
step (more_operands r) = (
  (λ w x l h. refl),
  ((λ w x l h. join h.3 h.4.3), tt),
)
step (more_operand r) = each_operand r (rank_operators r)
step g.cast_part = (
  (λ w x l h. join h.3 h.4.3),
  ((λ w x l h. h.3), tt),
)
step g.type_in_parentheses = ((λ w x l h. h.4.3), tt)
step g.type_name = ((λ w x l h. h.3), tt)
step g.unary_part = (
  (λ w x l h. h.3),
  (
    (λ w x l h. h.4.3),
    (
      (λ w x l h. h.4.3),
      (
        (λ w x l h. h.4.3),
        ((λ w x l h. h.4.3), tt),
      ),
    ),
  ),
)
step g.unary_operator = each_unary unary_operators
step g.size_operand = (
  (λ w x l h. h.3),
  ((λ w x l h. h.3), tt),
)
step g.postfix = ((λ w x l h. postfixes_are x.0 x.1.0 h.3 h.4.3), tt)
step g.postfix_parts = (
  (λ w x l h. refl),
  ((λ w x l h. join h.3 h.4.3), tt),
)
step g.postfix_part = (
  (λ w x l h. h.3),
  (
    (λ w x l h. name_is x.1.0.token.tok h.4.3.1 h.4.3.2),
    (
      (λ w x l h. name_is x.1.0.token.tok h.4.3.1 h.4.3.2),
      (
        (λ w x l h. refl),
        (
          (λ w x l h. refl),
          ((λ w x l h. h.3), tt),
        ),
      ),
    ),
  ),
)
step g.index_part = ((λ w x l h. h.4.3), tt)
step g.argument_part = ((λ w x l h. h.4.3), tt)
step g.arguments = (
  (λ w x l h. refl),
  ((λ w x l h. join h.3 h.4.3), tt),
)
step g.more_arguments = (
  (λ w x l h. refl),
  ((λ w x l h. join h.4.3 h.4.4.3), tt),
)
step g.primary = (
  (λ w x l h. named_is (g.text_of x.0) (name_is x.0.token.tok h.3.1 h.3.2)),
  (
    (λ w x l h. no_bare _ (integer_is x.0.token.tok h.3.1 h.3.2)),
    (
      (λ w x l h. no_bare _ (character_is x.0.token.tok h.3.1 h.3.2)),
      (
        (λ w x l h. no_bare _ (string_is x.0.token.tok h.3.1 h.3.2)),
        ((λ w x l h. no_bare _ h.3), tt),
      ),
    ),
  ),
)

-- ---- programs

placed_good : (section : Bool) (ts : List TokenData) → are_source_tokens ts ≡ true → Good (placed_from section ts)
placed_good section [] h = tt
placed_good section (t ∷ ts) h = let p = both (is_source_token t) (are_source_tokens ts) h in (p.0, placed_good (section_behind section t.tok) ts p.1)

pub derived_shape : (ts : List TokenData) (u : UnitData) → are_source_tokens ts ≡ true → TreeOrStop ts (Ok u) → is_source_shape u ≡ true
derived_shape ts u h (tree v d) = holds Shaped limits step d.0 limits.nesting no_counts g.unit (placed ts) v d.1 d.2 (placed_good false ts h)
