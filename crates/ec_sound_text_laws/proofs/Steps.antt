-- What each production keeps, one line for each.
use Rattle.std.proofs.Common.{◌≡◌, Bool, true, false, List, [], ◌∷◌, map, refl, Option, None, Ok}
use Rattle.ec_ctypes.specs.declared.text.token.Punct.{Punct}
use Rattle.ec_ctypes.specs.declared.tree.expr.UnOp.{UnOp}
use Rattle.ec_ctypes.specs.declared.tree.expr.BinOp.{BinOp}
use Rattle.ec_ctypes.specs.trees.Tokens.{TokenData}
use Rattle.ec_ctypes.specs.trees.Units.{UnitData}
use Rattle.ec_language.specs.Grammar.{PlacedTokens, no_counts}
use Rattle.ec_language.specs.Productions.{placed_from, section_behind, placed, Sym, Value, operand, Rank, or_rank, and_rank, bit_or_rank, bit_xor_rank, bit_and_rank, equal_rank, relation_rank, shift_rank, add_rank, multiply_rank, operand_value, operand_rule, rank_operators, operators, more_operands, more_operand, assignments, assignment_rule, unary_operators, unary_rule, productions}
use Rattle.ec_language.specs.Productions as g
use Rattle.ec_language.specs.Syntax.{limits, TreeOrStop, tree}
use Rattle.ec_language.proofs.Ends.{both}
use Rattle.ec_sound_text_laws.specs.Read.{is_read_tok, are_read_tokens, ReadExpr, ReadExprs, ReadBase, ReadMember, ReadMembers, ReadDim, ReadDims, ReadInit, ReadInits, ReadInitializer, ReadDeclarator, ReadDeclarators, ReadDecl, ReadOption, ReadStmt, ReadStmts, ReadParam, ReadParams, ReadBody, ReadTop, ReadTops}
use Rattle.ec_sound_text_laws.proofs.Derived.{Good, Each, Keeps, holds}
use Rattle.ec_sound_text_laws.proofs.Parts.{integer_is, no_directive, no_executable, no_opening, no_closing, ReadOperands, operands_joined, MayAssign, IsSet, set_is, IsPostfix, ArePostfixes, postfixes_are, named_is, ReadSome, ReadSomeOption, members_are, tag_is, void_gone, ReadBehind, ReadTail, external_is, ReadElse, else_is, ReadFirst, loop_is}

-- What a symbol stands for is as it is read.
abbrev pub Read : (s : Sym) → PlacedTokens → Value s → Type 0
Read g.unit w v = ReadTops v.tops
Read g.items w v = ReadTops v
Read g.item w v = ReadTop v
Read g.external w v = ReadBase v.base × ReadTail v.tail
Read g.external_tail w v = ReadTail v
Read g.behind_name w v = ReadBehind v
Read g.body w v = ReadBody v
Read g.parameter_part w v = ReadParams v
Read g.parameters w v = ReadParams v
Read g.more_parameters w v = ReadParams v
Read g.parameter w v = ReadParam v
Read g.parameter_name w v = Unit {0}
Read g.specifiers w v = ReadBase v
Read g.base w v = ReadBase v
Read g.more_words w v = Unit {0}
Read g.constants w v = Unit {0}
Read g.tag_or_members w v = ReadBase v
Read g.members_option w v = ReadSomeOption v
Read g.members w v = ReadSome v
Read g.more_members w v = ReadMembers v
Read g.member_declaration w v = ReadMember v
Read g.stars w v = Unit {0}
Read g.declarator_part w v = ReadDeclarator v
Read g.declarators_option w v = ReadDeclarators v
Read g.more_declarators w v = ReadDeclarators v
Read g.lengths w v = ReadDims v
Read g.length_part w v = ReadDim v
Read g.length_option w v = ReadDim v
Read g.initializer_option w v = ReadInitializer v
Read g.initializer w v = ReadInit v
Read g.initializer_list w v = ReadInits v
Read g.more_initializers w v = ReadInits v
Read g.block w v = ReadStmts v
Read g.block_items w v = ReadStmts v
Read g.block_item w v = ReadStmt v
Read g.declaration w v = ReadDecl v
Read g.statement w v = ReadStmt v.statement
Read g.else_option w v = ReadElse v
Read g.for_head w v = ReadFirst v.first × ReadOption v.condition × ReadOption v.step
Read g.for_start w v = ReadFirst v
Read g.expression_option w v = ReadOption v
Read g.parenthesized w v = ReadExpr v
Read g.assignment w v = ReadExpr v
Read g.assignment_option w v = IsSet v
Read g.assignment_operator w v = MayAssign v
Read (operators r) w v = ReadExpr v
Read (more_operands r) w v = ReadOperands v
Read (more_operand r) w v = ReadExpr v.1
Read g.cast_part w v = ReadExpr v
Read g.type_in_parentheses w v = ReadBase v.0
Read g.type_name w v = ReadBase v.0
Read g.unary_part w v = ReadExpr v
Read g.unary_operator w v = Unit {0}
Read g.size_operand w v = ReadExpr v
Read g.postfix w v = ReadExpr v
Read g.postfix_parts w v = ArePostfixes v
Read g.postfix_part w v = IsPostfix v
Read g.index_part w v = ReadExpr v
Read g.argument_part w v = ReadExprs v
Read g.arguments w v = ReadExprs v
Read g.more_arguments w v = ReadExprs v
Read g.primary w v = ReadExpr v.expression

-- ---- productions that are one for each operator

operand_is : (r : Rank) (w : PlacedTokens) (v : Value (operand r)) → Read (operand r) w v → ReadExpr (operand_value r v)
operand_is or_rank w v h = h
operand_is and_rank w v h = h
operand_is bit_or_rank w v h = h
operand_is bit_xor_rank w v h = h
operand_is bit_and_rank w v h = h
operand_is equal_rank w v h = h
operand_is relation_rank w v h = h
operand_is shift_rank w v h = h
operand_is add_rank w v h = h
operand_is multiply_rank w v h = h

each_operand : (r : Rank) (xs : List (Punct × BinOp)) → Each (Keeps Read (more_operand r)) (map (operand_rule r) xs)
each_operand r [] = tt
each_operand r (x ∷ xs) = ((λ w vs h. operand_is r h.4.0 vs.1.0 h.4.3), each_operand r xs)

abbrev AllAssign : List (Punct × Option BinOp) → Type 0
AllAssign [] = Unit {0}
AllAssign (x ∷ xs) = MayAssign x.1 × AllAssign xs

all_assign : AllAssign assignments
all_assign = (tt, (refl, (refl, (refl, (refl, (refl, (refl, (refl, (refl, (refl, (refl, tt)))))))))))

each_assignment : (xs : List (Punct × Option BinOp)) → AllAssign xs → Each (Keeps Read g.assignment_operator) (map assignment_rule xs)
each_assignment [] e = tt
each_assignment (x ∷ xs) e = ((λ w vs h. e.0), each_assignment xs e.1)

each_unary : (xs : List (Punct × UnOp)) → Each (Keeps Read g.unary_operator) (map unary_rule xs)
each_unary [] = tt
each_unary (x ∷ xs) = ((λ w vs h. tt), each_unary xs)

-- ---- the table

step : (s : Sym) → Each (Keeps Read s) (productions s)
step g.unit = ((λ w x h. h.3), tt)
step g.items = (
  (λ w x h. tt),
  ((λ w x h. (h.3, h.4.3)), tt),
)
step g.item = (
  (λ w x h. tt),
  (
    (λ w x h. no_directive x.0.token.tok h.3.1 h.3.2),
    (
      (λ w x h. no_opening x.0.token.tok h.3.1 h.3.2),
      (
        (λ w x h. no_closing x.0.token.tok h.3.1 h.3.2),
        (
          (λ w x h. external_is (g.start_of w) x.0.base x.0.tail h.3.0 h.3.1),
          ((λ w x h. external_is (g.start_of w) x.1.0.base x.1.0.tail h.4.3.0 h.4.3.1), tt),
        ),
      ),
    ),
  ),
)
step g.external = ((λ w x h. (h.3, h.4.3)), tt)
step g.external_tail = (
  (λ w x h. tt),
  ((λ w x h. h.4.4.3), tt),
)
step g.behind_name = (
  (λ w x h. (h.3, h.4.3)),
  ((λ w x h. (h.3, h.4.3, h.4.4.3)), tt),
)
step g.body = (
  (λ w x h. tt),
  ((λ w x h. h.3), tt),
)
step g.parameter_part = ((λ w x h. void_gone x.1.0 h.4.3), tt)
step g.parameters = (
  (λ w x h. tt),
  ((λ w x h. (h.3, h.4.3)), tt),
)
step g.more_parameters = (
  (λ w x h. tt),
  ((λ w x h. (h.4.3, h.4.4.3)), tt),
)
step g.parameter = ((λ w x h. (h.3, h.4.4.4.3)), tt)
step g.parameter_name = (
  (λ w x h. tt),
  ((λ w x h. tt), tt),
)
step g.specifiers = ((λ w x h. h.4.3), tt)
step g.base = (
  (λ w x h. tt),
  (
    (λ w x h. tt),
    ((λ w x h. h.4.3), tt),
  ),
)
step g.more_words = (
  (λ w x h. tt),
  (
    (λ w x h. tt),
    ((λ w x h. tt), tt),
  ),
)
step g.constants = (
  (λ w x h. tt),
  ((λ w x h. tt), tt),
)
step g.tag_or_members = (
  (λ w x h. tag_is _ x.1.0 h.4.3),
  ((λ w x h. members_are None x.0 h.3), tt),
)
step g.members_option = (
  (λ w x h. tt),
  ((λ w x h. h.3), tt),
)
step g.members = ((λ w x h. (h.4.3, h.4.4.3)), tt)
step g.more_members = (
  (λ w x h. tt),
  ((λ w x h. (h.3, h.4.3)), tt),
)
step g.member_declaration = ((λ w x h. (h.3, h.4.3, h.4.4.3)), tt)
step g.stars = (
  (λ w x h. tt),
  ((λ w x h. tt), tt),
)
step g.declarator_part = ((λ w x h. (h.4.4.3, h.4.4.4.3)), tt)
step g.declarators_option = (
  (λ w x h. tt),
  ((λ w x h. (h.3, h.4.3)), tt),
)
step g.more_declarators = (
  (λ w x h. tt),
  ((λ w x h. (h.4.3, h.4.4.3)), tt),
)
step g.lengths = (
  (λ w x h. tt),
  ((λ w x h. (h.3, h.4.3)), tt),
)
step g.length_part = ((λ w x h. h.4.3), tt)
step g.length_option = (
  (λ w x h. tt),
  ((λ w x h. h.3), tt),
)
step g.initializer_option = (
  (λ w x h. tt),
  ((λ w x h. h.4.3), tt),
)
step g.initializer = (
  (λ w x h. h.3),
  ((λ w x h. h.3), tt),
)
step g.initializer_list = ((λ w x h. (h.4.3, h.4.4.3)), tt)
step g.more_initializers = (
  (λ w x h. tt),
  (
    (λ w x h. tt),
    ((λ w x h. (h.4.3, h.4.4.3)), tt),
  ),
)
step g.block = ((λ w x h. h.4.3), tt)
step g.block_items = (
  (λ w x h. tt),
  ((λ w x h. (h.3, h.4.3)), tt),
)
step g.block_item = (
  (λ w x h. h.3),
  (
    (λ w x h. no_opening x.0.token.tok h.3.1 h.3.2),
    (
      (λ w x h. no_closing x.0.token.tok h.3.1 h.3.2),
      ((λ w x h. h.3), tt),
    ),
  ),
)
step g.declaration = ((λ w x h. (h.3, h.4.3)), tt)
step g.statement = (
  (λ w x h. tt),
  (
    (λ w x h. h.3),
    (
      (λ w x h. h.3),
      (
        (λ w x h. h.4.4.3),
        (
          (λ w x h. no_executable x.0.token.tok h.3.1 h.3.2),
          (
            (λ w x h. no_directive x.0.token.tok h.3.1 h.3.2),
            (
              (λ w x h. else_is (g.start_of w) x.1.0 x.1.1.0 x.1.1.1.0 h.4.3 h.4.4.3 h.4.4.4.3),
              (
                (λ w x h. (h.4.3, h.4.4.3)),
                (
                  (λ w x h. (h.4.3, h.4.4.4.3)),
                  (
                    (λ w x h. loop_is (g.start_of w) x.1.0.first x.1.0.condition x.1.0.step x.1.1.0 h.4.3.0 h.4.3.1 h.4.3.2 h.4.4.3),
                    (
                      (λ w x h. tt),
                      (
                        (λ w x h. tt),
                        (
                          (λ w x h. h.4.3),
                          ((λ w x h. tt), tt),
                        ),
                      ),
                    ),
                  ),
                ),
              ),
            ),
          ),
        ),
      ),
    ),
  ),
)
step g.else_option = (
  (λ w x h. tt),
  ((λ w x h. h.4.3), tt),
)
step g.for_head = ((λ w x h. (h.4.3, h.4.4.3, h.4.4.4.4.3)), tt)
step g.for_start = (
  (λ w x h. h.3),
  ((λ w x h. (h.3, (h.4.3, h.4.4.3))), tt),
)
step g.expression_option = (
  (λ w x h. tt),
  ((λ w x h. h.3), tt),
)
step g.parenthesized = ((λ w x h. h.4.3), tt)
step g.assignment = ((λ w x h. set_is x.0 x.1.0 h.3 h.4.3), tt)
step g.assignment_option = (
  (λ w x h. tt),
  ((λ w x h. (h.3, h.4.3)), tt),
)
step g.assignment_operator = each_assignment assignments all_assign
step (operators r) = ((λ w x h. operands_joined x.1.0 (operand_value r x.0) (operand_is r h.0 x.0 h.3) h.4.3), tt)
step (more_operands r) = (
  (λ w x h. tt),
  ((λ w x h. (h.3, h.4.3)), tt),
)
step (more_operand r) = each_operand r (rank_operators r)
step g.cast_part = (
  (λ w x h. (h.3, h.4.3)),
  ((λ w x h. h.3), tt),
)
step g.type_in_parentheses = ((λ w x h. h.4.3), tt)
step g.type_name = ((λ w x h. h.3), tt)
step g.unary_part = (
  (λ w x h. h.3),
  (
    (λ w x h. h.4.3),
    (
      (λ w x h. h.4.3),
      (
        (λ w x h. h.4.3),
        ((λ w x h. h.4.3), tt),
      ),
    ),
  ),
)
step g.unary_operator = each_unary unary_operators
step g.size_operand = (
  (λ w x h. h.3),
  ((λ w x h. h.3), tt),
)
step g.postfix = ((λ w x h. postfixes_are x.0 x.1.0 h.3 h.4.3), tt)
step g.postfix_parts = (
  (λ w x h. tt),
  ((λ w x h. (h.3, h.4.3)), tt),
)
step g.postfix_part = (
  (λ w x h. h.3),
  (
    (λ w x h. tt),
    (
      (λ w x h. tt),
      (
        (λ w x h. tt),
        (
          (λ w x h. tt),
          ((λ w x h. h.3), tt),
        ),
      ),
    ),
  ),
)
step g.index_part = ((λ w x h. h.4.3), tt)
step g.argument_part = ((λ w x h. h.4.3), tt)
step g.arguments = (
  (λ w x h. tt),
  ((λ w x h. (h.3, h.4.3)), tt),
)
step g.more_arguments = (
  (λ w x h. tt),
  ((λ w x h. (h.4.3, h.4.4.3)), tt),
)
step g.primary = (
  (λ w x h. named_is (g.text_of x.0)),
  (
    (λ w x h. integer_is x.0.token.tok h.3.1 h.3.2),
    (
      (λ w x h. tt),
      (
        (λ w x h. tt),
        ((λ w x h. h.3), tt),
      ),
    ),
  ),
)

-- ---- programs

placed_good : (section : Bool) (ts : List TokenData) → are_read_tokens ts ≡ true → Good (placed_from section ts)
placed_good section [] h = tt
placed_good section (t ∷ ts) h = let p = both (is_read_tok t.tok) (are_read_tokens ts) h in (p.0, placed_good (section_behind section t.tok) ts p.1)

pub derived_read : (ts : List TokenData) (u : UnitData) → are_read_tokens ts ≡ true → TreeOrStop ts (Ok u) → ReadTops u.tops
derived_read ts u h (tree v d) = holds Read limits step d.0 limits.nesting no_counts g.unit (placed ts) v d.1 d.2 (placed_good false ts h)
