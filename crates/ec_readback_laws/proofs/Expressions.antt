-- Expressions, and the declarations that may stand in them, are derived from what they are written as. All of it stands on one line.
use Rattle.std.proofs.Common.{◌≡◌, ℕ, zero, suc, ◌+◌, ◌-◌, ◌≤◌, Bool, true, false, not, ◌&&◌, List, [], ◌∷◌, ◌++◌, refl, inl, inr, ap, sym, ◌∙◌, subst, arith, lit≤, Option, Some, None, append_assoc}
use Rattle.std.specs.Prelude.{nat_lt, codes, ◌==◌}
use Rattle.std.proofs.lemmas.List.{append-nil}
use Rattle.std.proofs.lemmas.Bool.{false≢true}
use Rattle.std.proofs.lemmas.Bool.Decides.{nat_tests}
use Rattle.ec_base.specs.declared.line.Line.{Line}
use Rattle.ec_ctypes.specs.declared.text.token.Punct.{Punct}
use Rattle.ec_ctypes.specs.declared.text.token.Punct.TheVariants as p
use Rattle.ec_ctypes.specs.declared.tree.expr.UnOp.{UnOp}
use Rattle.ec_ctypes.specs.declared.tree.expr.UnOp.TheVariants as un
use Rattle.ec_ctypes.specs.declared.tree.expr.BinOp.{BinOp}
use Rattle.ec_ctypes.specs.declared.tree.expr.BinOp.TheVariants as bin
use Rattle.ec_ctypes.specs.trees.Exprs.{ExprData, integer, character, string, identifier, unary, binary, assign, bump, call, call_other, index, member, arrow, cast, size_type, size_expr, ExprList, no_exprs, exprs, BaseData, words, varchar, tagged, struct_base, DimData, open_dim, dim, DimList, no_dims, dims, InitData, one, many, InitList, no_inits, inits, InitOption, no_init, some_init, DeclaratorData, declarator, DeclaratorList, no_declarators, declarators, DeclData, decl, DeclList, no_decls, decls}
use Rattle.ec_ctypes.specs.trees.Tokens.{word_token, integer_token, character_token, string_token, punct_token}
use Rattle.ec_language.specs.Letters.{Text, is_among, same_text, same_word}
use Rattle.ec_language.specs.Keywords.{type_words, is_name}
use Rattle.ec_language.specs.CText.{is_word}
use Rattle.ec_language.specs.Tokens.{is_left_out_word}
use Rattle.ec_language.specs.Productions.{Rank, or_rank, and_rank, bit_or_rank, bit_xor_rank, bit_and_rank, equal_rank, relation_rank, shift_rank, add_rank, multiply_rank, same_punct, is, Start, Value, Primary, productions, operand, operand_value, operand_rule, assignment_rule, unary_rule, area_member, named, at_index, at_member, at_arrow, bumped, called}
use Rattle.ec_language.specs.Productions as g
use Rattle.ec_language.proofs.Ends.{both}
use Rattle.ec_language.proofs.Classes.{neither, turn_not}
use Rattle.ec_writing_defs.specs.Chunks.{the, blank, Chunks}
use Rattle.ec_writing_defs.specs.Expressions.{Level, assigning, ranked, casting, prefixed, postfixed, height, tighter, rank_of, bump_level, level, binary_mark, assign_mark, unary_mark, mark, word, in_parens, at_place, before_dot, more_word_chunks, star_chunks, stars_behind, bumped_chunks, expr_chunks, list_chunks, more_chunks, base_chunks, members_chunks, type_chunks, dim_chunks, dims_chunks, init_chunks, inits_chunks, more_inits_chunks, initializer_chunks, declarator_chunks, more_declarators_chunks, declarators_chunks, decl_chunks}
use Rattle.ec_writing_defs.specs.Shapes.{is_no_name, is_plain_name, is_area_word, is_free_name, is_tag, is_tag_option, is_assignable, are_type_words, is_written_expr, are_written_exprs, is_written_base, are_written_members, is_written_member, is_written_dim, are_written_dims, is_written_init, are_some_inits, are_written_inits, is_written_initializer, is_written_declarator, are_written_declarators}
use Rattle.ec_readback_laws.proofs.Derivations.{On, done, token, counts, gap, part, inner, full, its_own, last_part, last_inner, last_full, Among, here, next, made, made_on, same_chunks, same_tree}
use Rattle.ec_readback_laws.proofs.Lists.{one_more_operand, one_more_part}
use Rattle.ec_readback_laws.proofs.Starts.{begins_token, base_token, starts_at}

pub off : (b : Bool) → not b ≡ true → b ≡ false
off true h = absurd (false≢true h)
off false h = refl

pub line_is_here : (a b : ℕ) → (a == b) ≡ true → a ≡ b
line_is_here a b h = grind (arith, nat_tests)

module _ (n : ℕ) where
  -- ---- marks

  own_mark : (m : Punct) → same_punct m m ≡ true
  own_mark p.Arrow = refl
  own_mark _ = refl

  -- ---- levels

  abbrev pub ExprAt : Level → Chunks → ExprData → Type 0
  ExprAt assigning cs e = On n g.assignment cs e
  ExprAt (ranked r) cs e = On n (g.operators r) cs e
  ExprAt casting cs e = On n g.cast_part cs e
  ExprAt prefixed cs e = On n g.unary_part cs e
  ExprAt postfixed cs e = On n g.postfix cs e

  abbrev level_at : ℕ → Level
  level_at zero = assigning
  level_at (suc zero) = ranked or_rank
  level_at (suc (suc zero)) = ranked and_rank
  level_at (suc (suc (suc zero))) = ranked bit_or_rank
  level_at (suc (suc (suc (suc zero)))) = ranked bit_xor_rank
  level_at (suc (suc (suc (suc (suc zero))))) = ranked bit_and_rank
  level_at (suc (suc (suc (suc (suc (suc zero)))))) = ranked equal_rank
  level_at (suc (suc (suc (suc (suc (suc (suc zero))))))) = ranked relation_rank
  level_at (suc (suc (suc (suc (suc (suc (suc (suc zero)))))))) = ranked shift_rank
  level_at (suc (suc (suc (suc (suc (suc (suc (suc (suc zero))))))))) = ranked add_rank
  level_at (suc (suc (suc (suc (suc (suc (suc (suc (suc (suc zero)))))))))) = ranked multiply_rank
  level_at (suc (suc (suc (suc (suc (suc (suc (suc (suc (suc (suc zero))))))))))) = casting
  level_at (suc (suc (suc (suc (suc (suc (suc (suc (suc (suc (suc (suc zero)))))))))))) = prefixed
  level_at (suc (suc (suc (suc (suc (suc (suc (suc (suc (suc (suc (suc (suc n))))))))))))) = postfixed

  at_height : (l : Level) → level_at (height l) ≡ l
  at_height assigning = refl
  at_height (ranked or_rank) = refl
  at_height (ranked and_rank) = refl
  at_height (ranked bit_or_rank) = refl
  at_height (ranked bit_xor_rank) = refl
  at_height (ranked bit_and_rank) = refl
  at_height (ranked equal_rank) = refl
  at_height (ranked relation_rank) = refl
  at_height (ranked shift_rank) = refl
  at_height (ranked add_rank) = refl
  at_height (ranked multiply_rank) = refl
  at_height casting = refl
  at_height prefixed = refl
  at_height postfixed = refl

  -- an operand of a rank, at its level
  tight : (r : Rank) (cs : Chunks) (e : ExprData) → ExprAt (tighter r) cs e → (v : Value (operand r)) × (operand_value r v ≡ e) × On n (operand r) cs v
  tight or_rank cs e d = (e, refl, d)
  tight and_rank cs e d = (e, refl, d)
  tight bit_or_rank cs e d = (e, refl, d)
  tight bit_xor_rank cs e d = (e, refl, d)
  tight bit_and_rank cs e d = (e, refl, d)
  tight equal_rank cs e d = (e, refl, d)
  tight relation_rank cs e d = (e, refl, d)
  tight shift_rank cs e d = (e, refl, d)
  tight add_rank cs e d = (e, refl, d)
  tight multiply_rank cs e d = (e, refl, d)

  no_more_operands : (r : Rank) → On n (g.more_operands r) [] []
  no_more_operands r = made _ here done (λ at. refl)

  as_rank : (r : Rank) (cs : Chunks) (v : Value (operand r)) → On n (operand r) cs v → On n (g.operators r) cs (operand_value r v)
  as_rank r cs v d = same_chunks (cs ++ []) cs (append-nil cs) (made _ here (part d refl (part (no_more_operands r) refl done)) (λ at. refl))

  from_operand : (r : Rank) (cs : Chunks) (e : ExprData) → ExprAt (tighter r) cs e → On n (g.operators r) cs e
  from_operand r cs e d = let t = tight r cs e d in same_tree (operand_value r t.0) e t.1 (as_rank r cs t.0 t.2)

  -- one level looser
  step : (k : ℕ) (cs : Chunks) (e : ExprData) → ExprAt (level_at (suc k)) cs e → ExprAt (level_at k) cs e
  step zero cs e d = same_chunks (cs ++ []) cs (append-nil cs) (made _ here (part d refl (part (made _ here done (λ at. refl)) refl done)) (λ at. refl))
  step (suc zero) cs e d = from_operand or_rank cs e d
  step (suc (suc zero)) cs e d = from_operand and_rank cs e d
  step (suc (suc (suc zero))) cs e d = from_operand bit_or_rank cs e d
  step (suc (suc (suc (suc zero)))) cs e d = from_operand bit_xor_rank cs e d
  step (suc (suc (suc (suc (suc zero))))) cs e d = from_operand bit_and_rank cs e d
  step (suc (suc (suc (suc (suc (suc zero)))))) cs e d = from_operand equal_rank cs e d
  step (suc (suc (suc (suc (suc (suc (suc zero))))))) cs e d = from_operand relation_rank cs e d
  step (suc (suc (suc (suc (suc (suc (suc (suc zero)))))))) cs e d = from_operand shift_rank cs e d
  step (suc (suc (suc (suc (suc (suc (suc (suc (suc zero))))))))) cs e d = from_operand add_rank cs e d
  step (suc (suc (suc (suc (suc (suc (suc (suc (suc (suc zero)))))))))) cs e d = from_operand multiply_rank cs e d
  step (suc (suc (suc (suc (suc (suc (suc (suc (suc (suc (suc zero))))))))))) cs e d = made _ (next here) (last_part d) (λ at. refl)
  step (suc (suc (suc (suc (suc (suc (suc (suc (suc (suc (suc (suc zero)))))))))))) cs e d = made _ here (last_part d) (λ at. refl)
  step (suc (suc (suc (suc (suc (suc (suc (suc (suc (suc (suc (suc (suc n))))))))))))) cs e d = d

  lift : (n k : ℕ) (cs : Chunks) (e : ExprData) → ExprAt (level_at (n + k)) cs e → ExprAt (level_at k) cs e
  lift zero k cs e d = let same : zero + k ≡ k = omega arith in subst (λ j. ExprAt (level_at j) cs e) same d
  lift (suc n) k cs e d = let same : suc n + k ≡ suc (n + k) = omega arith in lift n k cs e (step (n + k) cs e (subst (λ j. ExprAt (level_at j) cs e) same d))

  pub lifted : (l m : Level) (cs : Chunks) (e : ExprData) → height m ≤ height l → ExprAt l cs e → ExprAt m cs e
  lifted l m cs e le d =
      let same : height l ≡ (height l - height m) + height m = omega arith in
      subst (λ j. ExprAt j cs e) (at_height m) (lift (height l - height m) (height m) cs e (subst (λ j. ExprAt (level_at j) cs e) same (subst (λ j. ExprAt j cs e) (sym (at_height l)) d)))

  -- ---- places

  pub as_whole : (l : Level) (cs : Chunks) (e : ExprData) → ExprAt l cs e → On n g.assignment cs e
  as_whole l cs e d = lifted l assigning cs e (omega arith) d

  no_more_parts : On n g.postfix_parts [] []
  no_more_parts = made _ here done (λ at. refl)

  pub parenthesized : (cs : Chunks) (e : ExprData) → On n g.assignment cs e → On n g.parenthesized (in_parens cs) e
  parenthesized cs e d = made _ here (token (punct_token p.LeftParen) refl (λ at. refl) (full d refl (token (punct_token p.RightParen) refl (λ at. refl) done))) (λ at. refl)

  bare : (cs : Chunks) (e : ExprData) (b : Bool) → On n g.primary cs (record { expression = e; is_name = b }) → On n g.postfix cs e
  bare cs e b d = same_chunks (cs ++ []) cs (append-nil cs) (made _ here (part d refl (part no_more_parts refl done)) (λ at. refl))

  pub in_parentheses : (cs : Chunks) (e : ExprData) → On n g.assignment cs e → On n g.postfix (in_parens cs) e
  in_parentheses cs e d = bare (in_parens cs) e false (made _ (next (next (next (next here)))) (last_inner (parenthesized cs e d)) (λ at. refl))

  pub placed : (m : Level) (e : ExprData) (cs : Chunks) → ExprAt (level e) cs e → ExprAt m (at_place m e cs) e
  placed m e cs d = go (nat_lt (height (level e)) (height m)) refl
    where
      go : (t : Bool) → nat_lt (height (level e)) (height m) ≡ t → ExprAt m (elim t [ true ↦ in_parens cs | false ↦ cs ]) e
      go true h = lifted postfixed m (in_parens cs) e (most m) (in_parentheses cs e (as_whole (level e) cs e d))
        where
          most : (m : Level) → height m ≤ height postfixed
          most (ranked r) = rank_most r
            where
              rank_most : (r : Rank) → height (ranked r) ≤ 13
              rank_most or_rank = lit≤ tt
              rank_most _ = lit≤ tt
          most _ = lit≤ tt
      go false h = lifted (level e) m cs e (grind (arith, nat_tests)) d

  pub dotted : (e : ExprData) (cs : Chunks) → ExprAt (level e) cs e → On n g.postfix (before_dot e cs) e
  dotted (integer n t) cs d = in_parentheses cs (integer n t) (as_whole postfixed cs (integer n t) d)
  dotted (character n) cs d = placed postfixed (character n) cs d
  dotted e cs d = placed postfixed e cs d

  -- ---- types

  words_written : (w : Text) (ws : List Text) → are_type_words (w ∷ ws) ≡ true → (is g.type_word (word_token w) ≡ true) × On n g.more_words (more_word_chunks ws) ws
  words_written w [] h = ((both _ _ h).0, made _ here done (λ at. refl))
  words_written w (v ∷ ws) h = let k = both (is_among type_words w) (are_type_words (v ∷ ws)) h in let r = words_written v ws k.1 in
      (k.0, made _ (next (next here)) (gap (token (word_token v) r.0 (λ at. refl) (last_part r.1))) (λ at. refl))

  -- ---- the rules

  op_at : (op : BinOp) → Among (operand_rule (rank_of op) (binary_mark op, op)) (productions (g.more_operand (rank_of op)))
  op_at bin.Or = here
  op_at bin.And = here
  op_at bin.BitOr = here
  op_at bin.BitXor = here
  op_at bin.BitAnd = here
  op_at bin.Eq = here
  op_at bin.Ne = next here
  op_at bin.Lt = here
  op_at bin.Gt = next here
  op_at bin.Le = next (next here)
  op_at bin.Ge = next (next (next here))
  op_at bin.Shl = here
  op_at bin.Shr = next here
  op_at bin.Add = here
  op_at bin.Sub = next here
  op_at bin.Mul = here
  op_at bin.Div = next here
  op_at bin.Rem = next (next here)

  assign_at : (o : Option BinOp) → is_assignable o ≡ true → Among (assignment_rule (assign_mark o, o)) (productions g.assignment_operator)
  assign_at None h = here
  assign_at (Some bin.Add) h = next here
  assign_at (Some bin.Sub) h = next (next here)
  assign_at (Some bin.Mul) h = next (next (next here))
  assign_at (Some bin.Div) h = next (next (next (next here)))
  assign_at (Some bin.Rem) h = next (next (next (next (next here))))
  assign_at (Some bin.Shl) h = next (next (next (next (next (next here)))))
  assign_at (Some bin.Shr) h = next (next (next (next (next (next (next here))))))
  assign_at (Some bin.BitAnd) h = next (next (next (next (next (next (next (next here)))))))
  assign_at (Some bin.BitXor) h = next (next (next (next (next (next (next (next (next here))))))))
  assign_at (Some bin.BitOr) h = next (next (next (next (next (next (next (next (next (next here)))))))))
  assign_at (Some o) h = absurd (false≢true h)

  unary_at : (op : UnOp) → Among (unary_rule (unary_mark op, op)) (productions g.unary_operator)
  unary_at un.Addr = here
  unary_at un.Deref = next here
  unary_at un.Plus = next (next here)
  unary_at un.Minus = next (next (next here))
  unary_at un.Flip = next (next (next (next here)))
  unary_at un.Not = next (next (next (next (next here))))

  binary_written : (op : BinOp) (a b : ExprData) (cs ds : Chunks) → On n (g.operators (rank_of op)) cs a → ExprAt (tighter (rank_of op)) ds b
      → On n (g.operators (rank_of op)) (cs ++ blank ∷ mark (binary_mark op) ∷ blank ∷ ds) (binary op a b)
  binary_written op a b cs ds x y =
      let t = tight (rank_of op) ds b y in
      one_more_operand x (made (operand_rule (rank_of op) (binary_mark op, op)) (op_at op) (gap (counts (punct_token (binary_mark op)) (own_mark (binary_mark op)) (λ at. refl) (gap (last_part t.2)))) (λ at. ap (λ e. (op, e)) (sym t.1)))

  assign_written : (o : Option BinOp) → is_assignable o ≡ true → (a b : ExprData) (cs ds : Chunks) → On n (g.operators or_rank) cs a → On n g.assignment ds b
      → On n g.assignment (cs ++ blank ∷ mark (assign_mark o) ∷ blank ∷ ds) (assign o a b)
  assign_written o h a b cs ds x y = made _ here (part x refl (last_part (made _ (next here)
      (part (made (assignment_rule (assign_mark o, o)) (assign_at o h) (gap (token (punct_token (assign_mark o)) (own_mark (assign_mark o)) (λ at. refl) done)) (λ at. refl)) refl (gap (last_inner y)))
      (λ at. refl)))) (λ at. refl)

  unary_written : (op : UnOp) (a : ExprData) (cs : Chunks) → On n g.cast_part cs a → On n g.unary_part (mark (unary_mark op) ∷ cs) (unary op a)
  unary_written op a cs d = made _ (next (next (next here)))
      (part (made (unary_rule (unary_mark op, op)) (unary_at op) (token (punct_token (unary_mark op)) (own_mark (unary_mark op)) (λ at. refl) done) (λ at. refl)) refl (last_inner d)) (λ at. refl)

  -- ---- primary and postfix expressions

  pub name_in_grammar : (x : Text) → is_plain_name x ≡ true → is g.name (word_token x) ≡ true
  name_in_grammar x h = (both (not (is_left_out_word x)) (is_name x) (both (is_word x) (not (is_left_out_word x) && is_name x) h).1).1

  -- a name that stands for itself where an expression begins
  free_name : (x : Text) → is_free_name x ≡ true → ◌≡◌ {A = Primary} (record { expression = identifier x; is_name = true }) (named x)
  free_name x h =
      let k = neither (same_text x (codes "SQLCODE")) (same_text x (codes "SQLSTATE")) (turn_not (is_area_word x) (both (is_plain_name x) (not (is_area_word x)) h).1) in
      sym (λ i. elim (k.0 i) [
        | true ↦ area_member "sqlcode"
        | false ↦ elim (k.1 i) [ true ↦ area_member "sqlstate" | false ↦ record { expression = identifier x; is_name = true } ]
      ])

  name_primary : (x : Text) → is_free_name x ≡ true → On n g.primary (word x ∷ []) (record { expression = identifier x; is_name = true })
  name_primary x h = made _ here (token (word_token x) (name_in_grammar x (both (is_plain_name x) (not (is_area_word x)) h).0) (λ at. refl) done) (λ at. free_name x h)

  name_written : (x : Text) → is_free_name x ≡ true → On n g.postfix (word x ∷ []) (identifier x)
  name_written x h = bare (word x ∷ []) (identifier x) true (name_primary x h)

  arguments_written : (es : ExprList) (cs : Chunks) → On n g.arguments cs es → On n g.argument_part (mark p.LeftParen ∷ cs ++ mark p.RightParen ∷ []) es
  arguments_written es cs d = made _ here (counts (punct_token p.LeftParen) refl (λ at. refl) (part d refl (token (punct_token p.RightParen) refl (λ at. refl) done))) (λ at. refl)

  call_written : (f : Text) (es : ExprList) (cs : Chunks) → is_free_name f ≡ true → On n g.arguments cs es → On n g.postfix (word f ∷ mark p.LeftParen ∷ cs ++ mark p.RightParen ∷ []) (call f es)
  call_written f es cs h d =
      let q = mark p.LeftParen ∷ cs ++ mark p.RightParen ∷ [] in
      same_chunks (word f ∷ (q ++ [])) (word f ∷ q) (ap (λ r. word f ∷ r) (append-nil q))
      (made _ here (part (name_primary f h) refl (last_part (made _ (next here) (part (called_written es cs d) refl (part no_more_parts refl done)) (λ at. refl)))) (λ at. refl))
    where
      called_written : (es : ExprList) (cs : Chunks) → On n g.arguments cs es → On n g.postfix_part (mark p.LeftParen ∷ cs ++ mark p.RightParen ∷ []) (called es)
      called_written es cs d = made _ (next (next (next (next (next here))))) (last_inner (arguments_written es cs d)) (λ at. refl)

  call_part : (es : ExprList) (cs : Chunks) → On n g.arguments cs es → On n g.postfix_part (mark p.LeftParen ∷ cs ++ mark p.RightParen ∷ []) (called es)
  call_part es cs d = made _ (next (next (next (next (next here))))) (last_inner (arguments_written es cs d)) (λ at. refl)

  call_other_written : (f : ExprData) (es : ExprList) (cs ds : Chunks) → is_no_name f ≡ true → On n g.postfix cs f → On n g.arguments ds es → On n g.postfix (cs ++ (mark p.LeftParen ∷ ds ++ mark p.RightParen ∷ [])) (call_other f es)
  call_other_written f es cs ds h x y = one_more_part (called es) (inr h) x (call_part es ds y)

  index_written : (a b : ExprData) (cs ds : Chunks) → On n g.postfix cs a → On n g.assignment ds b → On n g.postfix (cs ++ (mark p.LeftBracket ∷ ds ++ mark p.RightBracket ∷ [])) (index a b)
  index_written a b cs ds x y = one_more_part (at_index b) (inl refl) x
      (made _ here (last_inner (made _ here (counts (punct_token p.LeftBracket) refl (λ at. refl) (full y refl (token (punct_token p.RightBracket) refl (λ at. refl) done))) (λ at. refl))) (λ at. refl))

  dot_written : (a : ExprData) (m : Text) (cs : Chunks) → is_plain_name m ≡ true → On n g.postfix cs a → On n g.postfix (cs ++ mark p.Dot ∷ word m ∷ []) (member a m)
  dot_written a m cs h x = one_more_part (at_member m) (inl refl) x
      (made _ (next here) (counts (punct_token p.Dot) refl (λ at. refl) (token (word_token m) (name_in_grammar m h) (λ at. refl) done)) (λ at. refl))

  arrow_written : (a : ExprData) (m : Text) (cs : Chunks) → is_plain_name m ≡ true → On n g.postfix cs a → On n g.postfix (cs ++ mark p.Arrow ∷ word m ∷ []) (arrow a m)
  arrow_written a m cs h x = one_more_part (at_arrow m) (inl refl) x
      (made _ (next (next here)) (counts (punct_token p.Arrow) refl (λ at. refl) (token (word_token m) (name_in_grammar m h) (λ at. refl) done)) (λ at. refl))

  bump_written : (before up : Bool) (a : ExprData) (cs : Chunks) → On n g.postfix cs a → ExprAt (bump_level before) (bumped_chunks before up cs) (bump before up a)
  bump_written true true a cs d = made _ (next here) (token (punct_token p.PlusPlus) refl (λ at. refl) (last_inner (lifted postfixed prefixed cs a (lit≤ tt) d))) (λ at. refl)
  bump_written true false a cs d = made _ (next (next here)) (token (punct_token p.MinusMinus) refl (λ at. refl) (last_inner (lifted postfixed prefixed cs a (lit≤ tt) d))) (λ at. refl)
  bump_written false true a cs d = one_more_part (bumped true) (inl refl) d (made _ (next (next (next here))) (counts (punct_token p.PlusPlus) refl (λ at. refl) done) (λ at. refl))
  bump_written false false a cs d = one_more_part (bumped false) (inl refl) d (made _ (next (next (next (next here)))) (counts (punct_token p.MinusMinus) refl (λ at. refl) done) (λ at. refl))

  -- ---- types

  pub no_constants : On n g.constants [] tt
  no_constants = made _ here done (λ at. refl)

  pub stars_written : (k : ℕ) → On n g.stars (star_chunks k) k
  stars_written zero = made _ here done (λ at. refl)
  stars_written (suc k) = let same : suc k ≡ k + 1 = omega arith in
      made _ (next here) (counts (punct_token p.Star) refl (λ at. refl) (part no_constants refl (last_part (stars_written k)))) (λ at. same)

  -- with one blank before them, if there are any
  stars_after_blank : (k : ℕ) → On n g.stars (stars_behind k) k
  stars_after_blank zero = made _ here done (λ at. refl)
  stars_after_blank (suc k) = let same : suc k ≡ k + 1 = omega arith in
      made _ (next here) (gap (counts (punct_token p.Star) refl (λ at. refl) (part no_constants refl (last_part (stars_written k))))) (λ at. same)

  type_written : (b : BaseData) (stars : ℕ) → On n g.specifiers (base_chunks b) b → On n g.type_in_parentheses (type_chunks b stars) (b, stars)
  type_written b stars d =
      same_chunks (mark p.LeftParen ∷ (base_chunks b ++ stars_behind stars) ++ mark p.RightParen ∷ []) (type_chunks b stars) (ap (λ r. mark p.LeftParen ∷ r) (append_assoc (base_chunks b) (stars_behind stars) (mark p.RightParen ∷ [])))
      (made _ here (token (punct_token p.LeftParen) refl (λ at. refl) (its_own (made _ here (part d refl (last_part (stars_after_blank stars))) (λ at. refl)) refl
      (token (punct_token p.RightParen) refl (λ at. refl) done))) (λ at. refl))

  words_base : (w : Text) (ws : List Text) → are_type_words (w ∷ ws) ≡ true → On n g.specifiers (base_chunks (words (w ∷ ws))) (words (w ∷ ws))
  words_base w ws h =
      let r = words_written w ws h in
      made _ here (part no_constants refl (last_part (made _ here (token (word_token w) r.0 (λ at. refl) (last_part r.1)) (λ at. refl)))) (λ at. refl)

  -- a struct, by what stands behind the word
  struct_written : (cs : Chunks) (b : BaseData) → On n g.tag_or_members cs b → On n g.specifiers (word (codes "struct") ∷ blank ∷ cs) b
  struct_written cs b d =
      same_chunks (word (codes "struct") ∷ blank ∷ (cs ++ [])) (word (codes "struct") ∷ blank ∷ cs) (ap (λ x. word (codes "struct") ∷ blank ∷ x) (append-nil cs))
      (made _ here (part no_constants refl (last_part (made _ (next (next here)) (token (word_token (codes "struct")) refl (λ at. refl) (gap (part d refl (part no_constants refl done)))) (λ at. refl)))) (λ at. refl))

  tag_named : (t : Text) → is_tag t ≡ true → is g.name (word_token t) ≡ true
  tag_named t h = name_in_grammar t (both (is_plain_name t) (not (same_word t (codes "EXEC"))) h).0

  tag_written : (t : Text) → is_tag t ≡ true → On n g.tag_or_members (word t ∷ []) (tagged t)
  tag_written t h = made _ here (token (word_token t) (tag_named t h) (λ at. refl) (last_part (made _ here done (λ at. refl)))) (λ at. refl)

  -- members in their braces
  abbrev in_braces : DeclList → Chunks
  in_braces ms = mark p.LeftBrace ∷ members_chunks ms ++ (blank ∷ mark p.RightBrace ∷ [])

  body_written : (m : DeclData) (ms : DeclList) → On n g.member_declaration (decl_chunks m) m → On n g.more_members (members_chunks ms) ms → On n g.members (in_braces (decls m ms)) (decls m ms)
  body_written m ms d e =
      let end = blank ∷ mark p.RightBrace ∷ [] in
      same_chunks (mark p.LeftBrace ∷ blank ∷ decl_chunks m ++ (members_chunks ms ++ end)) (in_braces (decls m ms)) (ap (λ x. mark p.LeftBrace ∷ blank ∷ x) (sym (append_assoc (decl_chunks m) (members_chunks ms) end)))
      (made _ here (token (punct_token p.LeftBrace) refl (λ at. refl) (gap (part d refl (part e refl (gap (token (punct_token p.RightBrace) refl (λ at. refl) done)))))) (λ at. refl))

  struct_base_written : (t : Option Text) (ms : DeclList) → is_tag_option t ≡ true → On n g.members (in_braces ms) ms → On n g.specifiers (base_chunks (struct_base t ms)) (struct_base t ms)
  struct_base_written None ms h d = struct_written (in_braces ms) (struct_base None ms) (made _ (next here) (last_inner d) (λ at. refl))
  struct_base_written (Some t) ms h d =
      struct_written (word t ∷ blank ∷ in_braces ms) (struct_base (Some t) ms)
      (made _ here (token (word_token t) (tag_named t h) (λ at. refl) (gap (last_part (made _ (next here) (last_inner d) (λ at. refl))))) (λ at. refl))

  member_made : (b : BaseData) (d : DeclaratorData) (ds : DeclaratorList) (section : Bool) (line : Line) → section ≡ false → line.0 ≡ n → begins_token (decl_chunks (decl b (declarators d ds) section line)) ≡ true
      → On n g.specifiers (base_chunks b) b → On n g.declarator_part (declarator_chunks d) d → On n g.more_declarators (more_declarators_chunks ds) ds
      → On n g.member_declaration (decl_chunks (decl b (declarators d ds) section line)) (decl b (declarators d ds) section line)
  member_made b d ds section line s e first x y z =
      let end = mark p.Semicolon ∷ [] in
      let cs = base_chunks b ++ (blank ∷ declarator_chunks d ++ (more_declarators_chunks ds ++ end)) in
      let same : cs ≡ decl_chunks (decl b (declarators d ds) section line) = ap (λ r. base_chunks b ++ (blank ∷ r)) (sym (append_assoc (declarator_chunks d) (more_declarators_chunks ds) end)) in
      same_chunks cs (decl_chunks (decl b (declarators d ds) section line)) same
      (made_on _ here (part x refl (gap (its_own y refl (part z refl (token (punct_token p.Semicolon) refl (λ at. refl) done)))))
      (λ at l. (λ i. decl b (declarators d ds) (s i) (record { 0 = (e ∙ sym l) i })) ∙ ap (λ (q : Start). decl b (declarators d ds) q.section q.line) (sym (starts_at cs at (ap begins_token same ∙ first)))))

  -- ---- each expression is derived from its chunks

  mutual
    pub expr_written : (e : ExprData) → is_written_expr n e ≡ true → ExprAt (level e) (expr_chunks e) e
    expr_written (integer n t) h = bare (the (integer_token n t) ∷ []) (integer n t) false (made _ (next here) (token (integer_token n t) refl (λ at. refl) done) (λ at. refl))
    expr_written (character c) h = bare (the (character_token c) ∷ []) (character c) false (made _ (next (next here)) (token (character_token c) refl (λ at. refl) done) (λ at. refl))
    expr_written (string s) h = bare (the (string_token s) ∷ []) (string s) false (made _ (next (next (next here))) (token (string_token s) refl (λ at. refl) done) (λ at. refl))
    expr_written (identifier x) h = name_written x h
    expr_written (unary op a) h = unary_written op a (at_place postfixed a (expr_chunks a)) (lifted postfixed casting (at_place postfixed a (expr_chunks a)) a (lit≤ tt) (placed postfixed a (expr_chunks a) (expr_written a h)))
    expr_written (binary op a b) h = let k = both (is_written_expr n a) (is_written_expr n b) h in
        binary_written op a b (at_place (ranked (rank_of op)) a (expr_chunks a)) (at_place (tighter (rank_of op)) b (expr_chunks b))
        (placed (ranked (rank_of op)) a (expr_chunks a) (expr_written a k.0)) (placed (tighter (rank_of op)) b (expr_chunks b) (expr_written b k.1))
    expr_written (assign o a b) h = let k = both (is_assignable o) (is_written_expr n a && is_written_expr n b) h in let j = both (is_written_expr n a) (is_written_expr n b) k.1 in
        assign_written o k.0 a b (at_place (ranked or_rank) a (expr_chunks a)) (expr_chunks b) (placed (ranked or_rank) a (expr_chunks a) (expr_written a j.0)) (as_whole (level b) (expr_chunks b) b (expr_written b j.1))
    expr_written (bump before up a) h = bump_written before up a (at_place postfixed a (expr_chunks a)) (placed postfixed a (expr_chunks a) (expr_written a h))
    expr_written (call f es) h = let k = both (is_free_name f) (are_written_exprs n es) h in call_written f es (list_chunks es) k.0 (list_written es k.1)
    expr_written (call_other f es) h =
        let k = both (is_no_name f) (is_written_expr n f && are_written_exprs n es) h in
        let j = both (is_written_expr n f) (are_written_exprs n es) k.1 in
        call_other_written f es (at_place postfixed f (expr_chunks f)) (list_chunks es) k.0 (placed postfixed f (expr_chunks f) (expr_written f j.0)) (list_written es j.1)
    expr_written (index a b) h = let k = both (is_written_expr n a) (is_written_expr n b) h in
        index_written a b (at_place postfixed a (expr_chunks a)) (expr_chunks b) (placed postfixed a (expr_chunks a) (expr_written a k.0)) (as_whole (level b) (expr_chunks b) b (expr_written b k.1))
    expr_written (member a m) h = let k = both (is_plain_name m) (is_written_expr n a) h in dot_written a m (before_dot a (expr_chunks a)) k.0 (dotted a (expr_chunks a) (expr_written a k.1))
    expr_written (arrow a m) h = let k = both (is_plain_name m) (is_written_expr n a) h in arrow_written a m (at_place postfixed a (expr_chunks a)) k.0 (placed postfixed a (expr_chunks a) (expr_written a k.1))
    expr_written (cast b stars a) h = let k = both (is_written_base n b) (is_written_expr n a) h in
        made _ here (inner (type_written b stars (base_written b k.0)) refl (last_inner (lifted postfixed casting (at_place postfixed a (expr_chunks a)) a (lit≤ tt) (placed postfixed a (expr_chunks a) (expr_written a k.1))))) (λ at. refl)
    expr_written (size_type b stars) h = made _ (next (next (next (next here))))
        (token (word_token (codes "sizeof")) refl (λ at. refl) (last_inner (made _ (next here) (last_inner (type_written b stars (base_written b h))) (λ at. refl)))) (λ at. refl)
    expr_written (size_expr a) h = made _ (next (next (next (next here))))
        (token (word_token (codes "sizeof")) refl (λ at. refl) (last_inner (made _ here (gap (last_part (lifted postfixed prefixed (at_place postfixed a (expr_chunks a)) a (lit≤ tt) (placed postfixed a (expr_chunks a) (expr_written a h))))) (λ at. refl)))) (λ at. refl)

    pub list_written : (es : ExprList) → are_written_exprs n es ≡ true → On n g.arguments (list_chunks es) es
    list_written no_exprs h = made _ here done (λ at. refl)
    list_written (exprs e es) h = let k = both (is_written_expr n e) (are_written_exprs n es) h in
        made _ (next here) (full (as_whole (level e) (expr_chunks e) e (expr_written e k.0)) refl (last_part (more_written es k.1))) (λ at. refl)

    more_written : (es : ExprList) → are_written_exprs n es ≡ true → On n g.more_arguments (more_chunks es) es
    more_written no_exprs h = made _ here done (λ at. refl)
    more_written (exprs e es) h = let k = both (is_written_expr n e) (are_written_exprs n es) h in
        made _ (next here) (token (punct_token p.Comma) refl (λ at. refl) (gap (full (as_whole (level e) (expr_chunks e) e (expr_written e k.0)) refl (last_part (more_written es k.1))))) (λ at. refl)

    pub base_written : (b : BaseData) → is_written_base n b ≡ true → On n g.specifiers (base_chunks b) b
    base_written (words []) h = absurd (false≢true h)
    base_written (words (w ∷ ws)) h = words_base w ws h
    base_written (tagged t) h = struct_written (word t ∷ []) (tagged t) (tag_written t h)
    base_written varchar h = absurd (false≢true h)
    base_written (struct_base t no_decls) h = absurd (false≢true h)
    base_written (struct_base t (decls m ms)) h =
        let k = both (is_tag_option t) (is_written_member n m && are_written_members n ms) h in
        let j = both (is_written_member n m) (are_written_members n ms) k.1 in
        struct_base_written t (decls m ms) k.0 (body_written m ms (member_written m j.0) (members_written ms j.1))

    members_written : (ms : DeclList) → are_written_members n ms ≡ true → On n g.more_members (members_chunks ms) ms
    members_written no_decls h = made _ here done (λ at. refl)
    members_written (decls m ms) h = let k = both (is_written_member n m) (are_written_members n ms) h in
        made _ (next here) (gap (part (member_written m k.0) refl (last_part (members_written ms k.1)))) (λ at. refl)

    member_written : (m : DeclData) → is_written_member n m ≡ true → On n g.member_declaration (decl_chunks m) m
    member_written (decl b no_declarators section line) h = absurd (false≢true h)
    member_written (decl b (declarators d ds) section line) h =
        let k = both (not section && line.0 == n) (is_written_base n b && (is_written_declarator n d && are_written_declarators n ds)) h in
        let i = both (not section) (line.0 == n) k.0 in
        let j = both (is_written_base n b) (is_written_declarator n d && are_written_declarators n ds) k.1 in
        let l = both (is_written_declarator n d) (are_written_declarators n ds) j.1 in
        member_made b d ds section line (off section i.0) (line_is_here line.0 n i.1) (base_token n b (declarators_chunks (declarators d ds) ++ mark p.Semicolon ∷ []) j.0) (base_written b j.0) (declarator_written d l.0) (more_declarators_written ds l.1)

    dim_written : (d : DimData) → is_written_dim n d ≡ true → On n g.length_option (dim_chunks d) d
    dim_written open_dim h = made _ here done (λ at. refl)
    dim_written (dim e) h = made _ (next here) (last_full (placed (ranked or_rank) e (expr_chunks e) (expr_written e h))) (λ at. refl)

    pub dims_written : (ds : DimList) → are_written_dims n ds ≡ true → On n g.lengths (dims_chunks ds) ds
    dims_written no_dims h = made _ here done (λ at. refl)
    dims_written (dims d ds) h = let k = both (is_written_dim n d) (are_written_dims n ds) h in
        made _ (next here) (inner (made _ here (counts (punct_token p.LeftBracket) refl (λ at. refl) (part (dim_written d k.0) refl (token (punct_token p.RightBracket) refl (λ at. refl) done))) (λ at. refl)) refl (last_part (dims_written ds k.1))) (λ at. refl)

    pub init_written : (i : InitData) → is_written_init n i ≡ true → On n g.initializer (init_chunks i) i
    init_written (one e) h = made _ here (last_full (as_whole (level e) (expr_chunks e) e (expr_written e h))) (λ at. refl)
    init_written (many is) h = made _ (next here) (last_inner (some_inits_written is h)) (λ at. refl)

    some_inits_written : (is : InitList) → are_some_inits n is ≡ true → On n g.initializer_list (mark p.LeftBrace ∷ inits_chunks is ++ mark p.RightBrace ∷ []) is
    some_inits_written no_inits h = absurd (false≢true h)
    some_inits_written (inits i is) h = let k = both (is_written_init n i) (are_written_inits n is) h in
        same_chunks (mark p.LeftBrace ∷ init_chunks i ++ (more_inits_chunks is ++ mark p.RightBrace ∷ [])) (mark p.LeftBrace ∷ (init_chunks i ++ more_inits_chunks is) ++ mark p.RightBrace ∷ [])
        (ap (λ cs. mark p.LeftBrace ∷ cs) (sym (append_assoc (init_chunks i) (more_inits_chunks is) (mark p.RightBrace ∷ []))))
        (made _ here (token (punct_token p.LeftBrace) refl (λ at. refl) (part (init_written i k.0) refl (part (more_inits_written is k.1) refl (token (punct_token p.RightBrace) refl (λ at. refl) done)))) (λ at. refl))

    more_inits_written : (is : InitList) → are_written_inits n is ≡ true → On n g.more_initializers (more_inits_chunks is) is
    more_inits_written no_inits h = made _ here done (λ at. refl)
    more_inits_written (inits i is) h = let k = both (is_written_init n i) (are_written_inits n is) h in
        made _ (next (next here)) (token (punct_token p.Comma) refl (λ at. refl) (gap (part (init_written i k.0) refl (last_part (more_inits_written is k.1))))) (λ at. refl)

    pub initializer_written : (i : InitOption) → is_written_initializer n i ≡ true → On n g.initializer_option (initializer_chunks i) i
    initializer_written no_init h = made _ here done (λ at. refl)
    initializer_written (some_init i) h = made _ (next here) (gap (token (punct_token p.Assign) refl (λ at. refl) (gap (last_part (init_written i h))))) (λ at. refl)

    declarator_written : (d : DeclaratorData) → is_written_declarator n d ≡ true → On n g.declarator_part (declarator_chunks d) d
    declarator_written (declarator stars name ds i) h =
        let k = both (is_plain_name name) (are_written_dims n ds && is_written_initializer n i) h in
        let j = both (are_written_dims n ds) (is_written_initializer n i) k.1 in
        made _ here (part (stars_written stars) refl (token (word_token name) (name_in_grammar name k.0) (λ at. refl) (part (dims_written ds j.0) refl (last_part (initializer_written i j.1))))) (λ at. refl)

    pub more_declarators_written : (ds : DeclaratorList) → are_written_declarators n ds ≡ true → On n g.more_declarators (more_declarators_chunks ds) ds
    more_declarators_written no_declarators h = made _ here done (λ at. refl)
    more_declarators_written (declarators d ds) h = let k = both (is_written_declarator n d) (are_written_declarators n ds) h in
        made _ (next here) (token (punct_token p.Comma) refl (λ at. refl) (gap (its_own (declarator_written d k.0) refl (last_part (more_declarators_written ds k.1))))) (λ at. refl)

    pub declarators_written : (ds : DeclaratorList) → are_written_declarators n ds ≡ true → On n g.declarators_option (declarators_chunks ds) ds
    declarators_written no_declarators h = made _ here done (λ at. refl)
    declarators_written (declarators d ds) h = let k = both (is_written_declarator n d) (are_written_declarators n ds) h in
        made _ (next here) (gap (its_own (declarator_written d k.0) refl (last_part (more_declarators_written ds k.1)))) (λ at. refl)
