-- Statements and blocks.
use Rattle.std.proofs.Common.{◌≡◌, ℕ, zero, suc, ◌≤◌, ◌<◌, true, false, List, [], ◌∷◌, ◌++◌, length, refl, ap, sym, subst, arith, append_assoc, Option, Some, None}
use Rattle.std.proofs.lemmas.List.{append-nil}
use Rattle.ec_ctypes.specs.declared.text.token.Punct.TheVariants as p
use Rattle.ec_ctypes.specs.trees.Exprs.{ExprData}
use Rattle.ec_ctypes.specs.trees.Stmts.{StmtData, block_stmt, if_stmt}
use Rattle.ec_ctypes.specs.views.Stmts.{stmt_of}
use Rattle.ec_language.specs.Productions.{Start, start_of, sym as ofs, nest, OpenStatement, at, ending, with_else, ForStart, for_expression, for_declaration, text_of}
use Rattle.ec_language.specs.Productions as g
use Rattle.ec_language.specs.Grammar.{PlacedTokens, Limits, Counts}
use Rattle.ec_grammar.specs.declared.kind.Kind.{Kind}
use Rattle.ec_grammar.specs.declared.kind.Kind.TheVariants as k
use Rattle.ec_grammar.specs.Input.{State, state, Parser, kind_at, kind_next}
use Rattle.ec_grammar.specs.Nested.{Nested, NestedStatements}
use Rattle.ec_grammar.specs.Starts.{is_else, begins_block_item}
use Rattle.ec_grammar.specs.ReadStatements as read
use Rattle.ec_grammar.proofs.exact_lemmas.Follow.{at_tree, ext}
use Rattle.ec_grammar.proofs.exact_lemmas.Exact.{Reads, then_row, last_row, end_row, shorter}
use Rattle.ec_grammar.proofs.exact_lemmas.Choose.{side, choose, when, choose_if}
use Rattle.ec_grammar.proofs.exact_lemmas.Nests.{expect_reads}
use Rattle.ec_grammar.proofs.exact_lemmas.Lists.{stmts_in, stmts_back}
use Rattle.ec_grammar.proofs.exact_lemmas.Inner.{Reading, ReadsInner, ReadsDeeper}
use Rattle.ec_grammar.proofs.exact_lemmas.Assignments.{expression_reads, option_reads}
use Rattle.ec_grammar.proofs.exact_lemmas.Declarations.{declaration_reads}
use Rattle.ec_grammar.proofs.exact_lemmas.Elses.{open_else, for_open, tail_side, if_side}

abbrev pub some_statement : Option OpenStatement → Option StmtData
some_statement None = None
some_statement (Some s) = Some s.statement

same_if : (x : Start) (e : ExprData) (s : OpenStatement) (o : Option OpenStatement) → at x (if_stmt e s.statement (stmt_of (some_statement o))) ≡ (with_else x e s o).statement
same_if x e s None = refl
same_if x e s (Some o) = refl

same_loop : (x : Start) (first : ForStart) (c step : Option ExprData) (s : OpenStatement) → read.loop_from x first c step s.statement ≡ (g.for_loop x first c step s).statement
same_loop x (for_expression e) c step s = refl
same_loop x (for_declaration d) c step s = refl

-- an `else` goes on with a whole statement where it goes on with the last part
like : (z y : OpenStatement) (j : Kind) → z.is_open ≡ y.is_open → ext (ofs g.statement) z j ≡ true → ext (ofs g.statement) y j ≡ true
like z y j e h = subst (λ b. at_tree (is_else j) (is_else j) b ≡ true) e h

like_other : (x : Start) (e : ExprData) (s : OpenStatement) (o : Option OpenStatement) (j : Kind) → ext (ofs g.else_option) o j ≡ true → ext (ofs g.statement) (with_else x e s o) j ≡ true
like_other x e s o j h = subst (λ b. at_tree (is_else j) (is_else j) b ≡ true) (sym (open_else x e s o)) h

module _ (most : Limits) (levels : ℕ) (inner : Nested) (deeper : NestedStatements) (f : ReadsInner most levels inner) (d : ReadsDeeper most levels deeper) where
  abbrev Statement : State → Parser StmtData → Type 0
  Statement st q = Reads most levels st.counts (ofs g.statement) StmtData (λ v. v.statement) st.tokens (q st)

  else_reads : Reading most levels (ofs g.else_option) some_statement (read.else_option most inner deeper)
  unfolding read.else_option
  else_reads st = when (is_else (kind_at st.tokens)) _ _
      (λ yes. choose_if g.else_option 1 some_statement st.tokens is_else true yes refl
      (refl, then_row (side refl (λ _. refl)) _ (expect_reads k.Else st) (λ t mid _. then_row (tail_side (λ z j e. e)) _ (d.statement mid) (λ s mid _. end_row refl))))
      (λ no. choose_if g.else_option 0 some_statement st.tokens is_else false no refl ((λ x y. refl), end_row refl))

  named_by : (l : Kind) (st : State) → kind_at st.tokens ≡ k.Name → kind_next st.tokens ≡ l → Statement st (read.named most inner deeper (start_of st.tokens) l)
  named_by (k.Mark p.Colon) st at next = choose g.statement 3 (λ v. v.statement) st.tokens _ k.Name (k.Mark p.Colon) at next refl (
    refl,
    then_row (side refl (λ _. refl)) _ (expect_reads k.Name st) (λ t mid _. then_row (side refl (λ _. refl)) _ (expect_reads (k.Mark p.Colon) mid)
        (λ u mid _. then_row (tail_side (λ z j e. e)) _ (d.statement mid) (λ s mid _. end_row refl))),
  )
  named_by _ st at next = choose g.statement 1 (λ v. v.statement) st.tokens _ k.Name _ at next refl
      (refl, then_row (side refl (λ _. refl)) _ (expression_reads most levels inner f st) (λ e mid _. then_row (side refl (λ _. refl)) _ (expect_reads (k.Mark p.Semicolon) mid) (λ u mid _. end_row refl)))

  statement_by : (j l : Kind) (st : State) → kind_at st.tokens ≡ j → kind_next st.tokens ≡ l → Statement st (read.statement_by most inner deeper (start_of st.tokens) j l)
  statement_by (k.Mark p.Semicolon) l st at next = choose g.statement 0 (λ v. v.statement) st.tokens _ (k.Mark p.Semicolon) l at next refl
      (refl, then_row (side refl (λ _. refl)) _ (expect_reads (k.Mark p.Semicolon) st) (λ t mid _. end_row refl))
  statement_by (k.Mark p.LeftBrace) l st at' next = choose g.statement 2 (λ v. v.statement) st.tokens _ (k.Mark p.LeftBrace) l at' next refl
      (refl, then_row (side refl (λ _. refl)) _ (d.block st) (λ ss mid _. end_row (ap (λ v. at (start_of st.tokens) (block_stmt v)) (stmts_back ss))))
  statement_by k.Executable l st at next = choose g.statement 4 (λ v. v.statement) st.tokens _ k.Executable l at next refl
      (refl, then_row (side refl (λ _. refl)) _ (expect_reads k.Executable st) (λ t mid _. end_row refl))
  statement_by k.Directive l st at next = choose g.statement 5 (λ v. v.statement) st.tokens _ k.Directive l at next refl
      (refl, then_row (side refl (λ _. refl)) _ (expect_reads k.Directive st) (λ t mid _. end_row refl))
  statement_by k.If l st at next = choose g.statement 6 (λ v. v.statement) st.tokens _ k.If l at next refl (
    refl,
    then_row (side refl (λ _. refl)) _ (expect_reads k.If st) (λ t mid _. then_row (side refl (λ _. refl)) _ (f.parenthesized mid)
        (λ e mid _. then_row (if_side (start_of st.tokens) e) _ (d.statement mid) (λ s mid _. then_row (tail_side (λ z j h. like_other (start_of st.tokens) e s z j h)) _ (else_reads mid)
        (λ o mid _. end_row (same_if (start_of st.tokens) e s o))))),
  )
  statement_by k.While l st at next = choose g.statement 7 (λ v. v.statement) st.tokens _ k.While l at next refl (
    refl,
    then_row (side refl (λ _. refl)) _ (expect_reads k.While st) (λ t mid _. then_row (side refl (λ _. refl)) _ (f.parenthesized mid)
        (λ e mid _. then_row (tail_side (λ z j h. h)) _ (d.statement mid) (λ s mid _. end_row refl))),
  )
  statement_by k.Do l st at next = choose g.statement 8 (λ v. v.statement) st.tokens _ k.Do l at next refl (
    refl,
    then_row (side refl (λ _. refl)) _ (expect_reads k.Do st) (λ t mid _. then_row (side refl (λ _. refl)) _ (d.statement mid) (λ s mid _. then_row (side refl (λ _. refl)) _ (expect_reads k.While mid)
        (λ u mid _. then_row (side refl (λ _. refl)) _ (f.parenthesized mid) (λ e mid _. then_row (side refl (λ _. refl)) _ (expect_reads (k.Mark p.Semicolon) mid) (λ u mid _. end_row refl))))),
  )
  statement_by k.For l st at next = choose g.statement 9 (λ v. v.statement) st.tokens _ k.For l at next refl (
    refl,
    then_row (side refl (λ _. refl)) _ (expect_reads k.For st) (λ t mid _. then_row (side refl (λ _. refl)) _ (f.for_head mid)
        (λ x mid _. then_row (tail_side (λ z j h. like z (g.for_loop (start_of st.tokens) x.first x.condition x.step z) j (sym (for_open (start_of st.tokens) x.first x.condition x.step z)) h)) _ (d.statement mid)
        (λ s mid _. end_row (same_loop (start_of st.tokens) x.first x.condition x.step s)))),
  )
  statement_by k.Break l st at next = choose g.statement 10 (λ v. v.statement) st.tokens _ k.Break l at next refl
      (refl, then_row (side refl (λ _. refl)) _ (expect_reads k.Break st) (λ t mid _. then_row (side refl (λ _. refl)) _ (expect_reads (k.Mark p.Semicolon) mid) (λ u mid _. end_row refl)))
  statement_by k.Continue l st at next = choose g.statement 11 (λ v. v.statement) st.tokens _ k.Continue l at next refl
      (refl, then_row (side refl (λ _. refl)) _ (expect_reads k.Continue st) (λ t mid _. then_row (side refl (λ _. refl)) _ (expect_reads (k.Mark p.Semicolon) mid) (λ u mid _. end_row refl)))
  statement_by k.Return l st at next = choose g.statement 12 (λ v. v.statement) st.tokens _ k.Return l at next refl (
    refl,
    then_row (side refl (λ _. refl)) _ (expect_reads k.Return st) (λ t mid _. then_row (side refl (λ _. refl)) _ (option_reads most levels inner f mid)
        (λ e mid _. then_row (side refl (λ _. refl)) _ (expect_reads (k.Mark p.Semicolon) mid) (λ u mid _. end_row refl))),
  )
  statement_by k.Goto l st at next = choose g.statement 13 (λ v. v.statement) st.tokens _ k.Goto l at next refl (
    refl,
    then_row (side refl (λ _. refl)) _ (expect_reads k.Goto st) (λ t mid _. then_row (side refl (λ _. refl)) _ (expect_reads k.Name mid)
        (λ n mid _. then_row (side refl (λ _. refl)) _ (expect_reads (k.Mark p.Semicolon) mid) (λ u mid _. end_row refl))),
  )
  statement_by k.Name l st at next = named_by l st at next
  statement_by _ l st at next = choose g.statement 1 (λ v. v.statement) st.tokens _ _ l at next refl
      (refl, then_row (side refl (λ _. refl)) _ (expression_reads most levels inner f st) (λ e mid _. then_row (side refl (λ _. refl)) _ (expect_reads (k.Mark p.Semicolon) mid) (λ u mid _. end_row refl)))

  pub statement_reads : Reading most levels (ofs g.statement) (λ v. v.statement) (read.statement most inner deeper)
  unfolding read.statement
  statement_reads st = statement_by (kind_at st.tokens) (kind_next st.tokens) st refl refl

  -- ---- blocks

  item_by : (j : Kind) (st : State) → kind_at st.tokens ≡ j → Reads most levels st.counts (ofs g.block_item) StmtData (λ v. v) st.tokens (read.block_item_by most inner deeper (start_of st.tokens) j st)
  item_by k.Opening st at = choose g.block_item 1 (λ v. v) st.tokens _ k.Opening (kind_next st.tokens) at refl refl (refl, then_row (side refl (λ _. refl)) _ (expect_reads k.Opening st) (λ t mid _. end_row refl))
  item_by k.Closing st at = choose g.block_item 2 (λ v. v) st.tokens _ k.Closing (kind_next st.tokens) at refl refl (refl, then_row (side refl (λ _. refl)) _ (expect_reads k.Closing st) (λ t mid _. end_row refl))
  item_by k.Const st at = choose g.block_item 0 (λ v. v) st.tokens _ k.Const (kind_next st.tokens) at refl refl (refl, then_row (side refl (λ _. refl)) _ (declaration_reads most levels inner f st) (λ x mid _. end_row refl))
  item_by k.TypeWord st at = choose g.block_item 0 (λ v. v) st.tokens _ k.TypeWord (kind_next st.tokens) at refl refl (refl, then_row (side refl (λ _. refl)) _ (declaration_reads most levels inner f st) (λ x mid _. end_row refl))
  item_by k.Varchar st at = choose g.block_item 0 (λ v. v) st.tokens _ k.Varchar (kind_next st.tokens) at refl refl (refl, then_row (side refl (λ _. refl)) _ (declaration_reads most levels inner f st) (λ x mid _. end_row refl))
  item_by k.Struct st at = choose g.block_item 0 (λ v. v) st.tokens _ k.Struct (kind_next st.tokens) at refl refl (refl, then_row (side refl (λ _. refl)) _ (declaration_reads most levels inner f st) (λ x mid _. end_row refl))
  item_by _ st at = choose g.block_item 3 (λ v. v) st.tokens _ _ (kind_next st.tokens) at refl refl (refl, last_row (side refl (λ _. refl)) (λ v. refl) (statement_reads st))

  block_item_reads : Reading most levels (ofs g.block_item) (λ v. v) (read.block_item most inner deeper)
  unfolding read.block_item
  block_item_reads st = item_by (kind_at st.tokens) st refl

  items_read : (m : ℕ) (found : List StmtData) (w : PlacedTokens) (c : Counts) → length w ≤ m → Reads most levels c (ofs g.block_items) (List StmtData) (λ v. found ++ stmts_in v) w (read.block_items_from most inner deeper m found (state w c))
  unfolding read.block_items_from
  items_read zero found [] c le = choose g.block_items 0 (λ v. found ++ stmts_in v) [] _ k.End k.End refl refl refl ((λ x y. refl), end_row (sym (append-nil found)))
  items_read zero found (t ∷ w) c le = absurd (omega arith)
  items_read (suc m) found w c le = when (begins_block_item (kind_at w)) _ _
      (λ yes. choose_if g.block_items 1 (λ v. found ++ stmts_in v) w begins_block_item true yes refl (
        refl,
        then_row (side refl (λ _. refl)) _ (block_item_reads (state w c)) (λ x st a. last_row (side refl (λ _. refl)) (λ v. append_assoc found (x ∷ []) (stmts_in v))
            (items_read m (found ++ x ∷ []) st.tokens st.counts (let lt : length st.tokens < length w = shorter refl a in omega arith))),
      ))
      (λ no. choose_if g.block_items 0 (λ v. found ++ stmts_in v) w begins_block_item false no refl ((λ x y. refl), end_row (sym (append-nil found))))

  pub block_reads : Reading most levels (ofs g.block) stmts_in (read.block most inner deeper)
  unfolding read.block read.block_items
  block_reads st = choose g.block 0 stmts_in st.tokens _ (kind_at st.tokens) (kind_next st.tokens) refl refl refl (
    refl,
    then_row (side refl (λ _. refl)) _ (expect_reads (k.Mark p.LeftBrace) st) (λ t mid _. then_row (side refl (λ _. refl)) _ (items_read (length mid.tokens) [] mid.tokens mid.counts (omega arith))
        (λ ss mid _. then_row (side refl (λ _. refl)) _ (expect_reads (k.Mark p.RightBrace) mid) (λ u mid _. end_row refl))),
  )
