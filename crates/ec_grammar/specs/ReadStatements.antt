-- Statements and whole programs, read from the front.
use Rattle.std.specs.Prelude.{ℕ, zero, true, false, suc, List, [], ◌∷◌, ◌++◌, length, Option, Some, None, if◌then◌else◌}
use Rattle.ec_ctypes.specs.declared.text.token.Punct.TheVariants as p
use Rattle.ec_ctypes.specs.trees.Exprs.{ExprData}
use Rattle.ec_ctypes.specs.trees.Stmts.{StmtData, stmt, empty_stmt, expr_stmt, block_stmt, if_stmt, while_stmt, do_stmt, for_stmt, break_stmt, continue_stmt, return_stmt, goto_stmt, label_stmt, decl_stmt, emb_stmt, mark_stmt, StmtList}
use Rattle.ec_ctypes.specs.trees.Units.{TopData, include_top, directive_top, mark_top, UnitData}
use Rattle.ec_ctypes.specs.views.Exprs.{dims_of, init_of, declarators_of}
use Rattle.ec_ctypes.specs.views.Stmts.{stmts_of, stmt_of}
use Rattle.ec_language.specs.Letters.{Text}
use Rattle.ec_language.specs.Productions.{Start, at, line_of, text_of, number_of, ForStart, for_expression, for_declaration, ForHead, BehindName, function, object, external_top}
use Rattle.ec_language.specs.Grammar.{Limits}
use Rattle.ec_grammar.specs.declared.kind.Kind.{Kind}
use Rattle.ec_grammar.specs.declared.kind.Kind.TheVariants as k
use Rattle.ec_grammar.specs.Input.{Parser, ◌>>=◌, ◌>>◌, pure, refuse, no_level, peek, peek_next, start, expect, own}
use Rattle.ec_grammar.specs.Nested.{Nested, NestedStatements}
use Rattle.ec_grammar.specs.ReadExpressions.{expression, expression_option}
use Rattle.ec_grammar.specs.ReadDeclarations.{specifiers, stars, lengths, initializer_option, more_declarators, declaration, nested}
use Rattle.ec_grammar.specs.Starts.{is_else, is_left_brace, begins_statement, begins_block_item, begins_item}

-- A `for` with a declaration is a block that holds the declaration and the loop.
abbrev pub loop_from : Start → ForStart → Option ExprData → Option ExprData → StmtData → StmtData
loop_from x (for_expression e) condition step s = at x (for_stmt e condition step s)
loop_from x (for_declaration d) condition step s =
    at x (block_stmt (stmts_of
    (stmt (line_of d) (decl_stmt d) ∷ at x (for_stmt None condition step s) ∷ [])))

abbrev pub for_loop : Start → ForHead → StmtData → StmtData
for_loop x head s = loop_from x head.first head.condition head.step s

module _ (most : Limits) (inner : Nested) (deeper : NestedStatements) where
  unfoldable pub else_option : Parser (Option StmtData)
  else_option = do
    j ← peek
    if is_else j then (do expect k.Else; s ← deeper.statement; pure (Some s)) else pure None

  -- ---- statements, by the next two tokens

  abbrev pub named : Start → Kind → Parser StmtData
  named x (k.Mark p.Colon) = do
    t ← expect k.Name
    expect (k.Mark p.Colon)
    s ← deeper.statement
    pure (at x (label_stmt (text_of t) s))
  named x _ = do e ← expression most inner; expect (k.Mark p.Semicolon); pure (at x (expr_stmt e))

  abbrev pub statement_by : Start → Kind → Kind → Parser StmtData
  statement_by x (k.Mark p.Semicolon) l = do expect (k.Mark p.Semicolon); pure (at x empty_stmt)
  statement_by x (k.Mark p.LeftBrace) l = do
    ss ← deeper.block
    pure (at x (block_stmt (stmts_of ss)))
  statement_by x k.Executable l = do t ← expect k.Executable; pure (at x (emb_stmt (number_of t)))
  statement_by x k.Directive l = do t ← expect k.Directive; pure (at x (emb_stmt (number_of t)))
  statement_by x k.If l = do
    expect k.If
    e ← inner.parenthesized
    s ← deeper.statement
    o ← else_option
    pure (at x (if_stmt e s (stmt_of o)))
  statement_by x k.While l = do
    expect k.While
    e ← inner.parenthesized
    s ← deeper.statement
    pure (at x (while_stmt e s))
  statement_by x k.Do l = do
    expect k.Do
    s ← deeper.statement
    expect k.While
    e ← inner.parenthesized
    expect (k.Mark p.Semicolon)
    pure (at x (do_stmt s e))
  statement_by x k.For l = do
    expect k.For
    head ← inner.for_head
    s ← deeper.statement
    pure (for_loop x head s)
  statement_by x k.Break l = do expect k.Break; expect (k.Mark p.Semicolon); pure (at x break_stmt)
  statement_by x k.Continue l = do
    expect k.Continue
    expect (k.Mark p.Semicolon)
    pure (at x continue_stmt)
  statement_by x k.Return l = do
    expect k.Return
    e ← expression_option most inner
    expect (k.Mark p.Semicolon)
    pure (at x (return_stmt e))
  statement_by x k.Goto l = do
    expect k.Goto
    t ← expect k.Name
    expect (k.Mark p.Semicolon)
    pure (at x (goto_stmt (text_of t)))
  statement_by x k.Name l = named x l
  statement_by x _ l = do
    e ← expression most inner
    expect (k.Mark p.Semicolon)
    pure (at x (expr_stmt e))

  unfoldable pub statement : Parser StmtData
  statement = do
    x ← start
    j ← peek
    l ← peek_next
    statement_by x j l

  -- ---- blocks

  abbrev pub block_item_by : Start → Kind → Parser StmtData
  block_item_by x k.Opening = do expect k.Opening; pure (at x (mark_stmt true))
  block_item_by x k.Closing = do expect k.Closing; pure (at x (mark_stmt false))
  block_item_by x k.Const = do d ← declaration most inner; pure (at x (decl_stmt d))
  block_item_by x k.TypeWord = do d ← declaration most inner; pure (at x (decl_stmt d))
  block_item_by x k.Varchar = do d ← declaration most inner; pure (at x (decl_stmt d))
  block_item_by x k.Struct = do d ← declaration most inner; pure (at x (decl_stmt d))
  block_item_by x _ = statement

  unfoldable pub block_item : Parser StmtData
  block_item = do x ← start; j ← peek; block_item_by x j

  unfoldable pub block_items_from : ℕ → List StmtData → Parser (List StmtData)
  block_items_from zero found = pure found
  block_items_from (suc m) found = do
    j ← peek
    if begins_block_item j
        then (do s ← block_item; block_items_from m (found ++ s ∷ []))
        else pure found

  unfoldable pub block_items : Parser (List StmtData)
  block_items = λ i. block_items_from (length i.tokens) [] i

  unfoldable pub block : Parser (List StmtData)
  block = do expect (k.Mark p.LeftBrace); ss ← block_items; expect (k.Mark p.RightBrace); pure ss

module _ (most : Limits) where
  -- with so many levels left where they stand
  unfoldable pub nested_statements : ℕ → NestedStatements
  nested_statements zero = record {
    block = no_level is_left_brace;
    statement = no_level begins_statement;
  }
  nested_statements (suc levels) = record {
    block = block most (nested most levels) (nested_statements levels);
    statement = statement most (nested most levels) (nested_statements levels);
  }

-- ---- programs

module _ (most : Limits) (inner : Nested) (deeper : NestedStatements) where
  abbrev pub body_by : Kind → Parser (Option (List StmtData))
  body_by (k.Mark p.Semicolon) = do expect (k.Mark p.Semicolon); pure None
  body_by (k.Mark p.LeftBrace) = do ss ← deeper.block; pure (Some ss)
  body_by _ = refuse

  unfoldable pub body : Parser (Option (List StmtData))
  body = peek >>= body_by

  abbrev pub body_of : Option (List StmtData) → Option StmtList
  body_of None = None
  body_of (Some ss) = Some (stmts_of ss)

  abbrev pub behind_name_by : Kind → Parser BehindName
  behind_name_by (k.Mark p.LeftParen) = do
    ps ← inner.parameter_part
    b ← body
    pure (function ps (body_of b))
  behind_name_by _ = do
    ds ← lengths most inner
    x ← initializer_option most inner
    xs ← more_declarators most inner []
    expect (k.Mark p.Semicolon)
    pure (object (dims_of ds) (init_of x) (declarators_of xs))

  unfoldable pub behind_name : Parser BehindName
  behind_name = peek >>= behind_name_by

  abbrev pub external_tail_by : Kind → Parser (Option (ℕ × Text × BehindName))
  external_tail_by (k.Mark p.Semicolon) = do expect (k.Mark p.Semicolon); pure None
  external_tail_by _ = do
    n ← stars most
    t ← expect k.Name
    x ← behind_name
    pure (Some (n, text_of t, x))

  unfoldable pub external_tail : Parser (Option (ℕ × Text × BehindName))
  external_tail = peek >>= external_tail_by

  -- a declaration or a function, that begins at x
  unfoldable pub external : Start → Parser TopData
  external x = do b ← specifiers most inner; tail ← own external_tail; pure (external_top x b tail)

  abbrev pub item_by : Start → Kind → Parser TopData
  item_by x k.Include = do t ← expect k.Include; pure (include_top (text_of t))
  item_by x k.Directive = do t ← expect k.Directive; pure (directive_top (number_of t))
  item_by x k.Opening = do expect k.Opening; pure (mark_top true x.line)
  item_by x k.Closing = do expect k.Closing; pure (mark_top false x.line)
  item_by x k.Static = do expect k.Static; external x
  item_by x _ = external x

  unfoldable pub item : Parser TopData
  item = do x ← start; j ← peek; item_by x j

  unfoldable pub items_from : ℕ → List TopData → Parser (List TopData)
  items_from zero found = pure found
  items_from (suc m) found = do
    j ← peek
    if begins_item j then (do x ← item; items_from m (found ++ x ∷ [])) else pure found

  unfoldable pub items : Parser (List TopData)
  items = λ i. items_from (length i.tokens) [] i

  unfoldable pub unit : Parser UnitData
  unit = do
    xs ← items
    t ← expect k.End
    pure (record { tops = xs; embs = []; last = t.token.line })
