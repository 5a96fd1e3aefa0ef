-- Types, declarators and declarations, read from the front.
use Rattle.std.specs.Prelude.{ℕ, zero, suc, ◌+◌, List, [], ◌∷◌, ◌++◌, length, Option, Some, None, if◌then◌else◌}
use Rattle.ec_ctypes.specs.declared.text.token.Punct.TheVariants as p
use Rattle.ec_ctypes.specs.trees.Exprs.{ExprData, BaseData, words, varchar, tagged, struct_base, InitData, one, many, DeclaratorData, declarator, DeclData}
use Rattle.ec_ctypes.specs.trees.Units.{ParamData}
use Rattle.ec_ctypes.specs.views.Exprs.{dims_of, inits_of, init_of, declarators_of, decls_of}
use Rattle.ec_language.specs.Letters.{Text}
use Rattle.ec_language.specs.Productions.{derivations, declared, without_void, text_of, ForStart, for_expression, for_declaration, ForHead, or_rank}
use Rattle.ec_language.specs.Grammar.{Limits}
use Rattle.ec_grammar.specs.declared.kind.Kind.{Kind}
use Rattle.ec_grammar.specs.declared.kind.Kind.TheVariants as k
use Rattle.ec_grammar.specs.Input.{Parser, ◌>>=◌, ◌>>◌, pure, refuse, no_level, peek, peek_next, start, expect, expect_counted, whole, own}
use Rattle.ec_grammar.specs.Lists.{separated}
use Rattle.ec_grammar.specs.Nested.{Nested}
use Rattle.ec_grammar.specs.ReadExpressions.{assignment, unary_part, cast_part, size_operand, operators, expression, expression_option, parenthesized, index_part, argument_part}
use Rattle.ec_grammar.specs.Starts.{is_star, is_comma, is_const, is_name, is_assign, is_left_parenthesis, is_left_bracket, is_left_brace, begins_type, begins_expression, begins_initializer, begins_declarator}

-- ---- words and stars

unfoldable pub constants_from : ℕ → Parser (Unit {0})
constants_from zero = pure tt
constants_from (suc m) = do
  j ← peek
  if is_const j then (do expect k.Const; constants_from m) else pure tt

unfoldable pub constants : Parser (Unit {0})
constants = λ i. constants_from (length i.tokens) i

abbrev pub more_words_by : (List Text → Parser (List Text)) → List Text → Kind → Parser (List Text)
more_words_by more found k.Const = do expect k.Const; more found
more_words_by more found k.TypeWord = do t ← expect k.TypeWord; more (found ++ text_of t ∷ [])
more_words_by more found _ = pure found

unfoldable pub more_words_from : ℕ → List Text → Parser (List Text)
more_words_from zero found = pure found
more_words_from (suc m) found = peek >>= more_words_by (more_words_from m) found

unfoldable pub more_words : List Text → Parser (List Text)
more_words found = λ i. more_words_from (length i.tokens) found i

module _ (most : Limits) where
  unfoldable pub stars_from : ℕ → ℕ → Parser ℕ
  stars_from zero n = pure n
  stars_from (suc m) n = do
    j ← peek
    if is_star j
        then (do expect_counted most derivations (k.Mark p.Star); constants; stars_from m (n + 1))
        else pure n

  unfoldable pub stars : Parser ℕ
  stars = λ i. stars_from (length i.tokens) 0 i

abbrev pub tag_base : Text → Option (List DeclData) → BaseData
tag_base tag None = tagged tag
tag_base tag (Some ms) = struct_base (Some tag) (decls_of ms)

module _ (most : Limits) (inner : Nested) where
  -- ---- types

  unfoldable pub members_option : Parser (Option (List DeclData))
  members_option = do
    j ← peek
    if is_left_brace j then (do ms ← inner.members; pure (Some ms)) else pure None

  abbrev pub tag_or_members_by : Kind → Parser BaseData
  tag_or_members_by k.Name = do
    t ← expect k.Name
    ms ← members_option
    pure (tag_base (text_of t) ms)
  tag_or_members_by (k.Mark p.LeftBrace) = do
    ms ← inner.members
    pure (struct_base None (decls_of ms))
  tag_or_members_by _ = refuse

  unfoldable pub tag_or_members : Parser BaseData
  tag_or_members = peek >>= tag_or_members_by

  abbrev pub base_by : Kind → Parser BaseData
  base_by k.TypeWord = do t ← expect k.TypeWord; ws ← more_words (text_of t ∷ []); pure (words ws)
  base_by k.Varchar = do expect k.Varchar; constants; pure varchar
  base_by k.Struct = do expect k.Struct; b ← tag_or_members; constants; pure b
  base_by _ = refuse

  unfoldable pub base : Parser BaseData
  base = peek >>= base_by

  unfoldable pub specifiers : Parser BaseData
  specifiers = do constants; base

  unfoldable pub type_name : Parser (BaseData × ℕ)
  type_name = do b ← specifiers; n ← stars most; pure (b, n)

  unfoldable pub type_in_parentheses : Parser (BaseData × ℕ)
  type_in_parentheses = do
    expect (k.Mark p.LeftParen)
    t ← own type_name
    expect (k.Mark p.RightParen)
    pure t

  -- ---- declarators

  unfoldable pub length_option : Parser (Option ExprData)
  length_option = do
    j ← peek
    if begins_expression j
        then (do e ← whole (operators most inner or_rank); pure (Some e))
        else pure None

  unfoldable pub length_part : Parser (Option ExprData)
  length_part = do
    expect_counted most derivations (k.Mark p.LeftBracket)
    d ← length_option
    expect (k.Mark p.RightBracket)
    pure d

  unfoldable pub lengths_from : ℕ → List (Option ExprData) → Parser (List (Option ExprData))
  lengths_from zero found = pure found
  lengths_from (suc m) found = do
    j ← peek
    if is_left_bracket j
        then (do d ← inner.length_part; lengths_from m (found ++ d ∷ []))
        else pure found

  unfoldable pub lengths : Parser (List (Option ExprData))
  lengths = λ i. lengths_from (length i.tokens) [] i

  abbrev pub initializer_by : Kind → Parser InitData
  initializer_by (k.Mark p.LeftBrace) = do is ← inner.initializer_list; pure (many (inits_of is))
  initializer_by _ = do e ← expression most inner; pure (one e)

  unfoldable pub initializer : Parser InitData
  initializer = peek >>= initializer_by

  -- behind a comma, which may stand behind the last
  abbrev pub one_more_initializer : (List InitData → Parser (List InitData)) → List InitData → Kind
      → Parser (List InitData)
  one_more_initializer more found j =
      if begins_initializer j
      then (do x ← initializer; more (found ++ x ∷ []))
      else pure found

  unfoldable pub more_initializers_from : ℕ → List InitData → Parser (List InitData)
  more_initializers_from zero found = pure found
  more_initializers_from (suc m) found = do
    j ← peek
    l ← peek_next
    if is_comma j
        then (do expect (k.Mark p.Comma); one_more_initializer (more_initializers_from m) found l)
        else pure found

  unfoldable pub more_initializers : List InitData → Parser (List InitData)
  more_initializers found = λ i. more_initializers_from (length i.tokens) found i

  unfoldable pub initializer_list : Parser (List InitData)
  initializer_list = do
    expect (k.Mark p.LeftBrace)
    x ← initializer
    xs ← more_initializers (x ∷ [])
    expect (k.Mark p.RightBrace)
    pure xs

  unfoldable pub initializer_option : Parser (Option InitData)
  initializer_option = do
    j ← peek
    if is_assign j then (do expect (k.Mark p.Assign); x ← initializer; pure (Some x)) else pure None

  unfoldable pub declarator_part : Parser DeclaratorData
  declarator_part = do
    n ← stars most
    t ← expect k.Name
    ds ← lengths
    x ← initializer_option
    pure (declarator n (text_of t) (dims_of ds) (init_of x))

  -- further ones, each behind a comma
  abbrev pub more_declarators : List DeclaratorData → Parser (List DeclaratorData)
  more_declarators = separated (own declarator_part)

  unfoldable pub declarators_option : Parser (List DeclaratorData)
  declarators_option = do
    j ← peek
    if begins_declarator j then (do x ← own declarator_part; more_declarators (x ∷ [])) else pure []

  -- ---- declarations

  unfoldable pub declaration : Parser DeclData
  declaration = do
    at ← start
    b ← specifiers
    xs ← declarators_option
    expect (k.Mark p.Semicolon)
    pure (declared at b (declarators_of xs))

  -- a declaration with one declarator at least: of members, and in a `for`
  unfoldable pub member_declaration : Parser DeclData
  member_declaration = do
    at ← start
    b ← specifiers
    x ← own declarator_part
    xs ← more_declarators (x ∷ [])
    expect (k.Mark p.Semicolon)
    pure (declared at b (declarators_of xs))

  unfoldable pub more_members_from : ℕ → List DeclData → Parser (List DeclData)
  more_members_from zero found = pure found
  more_members_from (suc m) found = do
    j ← peek
    if begins_type j
        then (do x ← member_declaration; more_members_from m (found ++ x ∷ []))
        else pure found

  unfoldable pub more_members : List DeclData → Parser (List DeclData)
  more_members found = λ i. more_members_from (length i.tokens) found i

  unfoldable pub members : Parser (List DeclData)
  members = do
    expect (k.Mark p.LeftBrace)
    x ← member_declaration
    xs ← more_members (x ∷ [])
    expect (k.Mark p.RightBrace)
    pure xs

  -- ---- parameters

  unfoldable pub parameter_name : Parser (Option Text)
  parameter_name = do
    j ← peek
    if is_name j then (do t ← expect k.Name; pure (Some (text_of t))) else pure None

  unfoldable pub parameter : Parser ParamData
  parameter = do
    at ← start
    b ← specifiers
    n ← stars most
    name ← parameter_name
    ds ← lengths
    pure (record { base = b; stars = n; name = name; dims = dims_of ds; section = at.section })

  abbrev pub more_parameters : List ParamData → Parser (List ParamData)
  more_parameters = separated (own parameter)

  unfoldable pub parameters : Parser (List ParamData)
  parameters = do
    j ← peek
    if begins_type j then (do x ← own parameter; more_parameters (x ∷ [])) else pure []

  unfoldable pub parameter_part : Parser (List ParamData)
  parameter_part = do
    expect (k.Mark p.LeftParen)
    xs ← parameters
    expect (k.Mark p.RightParen)
    pure (without_void xs)

  -- ---- the head of a `for`

  abbrev pub first_expression : Parser ForStart
  first_expression = do
    e ← expression_option most inner
    expect (k.Mark p.Semicolon)
    pure (for_expression e)

  unfoldable pub for_start : Parser ForStart
  for_start = do
    j ← peek
    if begins_type j
        then (do x ← member_declaration; pure (for_declaration x))
        else first_expression

  unfoldable pub for_head : Parser ForHead
  for_head = do
    expect (k.Mark p.LeftParen)
    first ← for_start
    condition ← expression_option most inner
    expect (k.Mark p.Semicolon)
    step ← expression_option most inner
    expect (k.Mark p.RightParen)
    pure (record { first = first; condition = condition; step = step })

-- ---- levels

module _ (most : Limits) where
  -- with so many levels left where they stand
  unfoldable pub nested : ℕ → Nested
  nested zero = record {
    assignment = no_level begins_expression;
    cast_part = no_level begins_expression;
    unary_part = no_level begins_expression;
    size_operand = no_level begins_expression;
    parenthesized = no_level is_left_parenthesis;
    index_part = no_level is_left_bracket;
    argument_part = no_level is_left_parenthesis;
    type_in_parentheses = no_level is_left_parenthesis;
    members = no_level is_left_brace;
    length_part = no_level is_left_bracket;
    initializer_list = no_level is_left_brace;
    parameter_part = no_level is_left_parenthesis;
    for_head = no_level is_left_parenthesis;
    operators = no_level begins_expression;
  }
  nested (suc levels) = record {
    assignment = assignment most (nested levels);
    cast_part = cast_part most (nested levels);
    unary_part = unary_part most (nested levels);
    size_operand = size_operand most (nested levels);
    parenthesized = parenthesized most (nested levels);
    index_part = index_part most (nested levels);
    argument_part = argument_part most (nested levels);
    type_in_parentheses = type_in_parentheses most (nested levels);
    members = members most (nested levels);
    length_part = length_part most (nested levels);
    initializer_list = initializer_list most (nested levels);
    parameter_part = parameter_part most (nested levels);
    for_head = for_head most (nested levels);
    operators = operators most (nested levels) or_rank;
  }
