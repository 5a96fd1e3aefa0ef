-- What is read at the top level, with all levels left.
use Rattle.std.specs.Prelude.{ℕ, Bool, List, [], ◌∷◌}
use Rattle.ec_ctypes.specs.declared.text.token.Punct.TheVariants as p
use Rattle.ec_ctypes.specs.trees.Exprs.{BaseData, DeclaratorData, declarator}
use Rattle.ec_ctypes.specs.trees.Units.{TopData, decl_top}
use Rattle.ec_ctypes.specs.views.Exprs.{dims_of, init_of, declarators_of}
use Rattle.ec_language.specs.Letters.{Text}
use Rattle.ec_language.specs.Productions.{Start, text_of, declared, function, external_named, external_top}
use Rattle.ec_language.specs.Syntax.{limits}
use Rattle.ec_grammar.specs.declared.kind.Kind.{Kind}
use Rattle.ec_grammar.specs.declared.kind.Kind.TheVariants as k
use Rattle.ec_grammar.specs.Input.{Parser, ◌>>=◌, ◌>>◌, pure, expect}
use Rattle.ec_grammar.specs.Kinds.{same_kind}
use Rattle.ec_grammar.specs.Nested.{Nested, NestedStatements}
use Rattle.ec_grammar.specs.ReadDeclarations.{nested, stars, lengths, initializer_option, more_declarators}
use Rattle.ec_grammar.specs.ReadStatements.{nested_statements, body, body_of, behind_name, external_tail}

abbrev pub top_inner : Nested
top_inner = nested limits limits.nesting

abbrev pub top_deeper : NestedStatements
top_deeper = nested_statements limits limits.nesting

abbrev pub is_semicolon : Kind → Bool
is_semicolon j = same_kind j (k.Mark p.Semicolon)

-- the declarators of a declaration of objects, of which the first has so many stars and this name
unfoldable pub object_declarators : ℕ → Text → Parser (List DeclaratorData)
object_declarators n name' = do
  ds ← lengths limits top_inner
  x ← initializer_option limits top_inner
  xs ← more_declarators limits top_inner []
  pure (declarator n name' (dims_of ds) (init_of x) ∷ xs)

-- what stands behind a name, as a declaration of objects that begins at x
unfoldable pub named_object : Start → BaseData → ℕ → Text → Parser TopData
named_object x b n name' = do
  ds ← object_declarators n name'
  expect (k.Mark p.Semicolon)
  pure (decl_top (declared x b (declarators_of ds)))

-- and as a function
unfoldable pub named_function : Start → BaseData → ℕ → Text → Parser TopData
named_function x b n name' = do
  ps ← top_inner.parameter_part
  c ← body limits top_inner top_deeper
  pure (external_named x b n name' (function ps (body_of limits top_inner top_deeper c)))

-- and as either
unfoldable pub named : Start → BaseData → ℕ → Text → Parser TopData
named x b n name' =
    behind_name limits top_inner top_deeper
    >>= (λ behind. pure (external_named x b n name' behind))

-- what stands behind a base, where it has no name, where it has one, and as either
unfoldable pub nameless : Start → BaseData → Parser TopData
nameless x b = do expect (k.Mark p.Semicolon); pure (decl_top (declared x b (declarators_of [])))

unfoldable pub with_name : Start → BaseData → Parser TopData
with_name x b = do n ← stars limits; t ← expect k.Name; named x b n (text_of t)

unfoldable pub tail : Start → BaseData → Parser TopData
tail x b = external_tail limits top_inner top_deeper >>= (λ found. pure (external_top x b found))
