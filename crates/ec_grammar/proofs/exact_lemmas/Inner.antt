-- What is known of the functions that read one level deeper.
use Rattle.std.proofs.Common.{ℕ}
use Rattle.ec_language.specs.Productions.{ForHead, Element, nest, Node}
use Rattle.ec_language.specs.Productions as g
use Rattle.ec_language.specs.Grammar.{Limits}
use Rattle.ec_grammar.specs.Input.{State, Parser}
use Rattle.ec_grammar.specs.Nested.{Nested, NestedStatements}
use Rattle.ec_grammar.proofs.exact_lemmas.Exact.{Reads}
use Rattle.ec_grammar.proofs.exact_lemmas.Lists.{exprs_in, decls_in, dim_in, inits_in, stmts_in}

-- The function reads the element exactly, from each state.
abbrev pub Reading : Limits → ℕ → (i : Element) → {B : Type 0} → (Node i → B) → Parser B → Type 0
Reading most levels i {B} h p = (st : State) → Reads most levels st.counts i B h st.tokens (p st)

pub record ReadsInner (most : Limits) (levels : ℕ) (inner : Nested) : Type 0 where
  pub assignment : Reading most levels (nest g.assignment) (λ x. x) inner.assignment
  pub cast_part : Reading most levels (nest g.cast_part) (λ x. x) inner.cast_part
  pub unary_part : Reading most levels (nest g.unary_part) (λ x. x) inner.unary_part
  pub size_operand : Reading most levels (nest g.size_operand) (λ x. x) inner.size_operand
  pub parenthesized : Reading most levels (nest g.parenthesized) (λ x. x) inner.parenthesized
  pub index_part : Reading most levels (nest g.index_part) (λ x. x) inner.index_part
  pub argument_part : Reading most levels (nest g.argument_part) exprs_in inner.argument_part
  pub type_in_parentheses : Reading most levels (nest g.type_in_parentheses) (λ x. x) inner.type_in_parentheses
  pub members : Reading most levels (nest g.members) decls_in inner.members
  pub length_part : Reading most levels (nest g.length_part) dim_in inner.length_part
  pub initializer_list : Reading most levels (nest g.initializer_list) inits_in inner.initializer_list
  pub parameter_part : Reading most levels (nest g.parameter_part) (λ x. x) inner.parameter_part
  pub for_head : Reading most levels (nest g.for_head) (λ x. x) inner.for_head

pub record ReadsDeeper (most : Limits) (levels : ℕ) (deeper : NestedStatements) : Type 0 where
  pub block : Reading most levels (nest g.block) stmts_in deeper.block
  pub statement : Reading most levels (nest g.statement) (λ v. v.statement) deeper.statement
