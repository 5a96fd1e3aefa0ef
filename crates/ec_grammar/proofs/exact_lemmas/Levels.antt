-- What is read one level deeper is read exactly, with so many levels left.
use Rattle.std.proofs.Common.{ℕ, zero, suc, refl}
use Rattle.ec_language.specs.Grammar.{Limits}
use Rattle.ec_grammar.specs.Starts.{is_left_parenthesis, is_left_bracket, is_left_brace, begins_expression, begins_statement}
use Rattle.ec_grammar.specs.ReadDeclarations.{nested}
use Rattle.ec_grammar.specs.ReadStatements.{nested_statements}
use Rattle.ec_grammar.proofs.exact_lemmas.Nests.{nest_reads, level_reads}
use Rattle.ec_grammar.proofs.exact_lemmas.Inner.{ReadsInner, ReadsDeeper}
use Rattle.ec_grammar.proofs.exact_lemmas.Expressions.{unary_reads, cast_reads, size_reads}
use Rattle.ec_grammar.proofs.exact_lemmas.Assignments.{assignment_reads, parenthesized_reads, index_reads, argument_reads}
use Rattle.ec_grammar.proofs.exact_lemmas.Types.{type_reads}
use Rattle.ec_grammar.proofs.exact_lemmas.Declarations.{length_reads, initializer_list_reads, members_reads, parameter_part_reads, for_head_reads}
use Rattle.ec_grammar.proofs.exact_lemmas.Statements.{statement_reads, block_reads}

pub inner_reads : (most : Limits) (levels : ℕ) → ReadsInner most levels (nested most levels)
unfolding nested
inner_reads most zero = record {
  assignment = level_reads begins_expression refl refl refl;
  cast_part = level_reads begins_expression refl refl refl;
  unary_part = level_reads begins_expression refl refl refl;
  size_operand = level_reads begins_expression refl refl refl;
  parenthesized = level_reads is_left_parenthesis refl refl refl;
  index_part = level_reads is_left_bracket refl refl refl;
  argument_part = level_reads is_left_parenthesis refl refl refl;
  type_in_parentheses = level_reads is_left_parenthesis refl refl refl;
  members = level_reads is_left_brace refl refl refl;
  length_part = level_reads is_left_bracket refl refl refl;
  initializer_list = level_reads is_left_brace refl refl refl;
  parameter_part = level_reads is_left_parenthesis refl refl refl;
  for_head = level_reads is_left_parenthesis refl refl refl;
}
inner_reads most (suc levels) =
    let f = inner_reads most levels in
    let inner = nested most levels in
    record {
      assignment = λ st. nest_reads (assignment_reads most levels inner f st);
      cast_part = λ st. nest_reads (cast_reads most levels inner f st);
      unary_part = λ st. nest_reads (unary_reads most levels inner f st);
      size_operand = λ st. nest_reads (size_reads most levels inner f st);
      parenthesized = λ st. nest_reads (parenthesized_reads most levels inner f st);
      index_part = λ st. nest_reads (index_reads most levels inner f st);
      argument_part = λ st. nest_reads (argument_reads most levels inner f st);
      type_in_parentheses = λ st. nest_reads (type_reads most levels inner f st);
      members = λ st. nest_reads (members_reads most levels inner f st);
      length_part = λ st. nest_reads (length_reads most levels inner f st);
      initializer_list = λ st. nest_reads (initializer_list_reads most levels inner f st);
      parameter_part = λ st. nest_reads (parameter_part_reads most levels inner f st);
      for_head = λ st. nest_reads (for_head_reads most levels inner f st);
    }

pub deeper_reads : (most : Limits) (levels : ℕ) → ReadsDeeper most levels (nested_statements most levels)
unfolding nested_statements
deeper_reads most zero = record { block = level_reads is_left_brace refl refl refl; statement = level_reads begins_statement refl refl refl }
deeper_reads most (suc levels) = record {
  block = λ st. nest_reads (block_reads most levels (nested most levels) (nested_statements most levels) (inner_reads most levels) (deeper_reads most levels) st);
  statement = λ st. nest_reads (statement_reads most levels (nested most levels) (nested_statements most levels) (inner_reads most levels) (deeper_reads most levels) st);
}
