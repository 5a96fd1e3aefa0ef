use Rattle.ec_sound_statement_laws.proofs.Sparing.{expr_spares, args_spare, base_spares, lengths_spare, initializer_spares}
use Rattle.ec_sound_statement_laws.proofs.laws.expressions_declare_nothing.Goals as goal

pub returns-clause-expressions : goal.returns-clause-expressions
returns-clause-expressions c = expr_spares

pub returns-clause-arguments : goal.returns-clause-arguments
returns-clause-arguments c = args_spare

pub returns-clause-types : goal.returns-clause-types
returns-clause-types c = base_spares

pub returns-clause-lengths : goal.returns-clause-lengths
returns-clause-lengths c = lengths_spare

pub returns-clause-initializers : goal.returns-clause-initializers
returns-clause-initializers c = initializer_spares
