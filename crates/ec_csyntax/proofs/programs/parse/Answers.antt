use Rattle.ec_csyntax.proofs.Answered.{told_tree, told_stop, told_only, at_tokens}
use Rattle.ec_csyntax.proofs.programs.parse.Goals as goal

pub returns-clause-tree : goal.returns-clause-tree
returns-clause-tree c = told_tree _ _ _ (at_tokens _ _ _ c.as_slice.ensures c.read_unit.ensures) (c.readings_are_exact.ensures.answered _ c.requires)

pub returns-clause-stop : goal.returns-clause-stop
returns-clause-stop c = told_stop _ _ _ (at_tokens _ _ _ c.as_slice.ensures c.read_unit.ensures) (c.readings_are_exact.ensures.answered _ c.requires)

pub returns-clause-only : goal.returns-clause-only
returns-clause-only c = told_only _ _ _ (at_tokens _ _ _ c.as_slice.ensures c.read_unit.ensures) (λ a t. c.readings_are_exact.ensures.one_answer _ a c.requires t)
