use Rattle.ec_resolving_defs.proofs.Agreeing.{expr_finds, args_find, base_finds, lengths_find}
use Rattle.ec_resolving_defs.proofs.AgreeingPrograms.{initializer_finds, declaration_finds, statement_finds, tops_find}
use Rattle.ec_typing_defs.specs.Programs.{start}
use Rattle.ec_resolving_defs.specs.Programs.{no_storage}
use Rattle.ec_resolving_defs.proofs.laws.operands_are_those_of_the_checks.Goals as goal

pub returns : goal.returns
returns c = record {
  expressions = λ at e. expr_finds at e;
  arguments = λ at forms es. args_find at forms es;
  types = λ at b. base_finds at b;
  lengths = λ at ds. lengths_find at ds;
  initializers = λ at global t i. initializer_finds at global t i;
  declarations = λ global d. declaration_finds global d;
  statements = λ a s. statement_finds a s;
  programs = λ written u. (tops_find u.embs u.tops).world (no_storage u) (start written u);
}
