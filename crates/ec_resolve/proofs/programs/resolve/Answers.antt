use Rattle.ec_resolve.proofs.Whole.{resolved}
use Rattle.ec_resolve.proofs.programs.resolve.Goals as goal

pub walked-requires : goal.walked-requires
walked-requires c = c.requires.no_statements

pub returns : goal.returns
returns c = record {
  program = resolved c.walked.result c.args.written c.args.unit.now c.requires.no_violations c.walked.ensures.program;
  calls = c.walked.ensures.calls;
}
