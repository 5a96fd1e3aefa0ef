use Rattle.std.proofs.Common.{refl}
use Rattle.ec_execution_defs.specs.Programs.{resolved}
use Rattle.ec_execution_defs.specs.Programs.IsProgram.{left_of}
use Rattle.ec_execution_defs.proofs.Single.{single}
use Rattle.ec_execution_defs.proofs.laws.written_programs_are_single.Goals as goal

pub returns : goal.returns
returns c = record {
  one = (λ text a b. single text (c.written_is_read.ensures.one text) a b);
  there = (λ text. let r = c.written_is_read.ensures.read text in (resolved r.0, left_of r.0 r.1 refl));
}
