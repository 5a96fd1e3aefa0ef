use Rattle.ec_written_laws.proofs.written_lemmas.WrittenStatements.{program_is}
use Rattle.ec_written_laws.proofs.written.laws.expanded_programs_have_written_shape.Goals as goal

pub returns : goal.returns
returns c = program_is
