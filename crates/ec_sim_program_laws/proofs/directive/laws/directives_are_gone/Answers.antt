use Rattle.ec_sim_program_laws.proofs.directive_lemmas.Gone.{directive_gone}
use Rattle.ec_sim_program_laws.specs.program.Programs.{whole_by}
use Rattle.ec_sim_program_laws.proofs.directive.laws.directives_are_gone.Goals as goal

pub returns : goal.returns
returns c = λ t forms calls numbers w handlers bounds n e here directive make_nothing keep.
    directive_gone (whole_by t forms calls numbers w) handlers bounds n e here directive make_nothing keep
