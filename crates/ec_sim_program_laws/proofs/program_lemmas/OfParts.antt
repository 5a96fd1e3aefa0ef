-- Declarations, by what is taken of their parts.
use Rattle.ec_sim_program_laws.specs.program.Declared.{PlainAreAlike, VarcharsAreAlike, DeclarationsAreAlike}
use Rattle.ec_sim_program_laws.specs.program.Laws.{PartsAreAlike}
use Rattle.ec_sim_program_laws.proofs.program_lemmas.Declaring.{plain_are_alike}
use Rattle.ec_sim_program_laws.proofs.program_lemmas.DeclaredVarchars.{varchars_are_alike, declarations_are_alike}

pub plain_of : PartsAreAlike → PlainAreAlike
plain_of h = plain_are_alike h.types h.lengths h.initializers

pub varchars_of : PartsAreAlike → VarcharsAreAlike
varchars_of h = varchars_are_alike h.objects h.outer_lengths h.initializers

pub declarations_of : PartsAreAlike → DeclarationsAreAlike
declarations_of h = declarations_are_alike (plain_of h) (varchars_of h)
