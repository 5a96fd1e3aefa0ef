use Rattle.std.proofs.Common.{false, refl}
use Rattle.ec_sound_program_laws.proofs.Initials.{initial_walks}
use Rattle.ec_sound_program_laws.proofs.Values.{condition_walks, alone_walks, return_walks}
use Rattle.ec_sound_program_laws.proofs.laws.values_are_of_their_sorts.Goals as goal

pub returns-clause-conditions : goal.returns-clause-conditions
returns-clause-conditions c = λ gs calls written n at e s w h p f.
    let x = ((condition_walks gs calls n written at e h p).steps s w).fits f.standing tt f.nothing_wrong f.shallow f.calls_so_far in record { standing = x.0; fits = x.1 }

pub returns-clause-unused : goal.returns-clause-unused
returns-clause-unused c = λ gs calls written n at e s w h p f.
    let x = ((alone_walks gs calls n written at e h p).steps s w).fits f.standing tt f.nothing_wrong f.shallow f.calls_so_far in record { standing = x.0; fits = x.1 }

pub returns-clause-returns : goal.returns-clause-returns
returns-clause-returns c = λ gs calls written a at r e s w typed gives h p f.
    let x = ((return_walks gs calls written a at r e typed gives h p).steps s w).fits f.standing tt f.nothing_wrong f.shallow f.calls_so_far in record { standing = x.0; fits = x.1 }

pub returns-clause-initials : goal.returns-clause-initials
returns-clause-initials c = λ gs calls written n i at t x s w less h p f.
    let y = ((initial_walks gs calls n written i false (λ e. less) at t x h p).steps s w).fits f.standing tt f.nothing_wrong f.shallow f.calls_so_far in record { standing = y.0; fits = y.1 refl }
