use Rattle.ec_sound_program_laws.proofs.Declarations.{declaration_run}
use Rattle.ec_sound_program_laws.proofs.Statements.{statements_run}
use Rattle.ec_sound_program_laws.proofs.laws.statements_are_sound.Goals as goal

pub returns : goal.returns
returns c = λ gs calls written body gives a n j ss s w i h p f.
    (((statements_run gs calls written body gives (declaration_run gs calls written body gives) a i n j ss h p).steps s w).fits f.known f.scope f.room_for tt f.nothing_wrong f.shallow f.calls_so_far).1
