use Rattle.ec_sound_expression_laws.proofs.Expressions.{expr_walks, args_walk}
use Rattle.ec_sound_expression_laws.proofs.laws.expressions_fit.Goals as goal

pub returns-clause-expressions : goal.returns-clause-expressions
returns-clause-expressions c = λ gs calls n written at e s w h p f.
    let x = ((expr_walks gs calls n written at e h p).steps s w).fits f.standing tt f.nothing_wrong f.shallow f.calls_so_far in record { standing = x.0; fits = x.1 }

pub returns-clause-arguments : goal.returns-clause-arguments
returns-clause-arguments c = λ gs calls n written at forms es s w h p f.
    let x = ((args_walk gs calls n written at forms es h p).steps s w).fits f.standing tt f.nothing_wrong f.shallow f.calls_so_far in record { standing = x.0; fits = x.1 }
