-- What a step leads to, by what it does before the other expression is evaluated.
use Rattle.std.specs.Prelude.{Result, Ok, Err}
use Rattle.ec_code.specs.declared.step.Binary.{Binary}
use Rattle.ec_meaning_defs.specs.evaluation.Evaluate.{Context, World, Step as Knowing, eval}
use Rattle.ec_meaning_defs.specs.evaluation.Results.{Res, value, over, on_value}
use Rattle.ec_meaning_defs.specs.evaluation.State.{State}
use Rattle.ec_memory_defs.specs.Memory.{ValueData}
use Rattle.ec_meaning_defs.specs.resolved.Resolved.{Exp}
use Rattle.ec_values.specs.Words.{word_view}
use Rattle.ec_values.specs.declared.word.Stop.{Stop}
use Rattle.ec_plain.specs.Answered.{ending_of}
use Rattle.ec_plain.specs.Steps.{both_on}
use Rattle.ec_plain.specs.declared.both.Ready.{Ready}
use Rattle.ec_plain.specs.declared.both.Ready.TheVariants as ready

abbrev pub readied : Knowing → World → Context → Binary →
    Exp → ValueData → Result Ready Stop → State → Res
readied knowing w c b a v (Ok (ready.Done done)) t = value (word_view done) t
readied knowing w c b a v (Ok (ready.Waits old)) t =
    on_value (eval knowing w c a t) (both_on c.line b v (word_view old))
readied knowing w c b a v (Err why) t = over (ending_of c.line why) t
