-- What an evaluation answers, as the definition says it.
use Rattle.std.specs.Prelude.{ℕ, Bool, List, map, Result, Ok, Err}
use Rattle.ec_bytes.specs.declared.scalar.address.Ptr.{Ptr}
use Rattle.ec_meaning_defs.specs.evaluation.Evaluate.{Context}
use Rattle.ec_meaning_defs.specs.evaluation.Results.{Res, value, over}
use Rattle.ec_meaning_defs.specs.evaluation.State.{State, Ending, trapped, stuck}
use Rattle.ec_memory_defs.specs.Memory.{Memory}
use Rattle.ec_values.specs.Words.{word_view}
use Rattle.ec_values.specs.declared.word.Stop.{Stop}
use Rattle.ec_values.specs.declared.word.Stop.TheVariants as stop
use Rattle.ec_values.specs.declared.word.Word.{Word}

-- a state with this memory
abbrev pub at : State → Memory → State
at s m = record s { memory = m }

-- how a run ends that stops on this line
abbrev pub ending_of : ℕ → Stop → Ending
ending_of line (stop.Trap t) = trapped t line
ending_of line stop.Misfit = stuck

-- a value, or the end of the run
abbrev pub answered : ℕ → Result Word Stop → State → Res
answered line (Ok v) s = value (word_view v) s
answered line (Err why) s = over (ending_of line why) s

-- the objects in scope
abbrev pub scope_view : List Ptr → List ℕ
scope_view = map (λ p. p.0)

abbrev pub context : ℕ → List Ptr → Bool → Context
context line scope first = record { line = line; objects = scope_view scope; first = first }
