-- What an evaluation gives, as a value or why there is none.
use Rattle.std.specs.Prelude.{Result, Ok, Err}
use Rattle.ec_base.specs.declared.stop.Trap.TheVariants as trap
use Rattle.ec_values.specs.declared.word.Stop.{Stop}
use Rattle.ec_values.specs.declared.word.Stop.TheVariants as stop
use Rattle.ec_values.specs.declared.word.Word.{Word}
use Rattle.ec_values.specs.declared.word.Word.TheVariants as word
use Rattle.ec_plain.specs.declared.outcome.Outcome.{Outcome}
use Rattle.ec_plain.specs.declared.outcome.Outcome.TheVariants as outcome

abbrev pub outcome_view : Outcome → Result Word Stop
outcome_view (outcome.Signed z) = Ok (word.Signed z)
outcome_view (outcome.Unsigned n) = Ok (word.Unsigned n)
outcome_view (outcome.Address p) = Ok (word.Address p)
outcome_view outcome.Outside = Err (stop.Trap trap.Outside)
outcome_view outcome.Dead = Err (stop.Trap trap.Dead)
outcome_view outcome.Null = Err (stop.Trap trap.Null)
outcome_view outcome.Unset = Err (stop.Trap trap.Unset)
outcome_view outcome.Overflow = Err (stop.Trap trap.Overflow)
outcome_view outcome.Shift = Err (stop.Trap trap.Shift)
outcome_view outcome.Zero = Err (stop.Trap trap.Zero)
outcome_view outcome.NoValue = Err (stop.Trap trap.NoValue)
outcome_view outcome.BadLen = Err (stop.Trap trap.BadLen)
outcome_view outcome.Spent = Err (stop.Trap trap.Spent)
outcome_view outcome.Misfit = Err stop.Misfit
