-- Where a machine is behind a step.
use Rattle.ec_interp.specs.declared.end.Step.{Step}
use Rattle.ec_interp.specs.declared.end.Step.TheVariants as step
use Rattle.ec_stepper.specs.declared.standing.Standing.{Standing}
use Rattle.ec_stepper.specs.declared.standing.Standing.TheVariants as standing

abbrev pub standing_behind : Step → Standing
standing_behind step.Asks = standing.Asks
standing_behind (step.Ended e) = standing.Ended
