-- Where runs are left, as the machine names it.
use Rattle.ec_base.specs.declared.stop.Trap.TheVariants as traps
use Rattle.ec_machine.specs.declared.stop.End.TheVariants as ends
use Rattle.ec_memory.specs.declared.store.MakeStop.{MakeStop}
use Rattle.ec_memory.specs.declared.store.MakeStop.TheVariants as makes
use Rattle.ec_interp.specs.declared.running.halt.Halt.{Halt}
use Rattle.ec_interp.specs.declared.running.halt.Halt.TheVariants as halt
use Rattle.ec_interp.specs.declared.end.RunEnd.{RunEnd}
use Rattle.ec_interp.specs.declared.end.RunEnd.TheVariants as end
use Rattle.ec_interp.specs.declared.end.Step.{Step}
use Rattle.ec_interp.specs.declared.end.Step.TheVariants as step

-- where a run was left
abbrev pub halt_of : Step → Halt
halt_of step.Asks = halt.Asks
halt_of (step.Ended (end.Exited n)) = halt.Over (ends.Exited n)
halt_of (step.Ended (end.Trapped trap line)) = halt.Over (ends.Trapped trap line)
halt_of (step.Ended end.TurnsSpent) = halt.Over ends.TurnsSpent
halt_of (step.Ended end.Stuck) = halt.Over ends.Stuck
halt_of (step.Ended end.WriteFault) = halt.WriteFault
halt_of (step.Ended end.OutOfMemory) = halt.OutOfMemory

-- where an object of the program was not made, on line 1
abbrev pub stopped : MakeStop → RunEnd
stopped makes.Spent = end.Trapped traps.Spent (record { 0 = 1 })
stopped makes.OutOfMemory = end.OutOfMemory
