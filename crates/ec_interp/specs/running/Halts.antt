-- How a run is left where a step leads nowhere.
use Rattle.ec_machine.specs.declared.stop.Stop.{Stop}
use Rattle.ec_machine.specs.declared.stop.Stop.TheVariants as stop
use Rattle.ec_interp.specs.declared.running.halt.Halt.{Halt}
use Rattle.ec_interp.specs.declared.running.halt.Halt.TheVariants as halt

abbrev pub halt_of : Stop → Halt
halt_of (stop.Over e) = halt.Over e
halt_of stop.OutOfMemory = halt.OutOfMemory
