-- Programs with their calls, as those of the definitions.
use Rattle.std.specs.Prelude.{map}
use Rattle.ec_calling.specs.Views.{call_view}
use Rattle.ec_code.specs.Views.{program_view}
use Rattle.ec_execution_defs.specs.Programs as of
use Rattle.ec_execute.specs.declared.executable.Executable.{Executable}

abbrev pub executable_view : Executable → of.Executable
executable_view x = record { program = program_view x.program; calls = map call_view x.calls }
