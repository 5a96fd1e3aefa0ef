-- Calls of a program, as those of the definitions.
use Rattle.std.specs.Prelude.{List, map}
use Rattle.ec_arguments.specs.Arguments as arg
use Rattle.ec_arguments.specs.Arguments.{Arg}
use Rattle.ec_code.specs.Views.{plain_view}
use Rattle.ec_ctypes.specs.declared.checked.library.LibName.{LibName}
use Rattle.ec_meaning_defs.specs.resolved.Resolved.{Exp, faulty}
use Rattle.ec_calling.specs.declared.call.Argument.{Argument}
use Rattle.ec_calling.specs.declared.call.Argument.TheVariants as argument
use Rattle.ec_calling.specs.declared.call.Call.{Call}

abbrev pub argument_view : Argument → Arg Exp
argument_view (argument.Symbol s) = arg.symbol s
argument_view (argument.Literal bytes) = arg.literal bytes
argument_view argument.Null = arg.null
argument_view (argument.Int n) = arg.int_constant n
argument_view (argument.Long n) = arg.long_constant n
argument_view (argument.Pointer e) = arg.pointer (plain_view e)
argument_view argument.Before = arg.pointer faulty
argument_view argument.Stray = arg.stray

abbrev pub call_view : Call → LibName × List (Arg Exp)
call_view c = (c.name, map argument_view c.arguments)
