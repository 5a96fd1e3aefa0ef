-- Which arguments are no expressions, as the code has it.
use Rattle.ec_typing_defs.specs.Known.{ArgumentsData, all_expressions, stream_first, with_symbols}
use Rattle.ec_known.specs.declared.arguments.Arguments.{Arguments}
use Rattle.ec_known.specs.declared.arguments.Arguments.TheVariants.{AllExpressions, StreamFirst, WithSymbols}

abbrev pub arguments_view : Arguments → ArgumentsData
arguments_view AllExpressions = all_expressions
arguments_view StreamFirst = stream_first
arguments_view WithSymbols = with_symbols
