-- The arguments of calls of the library, as the definitions see them.
use Rattle.std.specs.Prelude.{Bool, List}
use Rattle.std.proofs.Common.{Bor}
use Rattle.ec_arguments.specs.Arguments.{Arg}
use Rattle.ec_cut.specs.ByType.{itself}
use Rattle.ec_cut.specs.Views.{argument_view, arguments_view}
use Rattle.ec_cut.specs.declared.arguments.Argument.{Argument}
use Rattle.ec_language.specs.Letters.{Text}

-- the bytes of a literal
abbrev pub bytes_of : Bor Text → Text
bytes_of literal = literal.now

abbrev pub seen : Argument (Bor Text) Bool → Arg Bool
seen a = argument_view bytes_of itself a

abbrev pub all_seen : List (Argument (Bor Text) Bool) → List (Arg Bool)
all_seen xs = arguments_view bytes_of itself xs
