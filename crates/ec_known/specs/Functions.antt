-- What the code of known functions stands for.
use Rattle.std.specs.Prelude.{map}
use Rattle.std.proofs.Common.{Bor}
use Rattle.ec_ctypes.specs.trees.Types.{TyData, void}
use Rattle.ec_ctypes.specs.views.Types.{ty_view}
use Rattle.ec_language.specs.Letters.{Text}
use Rattle.ec_typing_defs.specs.Types.{int_type, size_type}
use Rattle.ec_typing_defs.specs.Known.{KnownData, plain, formatted, text_type, memory_type}
use Rattle.ec_known.specs.declared.functions.Simple.{Simple}
use Rattle.ec_known.specs.declared.functions.Simple.TheVariants.{Void, Int, Size, Text as Letters, Memory}
use Rattle.ec_known.specs.declared.functions.Signature.{Signature}
use Rattle.ec_known.specs.declared.functions.Signature.TheVariants as signature
use Rattle.ec_known.specs.declared.functions.Known.{Known}
use Rattle.ec_known.specs.declared.functions.Known.TheVariants as known

abbrev pub simple_type : Simple → TyData
simple_type Void = void
simple_type Int = int_type
simple_type Size = size_type
simple_type Letters = text_type
simple_type Memory = memory_type

abbrev pub signature_view : Signature → KnownData
signature_view (signature.Plain result parameters) =
    plain (simple_type result) (map simple_type parameters.now)
signature_view (signature.Formatted n) = formatted n

abbrev pub known_view : Known → KnownData
known_view (known.Plain result parameters) = plain (ty_view result) (map ty_view parameters)
known_view (known.Formatted n) = formatted n

-- a row of the table of functions
abbrev pub row_view : Bor Text × Signature → Text × KnownData
row_view r = (r.0.now, signature_view r.1)
