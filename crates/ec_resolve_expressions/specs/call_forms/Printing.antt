-- The parts of known calls.
use Rattle.std.specs.Prelude.{List, Option, Some, None, codes, if◌then◌else◌}
use Rattle.ec_ctypes.specs.trees.Exprs.{ExprData, identifier}
use Rattle.ec_ctypes.specs.trees.Types.{TyData}
use Rattle.ec_meaning_defs.specs.functions.Functions.{Channel, standard_output, standard_error, Known}
use Rattle.ec_language.specs.Letters.{same_text}
use Rattle.ec_meaning_defs.specs.resolved.Resolved.{Exp, known, faulty}
use Rattle.ec_resolving_defs.specs.Operands.{Found, passed}

-- the output that a stream is
abbrev pub stream_channel : ExprData → Channel
stream_channel (identifier x) = if same_text x (codes "stderr") then standard_error
    else standard_output
stream_channel _ = standard_output

-- a call of a function without a format, if there is one, with parameters that may have no type
abbrev pub with_parameters : Option Known → List (Option TyData) → List Found → Exp
with_parameters None ps fs = faulty
with_parameters (Some k) ps fs = known k (passed ps fs)
