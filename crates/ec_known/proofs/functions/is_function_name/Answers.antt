use Rattle.std.proofs.Common.{◌∙◌, ap, is_some}
use Rattle.ec_typing_defs.specs.Known.{known_functions}
use Rattle.ec_known.specs.Functions.{signature_view}
use Rattle.ec_known.proofs.Tables.{found_among, is_some-map}
use Rattle.ec_known.proofs.functions.is_function_name.Goals as goal

pub returns : goal.returns
returns c =
    c.is_some.ensures ∙ is_some-map signature_view c.signature_of.result ∙ ap is_some c.signature_of.ensures ∙ found_among known_functions c.args.name.now
