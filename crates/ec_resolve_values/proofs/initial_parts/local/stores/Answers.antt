use Rattle.std.proofs.Common.{◌∙◌, ap}
use Rattle.ec_code.specs.Trees.{exps_of}
use Rattle.ec_meaning_defs.specs.resolved.Resolved.{slot as object_at}
use Rattle.ec_resolve_values.specs.initial_parts.Parts.{parts_view}
use Rattle.ec_resolve_values.proofs.initial_parts_lemmas.Stored.{stored_same}
use Rattle.ec_resolve_values.proofs.initial_parts.local.stores.Goals as goal

pub returns : goal.returns
returns c = ap exps_of c.in_ok-stores.ensures ∙ stored_same (object_at c.args.slot) (parts_view c.args.parts)
