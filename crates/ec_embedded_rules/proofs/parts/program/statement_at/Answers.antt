use Rattle.std.proofs.Common.{◌∙◌, ap, sym, option_map}
use Rattle.std.proofs.lemmas.Option.{slice_get-map}
use Rattle.ec_ctypes.specs.views.Embedded.{emb_view}
use Rattle.ec_embedded_rules.proofs.parts.program.statement_at.Goals as goal

pub returns : goal.returns
returns c = ap (option_map emb_view) c.item_at.ensures ∙ sym (slice_get-map emb_view c.args.embs.now c.args.k)
