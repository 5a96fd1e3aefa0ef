use Rattle.std.proofs.Common.{◌∙◌, subst, sym}
use Rattle.ec_clex.specs.Items.{Told, item_view}
use Rattle.ec_clex.proofs.ItemSteps.{other_item}
use Rattle.ec_clex.proofs.items.item_at.Goals as goal

pub returns-clause-is : goal.returns-clause-is
returns-clause-is c =
    let t = c.args.text.now in
    let here = c.args.here in
    subst (Told (item_view t c.args.at) c.lexeme.result) (other_item here.written here.fresh here.line t c.args.at c.requires (sym c.is_blank.ensures ∙ c.if-is_blank.false) c.if-byte-eq35.false) c.lexeme.ensures.is
