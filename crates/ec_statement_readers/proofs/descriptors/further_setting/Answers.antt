use Rattle.std.proofs.Common.{rules, arith, ap, ◌∙◌, ◌≡◌, ◌++◌, ◌∷◌, [], map}
use Rattle.std.proofs.lemmas.Grind.{common_steps}
use Rattle.ec_ctypes.specs.views.Embedded.{set_item_view}
use Rattle.ec_references.proofs.Mapped.{map_one}
use Rattle.ec_statement_readers.proofs.descriptors.further_setting.Goals as goal

pub returns : goal.returns
returns c =
    let e : map set_item_view c.push.new.self ≡ map set_item_view c.args.items ++ set_item_view c.in_ok-item.item ∷ [] = ap (map set_item_view) c.in_ok-push.ensures.ok ∙ map_one set_item_view c.args.items c.in_ok-item.item in
    first_of (search rules, grind (arith, common_steps))
