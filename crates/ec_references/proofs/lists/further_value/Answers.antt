use Rattle.std.proofs.Common.{rules, arith, ap, ◌∙◌, ◌≡◌, ◌++◌, ◌∷◌, [], map}
use Rattle.std.proofs.lemmas.Grind.{common_steps}
use Rattle.ec_ctypes.specs.views.Embedded.{input_view}
use Rattle.ec_references.proofs.Mapped.{map_one}
use Rattle.ec_references.proofs.lists.further_value.Goals as goal

pub returns : goal.returns
returns c =
    let e : map input_view c.push.new.self ≡ map input_view c.args.values ++ input_view c.in_ok-value.value ∷ [] = ap (map input_view) c.in_ok-push.ensures.ok ∙ map_one input_view c.args.values c.in_ok-value.value in
    first_of (search rules, grind (arith, common_steps))
