use Rattle.std.proofs.Common.{rules, arith, ap, ◌∙◌, ◌≡◌, ◌++◌, ◌∷◌, [], map}
use Rattle.std.proofs.lemmas.Grind.{common_steps}
use Rattle.ec_ctypes.specs.views.Exprs.{expr_view}
use Rattle.ec_references.proofs.Mapped.{map_one}
use Rattle.ec_statement_readers.proofs.directives.further_argument.Goals as goal

pub returns : goal.returns
returns c =
    let e : map expr_view c.push.new.self ≡ map expr_view c.args.values ++ expr_view c.in_ok-value.value ∷ [] = ap (map expr_view) c.in_ok-push.ensures.ok ∙ map_one expr_view c.args.values c.in_ok-value.value in
    first_of (search rules, grind (arith, common_steps))
