-- The number, and all steps behind it.
use Rattle.std.proofs.Common.{rules}
use Rattle.std.specs.Int.{w64}
use mir.Val.{SFits}
use Rattle.std.proofs.lemmas.Int.{to_z-of_z}
use Rattle.ec_plain.proofs.Numbers.{number_leads}
use Rattle.ec_plain.proofs.number.valued.Goals as goal

pub returns : goal.returns
returns c =
    let f : SFits w64 c.in_ok-begun.begun = search rules in
    number_leads c.args.scope.now c.args.expression.now c.as_slice.result.now c.args.store.now c.in_ok-begun.begun c.follow.result
    c.as_slice.ensures c.in_ok-begun.ensures (simp to_z-of_z at c.follow.ensures)
