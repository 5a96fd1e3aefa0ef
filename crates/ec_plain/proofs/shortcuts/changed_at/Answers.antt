-- The change that the step is.
use Rattle.std.proofs.Common.{rules}
use Rattle.std.specs.Int.{w64}
use mir.Val.{SFits}
use Rattle.std.proofs.lemmas.Int.{to_z-of_z}
use Rattle.ec_code.specs.Views.{plain_step_view}
use Rattle.ec_plain.proofs.Numbers.{updated_by}
use Rattle.ec_plain.proofs.shortcuts.changed_at.Goals as goal

pub returns-in-Some-clause-some : goal.returns-in-Some-clause-some
returns-in-Some-clause-some c =
    let f : SFits w64 c.in-Some.change.by = search rules in
    updated_by c.args.scope.now (plain_step_view c.args.step.now) c.in-Some.change.update.now c.in-Some.change.by c.args.to.0 c.args.store.now c.added.new.store c.added.result c.in-Some.ensures (simp to_z-of_z at c.added.ensures.some)
