use Rattle.std.proofs.Common.{◌≡◌, ◌∙◌, Bool, true, false, not, refl, drop, subst, sym}
use Rattle.ec_clex.specs.Items.{Told, item_view}
use Rattle.ec_clex.proofs.ItemSteps.{include_hash}
use Rattle.ec_clex.proofs.items.hash.Goals as goal

unnot : (x : Bool) → not x ≡ false → x ≡ true
unnot true e = refl
unnot false e = absurd (cc)

pub returns-then-stands_at-clause-is : goal.returns-then-stands_at-clause-is
returns-then-stands_at-clause-is c =
    let t = c.args.text.now in
    let here = c.args.here in
    subst (Told (item_view t c.args.at) c.include.result) (include_hash here.written here.fresh here.line (drop c.args.at t) (unnot here.fresh c.if-not-here.false) (sym c.stands_at.ensures.is ∙ c.if-stands_at.true)) c.include.ensures.is
