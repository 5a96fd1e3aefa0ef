use Rattle.std.proofs.Common.{◌∙◌, refl, ap, is_some}
use Rattle.ec_base.specs.declared.fault.FaultKind.TheVariants.{F30}
use Rattle.ec_ctypes.specs.trees.Exprs.{call}
use Rattle.ec_ctypes.specs.views.Exprs.{exprs_view}
use Rattle.ec_scopes.specs.Entries.{place_view}
use Rattle.ec_scopes.specs.Seen.{notes_of, noted_instead}
use Rattle.ec_scopes.proofs.Steps.{then_done, pure_done}
use Rattle.ec_typing_defs.specs.Expressions.{expr}
use Rattle.ec_typing_defs.specs.Worlds.{pure, ◌>>◌}
use Rattle.ec_embedded_rules.proofs.Instead.{instead_done}
use Rattle.ec_embedded_rules.proofs.actions.call_rule.Goals as goal

pub returns : goal.returns
returns c =
    let at = place_view c.args.at in
    let m = expr at (call c.args.name.now (exprs_view c.args.es.now)) in
    instead_done at F30 (m >> pure tt) c.set_aside-aside.ensures.world c.set_aside-aside.ensures.notes (then_done m (λ _. pure tt) c.in_ok-_found.ensures (pure_done refl)) c.put_back.ensures.world
    (c.put_back.ensures.notes ∙ ap (noted_instead at F30 (is_some (notes_of c.call.new.checker))) c.set_aside-aside.ensures.aside)
