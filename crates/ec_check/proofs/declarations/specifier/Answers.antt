use Rattle.std.proofs.Common.{Option, subst}
use Rattle.ec_ctypes.specs.trees.Types.{TyData}
use Rattle.ec_ctypes.specs.views.Exprs.{base_view}
use Rattle.ec_typing_defs.specs.Worlds.{Rule}
use Rattle.ec_scopes.specs.Entries.{place_view, type_view}
use Rattle.ec_scopes.specs.Seen.{world_of, Does}
use Rattle.ec_check.proofs.Seeing.{specifier_base}
use Rattle.ec_check.proofs.declarations.specifier.Goals as goal

pub returns-in-len1-up : goal.returns-in-len1-up
returns-in-len1-up c =
    subst (λ (f : Rule (Option TyData)). Does type_view (f (world_of c.args.checker.now)) c.args.checker.now c.base.result c.base.new.checker) (specifier_base (place_view c.args.at) (base_view c.args.b.now) c.args.items.now c.in-len1-up.len_at_least) c.base.ensures
