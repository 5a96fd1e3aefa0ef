use Rattle.ec_ctypes.specs.views.Types.{ty_view}
use Rattle.ec_scopes.specs.Seen.{world_of}
use Rattle.ec_typing_defs.specs.Worlds.{shape_in}
use Rattle.ec_resolve_forms.proofs.members_lemmas.Passing.{no_shape, some_shape}
use Rattle.ec_resolve_forms.proofs.members.offsets.shape_of.Goals as goal

pub returns-in-Unknown : goal.returns-in-Unknown
returns-in-Unknown c = no_shape (shape_in (world_of c.args.checker.now) (ty_view c.args.ty.now)) c.in-Unknown.ensures

pub returns-in-Within : goal.returns-in-Within
returns-in-Within c = some_shape (shape_in (world_of c.args.checker.now) (ty_view c.args.ty.now)) c.in-Within.shape c.in-Within.ensures
