use Rattle.std.proofs.Common.{◌∙◌, ap}
use Rattle.ec_scopes.specs.Entries.{named_view, type_view}
use Rattle.ec_scopes.proofs.Views.{put-named}
use Rattle.ec_scopes.proofs.varchars.put_member.Goals as goal

pub returns : goal.returns
returns c = ap (named_view type_view) c.in_ok-_before.ensures.ok ∙ put-named type_view c.args.name.now c.args.ty c.args.members.now
