use Rattle.std.proofs.Common.{◌∙◌, ap}
use Rattle.ec_typing_defs.specs.Tables.{find}
use Rattle.ec_scopes.proofs.Tables.{find-rows}
use Rattle.ec_scopes.proofs.table.Table.get.Goals as goal

pub returns : goal.returns
returns g c = c.get.ensures.value ∙ find-rows c.args.name.now c.self.inside.inner.entries ∙ ap (find c.args.name.now) c.self.view_is
