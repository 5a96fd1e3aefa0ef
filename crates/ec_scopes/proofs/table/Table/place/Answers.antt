use Rattle.std.proofs.Common.{◌∙◌, ap}
use Rattle.ec_scopes.specs.Offsets.{place_of}
use Rattle.ec_scopes.proofs.Starting.{place-rows}
use Rattle.ec_scopes.proofs.table.Table.place.Goals as goal

pub returns : goal.returns
returns g c = c.get_index_of.ensures.index ∙ place-rows c.args.name.now c.self.inside.inner.entries ∙ ap (place_of c.args.name.now) c.self.view_is
