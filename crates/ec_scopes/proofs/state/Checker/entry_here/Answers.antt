use Rattle.std.proofs.Common.{◌∙◌, sym, ap, option_map}
use Rattle.ec_scopes.specs.Entries.{entry_view}
use Rattle.ec_scopes.specs.Seen.{world_of}
use Rattle.ec_scopes.proofs.Views.{find-named}
use Rattle.ec_scopes.proofs.state.Checker.entry_here.Goals as goal

pub returns : goal.returns
unfolding world_of
returns c = ap (option_map entry_view) c.get.ensures ∙ sym (find-named entry_view c.args.name.now c.args.self.now.here.names)
