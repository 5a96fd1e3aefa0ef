use Rattle.std.proofs.Common.{◌∙◌, refl, ap}
use Rattle.ec_typing_defs.specs.Worlds.{know_better}
use Rattle.ec_scopes.specs.Entries.{entry_view, named_view}
use Rattle.ec_scopes.specs.Seen.{world_of, notes_of}
use Rattle.ec_scopes.proofs.Steps.{change_done}
use Rattle.ec_scopes.proofs.Views.{put-named}
use Rattle.ec_scopes.proofs.state.Checker.know_better.Goals as goal

pub returns : goal.returns
unfolding world_of notes_of know_better
returns c = change_done _ (λ i. record (world_of c.args.self.now) { here = record { names = (ap (named_view entry_view) c.in_ok-_before.ensures.ok ∙ put-named entry_view c.args.name.now c.args.entry c.args.self.now.here.names) i; tags = c.args.self.now.here.tags } }) refl
