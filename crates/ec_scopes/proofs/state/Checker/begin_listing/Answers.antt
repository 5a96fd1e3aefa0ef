use Rattle.ec_scopes.specs.Seen.{world_of}
use Rattle.ec_scopes.proofs.state.Checker.begin_listing.Goals as goal

pub begin-requires : goal.begin-requires
unfolding world_of
begin-requires c = c.requires
