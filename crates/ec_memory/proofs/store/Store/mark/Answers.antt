-- The number that was given last.
use Rattle.ec_memory.proofs.Calls.{last_made}
use Rattle.ec_memory.proofs.store.Store.mark.Goals as goal

pub returns : goal.returns
returns c = last_made _ _ _ _ c.self.view_is
