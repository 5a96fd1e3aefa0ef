use Rattle.ec_scopes.specs.Entries.{place_view}
use Rattle.ec_initializers.specs.Frames.{known_frames}
use Rattle.ec_initializers.proofs.FillLemmas.{fill_step}
use Rattle.ec_initializers.proofs.fill.+filling.Goals as goal

pub fill-loop-init-preserved : goal.fill-loop-init-preserved
fill-loop-init-preserved t c =
    fill_step (place_view c.args.at) c.args.is_global c.args.list.now c.loop-init.init-index c.init-item.result (known_frames c.loop-init.rest) c.loop-init-test.true c.init-item.is c.loop-init.invariant c.in_ok-rest.ensures
