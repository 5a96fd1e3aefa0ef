use Rattle.ec_runtime.proofs.Fits.{place_fits}
use Rattle.ec_runtime.proofs.host.places_that_fit.Goals as goal

pub returns : goal.returns
returns c = λ p e. place_fits p e
