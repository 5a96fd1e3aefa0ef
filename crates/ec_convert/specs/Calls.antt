-- What the two calls promise of a host as it is given.
use Rattle.std.specs.Prelude.{◌≡◌, ℕ, Bool, List, Option, Some, Result}
use Rattle.ec_convert.specs.Answers.{GivesParameter, leaves}
use Rattle.ec_convert.specs.Host.{given_host}
use Rattle.ec_convert.specs.declared.host.HostPlace.{HostPlace}
use Rattle.ec_convert.specs.declared.stop.ConvStop.{ConvStop}
use Rattle.ec_memory_defs.specs.Memory.{Memory}
use Rattle.ec_transfer_defs.specs.Conversion.{parameter, field_stored}
use Rattle.ec_transfer_defs.specs.Hosts.{HostData}

-- the answer is the parameter that the host gives
abbrev pub Sends : HostPlace → Memory → Result (Option (List ℕ)) ConvStop → Type 0
Sends place m answer = (h : HostData) →
    given_host place ≡ Some h → GivesParameter answer (parameter m h)

-- the answer, and the memory behind it, are what the field leaves in a row of the host
abbrev pub Stores : HostPlace → ℕ → Option (List ℕ) →
    Memory → Result Bool ConvStop → Memory → Type 0
Stores place row field m answer after = (h : HostData) → given_host place ≡ Some h →
    leaves answer after ≡ Some (field_stored m h row field)
