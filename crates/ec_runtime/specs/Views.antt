-- What a call is given, in the words of the definitions.
use Rattle.std.specs.Prelude.{ℕ, List, [], ◌∷◌, map}
use Rattle.ec_arguments.specs.Arguments.{Place}
use Rattle.ec_runtime.specs.declared.host.Host.{Host}
use Rattle.ec_runtime.specs.Places.{place_view}
use Rattle.ec_convert.specs.declared.stop.ConvStop.{ConvStop}
use Rattle.ec_convert.specs.declared.stop.ConvStop.TheVariants as conv
use Rattle.ec_transfer_defs.specs.declared.finding.Finding.{Finding}
use Rattle.ec_transfer_defs.specs.declared.finding.Finding.TheVariants as found
use Rattle.ec_call_defs.specs.Running.{Outputs, nowhere, hosts}
use Rattle.ec_call_defs.specs.Storing.{found_by}

abbrev pub host_view : Host → Place ℕ
host_view h = place_view h.place

abbrev pub hosts_view : List Host → List (Place ℕ)
hosts_view hs = map host_view hs

-- what a conversion found wrong. Other answers than a code find nothing
abbrev pub finding_of : ConvStop → Finding
finding_of (conv.Code code) = found_by code
finding_of (conv.Trapped trap) = found.NullWithoutIndicator
finding_of conv.OutOfMemory = found.NullWithoutIndicator

-- where rows go that are stored in these hosts
abbrev pub outputs_of : List Host → Outputs
outputs_of [] = nowhere
outputs_of (h ∷ hs) = hosts (hosts_view (h ∷ hs))
