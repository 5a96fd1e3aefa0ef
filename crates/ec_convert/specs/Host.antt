-- Hosts, in the words of the definitions.
use Rattle.std.specs.Prelude.{◌≡◌, ℕ, true, Option, Some, None, option_map, option_and_then}
use Rattle.ec_bytes.specs.declared.scalar.address.Ptr.{Ptr}
use Rattle.ec_ctypes.specs.Arithmetic.{is_signed}
use Rattle.ec_ctypes.specs.declared.checked.library.Sym.{Sym}
use Rattle.ec_convert.specs.declared.host.Host.{Host}
use Rattle.ec_convert.specs.declared.host.HostPlace.{HostPlace}
use Rattle.ec_convert.specs.declared.host.Indicator.{Indicator}
use Rattle.ec_convert.specs.Elements.{held_by}
use Rattle.ec_transfer_defs.specs.Hosts.{Holding, holding, indicator_type, IndicatorData, HostData}

abbrev pub indicator_view : Indicator → IndicatorData
indicator_view i = record { kind = i.kind; place = i.at.0; step = i.step }

abbrev pub host_view : Host → HostData
host_view h = record {
  holds = held_by h.element;
  place = h.at.0;
  step = h.step;
  indicator = option_map indicator_view h.indicator;
}

-- the indicators that a call is given, if their symbol is one that they may have
abbrev pub given_indicator : Sym × Ptr × ℕ × ℕ → Option IndicatorData
given_indicator i =
    option_map (λ kind. record { kind = kind; place = i.1.0; step = i.3 }) (indicator_type i.0)

abbrev pub given_indicators : Option (Sym × Ptr × ℕ × ℕ) → Option (Option IndicatorData)
given_indicators None = Some None
given_indicators (Some i) = option_map Some (given_indicator i)

abbrev pub placed : Ptr → ℕ → Option (Option IndicatorData) → Holding → Option HostData
placed at step None holds = None
placed at step (Some indicator) holds =
    Some (record { holds = holds; place = at.0; step = step; indicator = indicator })

-- the host that a call is given, if its symbol is a type
abbrev pub given_host : HostPlace → Option HostData
given_host h = option_and_then (placed h.at h.step (given_indicators h.ind)) (holding h.sym h.size)

-- an indicator can be -1
abbrev pub IsTold : Option Indicator → Type 0
IsTold None = Unit {0}
IsTold (Some i) = is_signed i.kind ≡ true
