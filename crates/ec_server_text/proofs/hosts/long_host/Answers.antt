use Rattle.std.proofs.Common.{◌∙◌, sym, ap}
use Rattle.ec_server_text.specs.Readers.{has_indicator}
use Rattle.ec_server_text.proofs.HostAlone.{host_alone}
use Rattle.ec_server_text.proofs.hosts.long_host.Goals as goal

pub returns-then-not-has_indicator : goal.returns-then-not-has_indicator
returns-then-not-has_indicator c = host_alone _ _ _ _ _ _ c.in_ok-value.ensures (ap has_indicator (sym c.rest.ensures) ∙ sym c.has_indicator.ensures ∙ c.if-not-has_indicator.true)
