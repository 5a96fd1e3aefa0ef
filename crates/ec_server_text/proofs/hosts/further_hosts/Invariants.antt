use Rattle.std.proofs.Common.{◌≡◌, ◌-◌, map}
use Rattle.ec_ctypes.specs.views.Embedded.{host_view}
use Rattle.ec_embedded.specs.ServerText.{begins_more}
use Rattle.ec_references.specs.Readers.{turns_from}
use Rattle.ec_references.specs.States.{seen}
use Rattle.ec_server_text.specs.Readers.{further_host, further_hosts}
use Rattle.ec_server_text.proofs.hosts.further_hosts.Given as goal

abbrev pub invariant-loop-turn : goal.invariant-loop-turn
invariant-loop-turn l =
    further_hosts (map host_view l.fn.hosts) (seen l.fn.cursor).counts (seen l.fn.cursor).tokens
    ≡ turns_from begins_more further_host (l._turn-end - l._turn) (map host_view l.hosts) (seen l.cursor).counts (seen l.cursor).tokens
