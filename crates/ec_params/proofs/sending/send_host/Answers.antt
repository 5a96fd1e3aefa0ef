use Rattle.std.proofs.Common.{◌∙◌, ap, sym, length, map}
use Rattle.ec_ctypes.specs.views.Embedded.{host_view}
use Rattle.ec_leaves.specs.Seen.{leaf_view}
use Rattle.ec_params.specs.Scenes.{program_of, denoted_of}
use Rattle.ec_params.proofs.Sent.{sent_host, as_many, as_many_seen}
use Rattle.ec_params.proofs.sending.send_host.Goals as goal

pub returns : goal.returns
returns c =
    let found = c.in_ok-found.found in
    sent_host (program_of c.args.scene) (denoted_of c.args.scene) (host_view c.args.host.now) c.args.sending.now _ c.len-count.result
    (c.len-count.ensures ∙ sym (as_many_seen found.own) ∙ sym (as_many (map leaf_view found.own) (map leaf_view found.inner)) ∙ ap length c.in_ok-found.ensures)
    c.in_ok-push_parameters.ensures c.in_ok-sending.ensures c.in_ok-sending-2.ensures
