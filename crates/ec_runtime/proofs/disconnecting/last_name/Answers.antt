use Rattle.std.proofs.Common.{◌∙◌, Some, ◌-◌, ap, arith, length, refl}
use Rattle.std.proofs.lemmas.Option.{slice_get_read}
use Rattle.ec_runtime.proofs.Closes.{last_there}
use Rattle.ec_runtime.proofs.disconnecting.last_name.Goals as goal

pub returns-in_ok-clone-in-len1-up : goal.returns-in_ok-clone-in-len1-up
returns-in_ok-clone-in-len1-up g c =
    ap Some c.in_ok-clone-in-len1-up.ensures.cases
    ∙ last_there c.args.sessions.now c.last-item.result
    (slice_get_read c.args.sessions.now (length c.args.sessions.now) (length c.args.sessions.now - 1) c.last-item.result refl (omega (arith, c.in-len1-up.len_at_least)) c.last-item.is)
