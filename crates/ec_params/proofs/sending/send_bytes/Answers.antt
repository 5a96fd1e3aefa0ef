use Rattle.std.proofs.Common.{refl}
use Rattle.ec_params.specs.Scenes.{program_of, denoted_of}
use Rattle.ec_params.proofs.Sent.{sent_bytes}
use Rattle.ec_params.proofs.sending.send_bytes.Goals as goal

pub returns : goal.returns
returns c = sent_bytes (program_of c.args.scene) (denoted_of c.args.scene) c.args.bytes.now c.args.sending.now _ c.in_ok-extend_from_slice.ensures.ok refl refl
