use Rattle.std.proofs.Common.{map, refl}
use Rattle.ec_ctypes.specs.views.Embedded.{part_view}
use Rattle.ec_params.specs.Scenes.{program_of, denoted_of}
use Rattle.ec_params.proofs.Sent.{all_sent}
use Rattle.ec_params.proofs.sending.sent_text.Goals as goal

pub returns : goal.returns
returns c = all_sent (program_of c.args.scene) (denoted_of c.args.scene) (map part_view c.args.parts.now) _ c.send_parts.new.sending c.new.ensures refl c.in_ok-send_parts.ensures
