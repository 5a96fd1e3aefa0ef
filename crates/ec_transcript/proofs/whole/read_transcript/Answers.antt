use Rattle.ec_transcript.proofs.Texts.{reading, finds}
use Rattle.ec_transcript.proofs.whole.read_transcript.Goals as goal

pub returns : goal.returns
returns c =
    let r = reading c.args.text.now c.read_text.result c.read_text.ensures in
    record { reading = r; finds = λ version slots log is. finds c.args.text.now c.read_text.result r version slots log is }
