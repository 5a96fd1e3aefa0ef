use Rattle.ec_replay.proofs.Parts.{passed}
use Rattle.ec_replay.proofs.transcript_link.TranscriptLink.pass.Goals as goal

pub returns-then-self-len : goal.returns-then-self-len
returns-then-self-len c = passed c.self.inside.exchanges c.self.inside.given c.self.inside.broke c.args.self.now c.self.view_is
