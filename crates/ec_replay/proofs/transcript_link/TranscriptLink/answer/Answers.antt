use Rattle.std.proofs.Common.{◌∙◌, sym}
use Rattle.ec_replay.proofs.Parts.{answered_link}
use Rattle.ec_replay.proofs.transcript_link.TranscriptLink.answer.Goals as goal

pub returns-in-Some-clause-next : goal.returns-in-Some-clause-next
returns-in-Some-clause-next c =
    answered_link c.args.self.now c.args.request.now c.in-Some.reply (sym c.in-Some.is ∙ c.in_ok-reply.ensures)
