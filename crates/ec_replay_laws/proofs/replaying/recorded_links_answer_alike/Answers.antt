use Rattle.ec_replay_laws.proofs.Parting.{answers_alike, says_itself}
use Rattle.ec_replay_laws.proofs.replaying.recorded_links_answer_alike.Goals as goal

pub returns : goal.returns
returns c = record {
  alike = answers_alike c.links_replay.ensures.equality;
  itself = says_itself c.links_replay.ensures.again;
}
