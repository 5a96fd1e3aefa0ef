use Rattle.ec_replay_laws.proofs.Parting.{says_the_same, says_a_front}
use Rattle.ec_replay_laws.proofs.replaying.replays_say_the_same.Goals as goal

pub returns : goal.returns
returns c = record {
  whole = λ meaning exact. says_the_same c.links_replay.ensures.equality meaning exact;
  part = λ meaning exact. says_a_front c.links_replay.ensures.equality meaning exact;
}
