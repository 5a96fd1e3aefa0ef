use Rattle.ec_replay_laws.proofs.Reading.{is_replayed, part_is_replayed, written_is_replayed}
use Rattle.ec_replay_laws.proofs.replaying.transcripts_are_replayed.Goals as goal

pub returns : goal.returns
returns c = record {
  read = λ meaning exact. is_replayed c.links_replay.ensures.equality c.transcripts_are_exact.ensures.one meaning exact;
  part = λ meaning exact. part_is_replayed c.links_replay.ensures.equality c.transcripts_are_exact.ensures.one meaning exact;
  written = λ meaning exact. written_is_replayed c.links_replay.ensures.equality c.transcripts_are_exact.ensures.one meaning exact c.transcripts_are_exact.ensures.written;
}
