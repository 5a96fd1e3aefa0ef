use Rattle.ec_direct_defs.specs.Direct.{direct_meaning}
use Rattle.ec_execution_defs.specs.Programs.{meaning}
use Rattle.ec_replay_laws.proofs.Meanings.{program_exact, source_exact, replayable, replayable_alike}
use Rattle.ec_replay_laws.proofs.sources.runs_are_replayed.Goals as goal

pub returns : goal.returns
returns c =
    let again = c.replays_say_the_same.ensures in
    let texts = c.transcripts_are_replayed.ensures in
    let law = replayable again.whole again.part texts.read texts.part texts.written in
    record {
      programs = λ x turns. law (meaning x turns) (program_exact c.answers_are_taken_exactly.ensures x turns);
      sources = λ text p h turns. law (direct_meaning p.program turns)
          (source_exact c.answers_are_taken_exactly.ensures p (c.written_texts_mean_the_same.ensures.means text p h) turns);
      alike = replayable_alike;
    }
