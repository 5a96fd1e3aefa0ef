use Rattle.std.proofs.Common.{◌≡◌, ◌≤◌, ◌+◌, length}
use Rattle.ec_transcript.specs.Whole.{read_text}
use Rattle.ec_transcript.specs.Views.{state_of, Sound}
use Rattle.ec_transcript.proofs.Splits.{read_back}
use Rattle.ec_transcript.proofs.whole.read_text.Given as goal

abbrev pub invariant-loop-found : goal.invariant-loop-found
invariant-loop-found l = record {
  reads : read_back l.version l.found.0.now l.found.1.now l.number (state_of l.state) ≡ read_text l.text;
  sound : Sound (state_of l.state);
  number : l.number + length l.found.1.now ≤ length l.text + 1;
}

abbrev pub decreases-loop-found : goal.decreases-loop-found
decreases-loop-found l = length l.found.1.now
