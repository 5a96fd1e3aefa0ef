use Rattle.ec_replay.proofs.Equality.{same-equal, equal-same}
use Rattle.ec_replay.proofs.Parts.{says_again, breaks_off, tells_talk}
use Rattle.ec_replay.proofs.laws.links_replay.Goals as goal

pub returns : goal.returns
returns c = record {
  equality = λ one other. (same-equal one other, equal-same one other);
  again = says_again;
  breaks = breaks_off;
  told = tells_talk;
}
