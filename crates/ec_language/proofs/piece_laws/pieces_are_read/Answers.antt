use Rattle.ec_language.proofs.ReadLaws.{pieces_read, pieces_back, faults_read, faults_back}
use Rattle.ec_language.proofs.piece_laws.pieces_are_read.Goals as goal

pub returns : goal.returns
returns c = record {
  read = pieces_read c.args.text.now;
  are = pieces_back c.args.text.now;
  refused = faults_read c.args.text.now;
  fault = faults_back c.args.text.now;
}
