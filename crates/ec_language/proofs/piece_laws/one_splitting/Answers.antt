use Rattle.ec_language.proofs.ReadLaws.{one_list, one_fault, pieces_or_fault, read_either}
use Rattle.ec_language.proofs.piece_laws.one_splitting.Goals as goal

pub returns : goal.returns
returns c = record {
  pieces = one_list c.args.text.now;
  fault = one_fault c.args.text.now;
  apart = pieces_or_fault c.args.text.now;
  either = read_either c.args.text.now;
}
