use Rattle.std.proofs.Common.{refl}
use Rattle.ec_language.proofs.ReadLaws.{faults_back}
use Rattle.ec_language.proofs.piece_examples.fault_examples.Goals as goal

pub returns : goal.returns
returns c = record {
  open_quote = faults_back _ _ _ refl;
  open_comment = faults_back _ _ _ refl;
  open_statement = faults_back _ _ _ refl;
  start_alone = faults_back _ _ _ refl;
  cut_quote = faults_back _ _ _ refl;
  cut_behind_backslash = faults_back _ _ _ refl;
  comment_in_statement = faults_back _ _ _ refl;
  quote_in_statement = faults_back _ _ _ refl;
  comment_in_declaration = faults_back _ _ _ refl;
  quote_in_declaration = faults_back _ _ _ refl;
  quote_and_no_end = faults_back _ _ _ refl;
  behind_pieces = faults_back _ _ _ refl;
}
