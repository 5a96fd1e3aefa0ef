use Rattle.ec_references.proofs.Parts.{host_read, spelled_host_read, text_read, spelled_text_read, statement_text_read, connection_read, ended_read, value_read, spelled_value_read, ins_read, outs_read, using_read}
use Rattle.ec_references.proofs.laws.readers_are_exact.Goals as goal

pub returns : goal.returns
returns c = record {
  host = λ b n w. (host_read b).is n w;
  spelled_host = λ b n w. (spelled_host_read b).is n w;
  text = λ n w. text_read.is n w;
  spelled_text = λ n w. spelled_text_read.is n w;
  statement_text = λ n w. statement_text_read.is n w;
  connection = λ n w. connection_read.is n w;
  ended = λ n w. ended_read.is n w;
  value = λ n w. value_read.is n w;
  spelled_value = λ n w. spelled_value_read.is n w;
  inputs = λ n w. ins_read.is n w;
  outputs = λ n w. outs_read.is n w;
  using = λ n w. using_read.is n w;
}
