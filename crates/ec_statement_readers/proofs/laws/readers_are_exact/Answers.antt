use Rattle.ec_statement_readers.proofs.Forms.{connect_read, set_connection_read, disconnect_read, autocommit_read, at_read, prepare_read, execute_read, deallocate_read, deallocate_at_read, open_read, allocate_read, get_read, set_read, whenever_read, include_read, cursor_read}
use Rattle.ec_statement_readers.proofs.laws.readers_are_exact.Goals as goal

pub returns : goal.returns
returns c = record {
  connect = λ n w. connect_read.is n w;
  set_connection = λ n w. set_connection_read.is n w;
  disconnect = λ n w. disconnect_read.is n w;
  autocommit = λ n w. autocommit_read.is n w;
  at = λ n w. at_read.is n w;
  prepare = λ n w. prepare_read.is n w;
  execute = λ n w. execute_read.is n w;
  deallocate = λ n w. deallocate_read.is n w;
  deallocate_at = λ n w. deallocate_at_read.is n w;
  open_cursor = λ n w. open_read.is n w;
  allocate = λ n w. allocate_read.is n w;
  get = λ n w. get_read.is n w;
  set = λ n w. set_read.is n w;
  whenever = λ n w. whenever_read.is n w;
  include = λ n w. include_read.is n w;
  cursor = λ n w. cursor_read.is n w;
}
