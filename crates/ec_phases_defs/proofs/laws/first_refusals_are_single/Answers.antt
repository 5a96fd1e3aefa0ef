use Rattle.ec_phases_defs.proofs.FirstRefusals.{one_first, there_is_a_first, accepted_is_read, read_is_accepted}
use Rattle.ec_phases_defs.proofs.laws.first_refusals_are_single.Goals as goal

pub returns : goal.returns
returns c = record {
  one = one_first c.sources_are_read.ensures.one c.written_is_read.ensures.one;
  there = there_is_a_first c.sources_are_read.ensures.read c.written_is_read.ensures.read;
  accepted = accepted_is_read;
  read = read_is_accepted;
}
