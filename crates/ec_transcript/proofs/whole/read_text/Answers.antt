use Rattle.std.proofs.Common.{arith, ◌+◌, length}
use Rattle.ec_transcript.specs.Views.{state_of}
use Rattle.ec_transcript.proofs.Splits.{first_reads, next_reads, next_number}
use Rattle.ec_transcript.proofs.whole.read_text.Goals as goal

pub loop-found-init : goal.loop-found-init
loop-found-init c = record {
  reads = first_reads _ _ _ c.args.text.now c.version_of-version.ensures c.upto-found.ensures.line c.upto-found.ensures.rest;
  sound = tt;
  number = omega (arith, c.upto-found.ensures.whole);
}

pub loop-found-preserved : goal.loop-found-preserved
loop-found-preserved c = record {
  reads = next_reads _ c.loop-found.found.0.now c.loop-found.found.1.now _ _ c.loop-found.number (state_of c.loop-found.state) (state_of c.in_ok-state.state) _ c.in-len1-up.len_at_least
      c.in_ok-state.ensures.step c.upto-found-in-len1-up.ensures.line c.upto-found-in-len1-up.ensures.rest c.loop-found.invariant.reads;
  sound = c.in_ok-state.ensures.sound;
  number = next_number c.loop-found.number 0 (length c.args.text.now + 1) c.loop-found.found.1.now _ _ c.in-len1-up.len_at_least c.upto-found-in-len1-up.ensures.whole c.loop-found.invariant.number;
}
