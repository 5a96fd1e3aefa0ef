-- The links so far and those of the slots that are left are those of all slots.
use Rattle.std.proofs.Common.{◌≡◌, ◌++◌, drop}
use Rattle.ec_replay.specs.Replay.{links_from, links_of}
use Rattle.ec_replay.proofs.replaying.links_of.Given as goal

abbrev pub invariant-loop-slot : goal.invariant-loop-slot
invariant-loop-slot l = record {
  counted : l.number ≡ l.slot-index;
  links : l.links ++ links_from l.number (drop l.slot-index l.transcript.slots) l.transcript.log ≡ links_of l.transcript.slots l.transcript.log;
}
