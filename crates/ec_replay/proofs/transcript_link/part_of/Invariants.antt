-- The exchanges so far and those of the log that is left are those of the whole log.
use Rattle.std.proofs.Common.{◌≡◌, ◌++◌, drop}
use Rattle.ec_link.specs.Logged.{talk_of}
use Rattle.ec_replay.proofs.transcript_link.part_of.Given as goal

abbrev pub invariant-loop-x : goal.invariant-loop-x
invariant-loop-x l = l.part ++ talk_of l.slot (drop l.x-index l.log) ≡ talk_of l.slot l.log
