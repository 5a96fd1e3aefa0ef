use Rattle.std.proofs.Common.{◌≡◌, ◌++◌, drop}
use Rattle.ec_link.specs.Slot.{states}
use Rattle.ec_cli.specs.Recordings.{marks_of}
use Rattle.ec_cli.proofs.recording.marks_of.Given as goal

abbrev pub invariant-loop-slot : goal.invariant-loop-slot
invariant-loop-slot g l = l.marks ++ marks_of (states (drop l.slot-index l.slots)) ≡ marks_of (states l.slots)
