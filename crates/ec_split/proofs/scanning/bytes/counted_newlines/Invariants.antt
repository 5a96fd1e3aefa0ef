use Rattle.std.proofs.Common.{◌≡◌, ◌+◌, ◌≤◌, drop}
use Rattle.ec_language.specs.Line as lines
use Rattle.ec_split.proofs.scanning.bytes.counted_newlines.Given as goal

abbrev pub invariant-loop-byte : goal.invariant-loop-byte
invariant-loop-byte l = record { so_far : l.count + lines.newlines (drop l.byte-index l.bytes) ≡ lines.newlines l.bytes; few : l.count ≤ l.byte-index }
