use Rattle.std.proofs.Common.{◌≡◌, ◌++◌, drop}
use Rattle.ec_writing_defs.specs.Chunks.{quoted_bytes}
use Rattle.ec_cwrite.proofs.text.push_quoted.Given as goal

abbrev pub invariant-loop-byte : goal.invariant-loop-byte
invariant-loop-byte l = l.out ++ quoted_bytes l.quote (drop l.byte-index l.bytes) ≡ l.initial.out ++ quoted_bytes l.quote l.bytes
