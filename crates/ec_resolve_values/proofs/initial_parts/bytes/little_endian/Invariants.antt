use Rattle.std.proofs.Common.{◌≡◌, ◌++◌}
use Rattle.ec_memory_defs.specs.Memory.{little_endian_bytes}
use Rattle.ec_resolve_values.proofs.initial_parts.bytes.little_endian.Given as goal

abbrev pub invariant-loop-left : goal.invariant-loop-left
invariant-loop-left l = l.bytes ++ little_endian_bytes l.left l.rest ≡ little_endian_bytes l.count l.number

abbrev pub decreases-loop-left : goal.decreases-loop-left
decreases-loop-left l = l.left
