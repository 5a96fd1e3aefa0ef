use Rattle.std.proofs.Common.{◌≡◌, ℕ, List, drop, length, map}
use Rattle.ec_code.specs.Objects.{stored_view}
use Rattle.ec_memory_defs.specs.Memory.{Memory}
use Rattle.ec_interp.proofs.opening_lemmas.Putting.{Filling}
use Rattle.ec_interp.specs.opening.Filling.{IsLast}
use Rattle.ec_meaning_defs.specs.resolved.Programs.{with_values}
use Rattle.ec_interp.proofs.opening.filling.put_parts.Given as goal

abbrev pub invariant-loop-part : goal.invariant-loop-part
invariant-loop-part l =
    (before : Memory) (bytes : List ℕ) → IsLast l.initial.store l.object.0 before bytes → length bytes ≡ l.size
    → Filling l.store l.object.0 l.size before (drop l.part-index l.parts) (with_values bytes (map stored_view l.parts))
