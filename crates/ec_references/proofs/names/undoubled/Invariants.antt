use Rattle.std.proofs.Common.{◌≡◌, ◌++◌, drop}
use Rattle.ec_embedded.specs.References.{undoubled}
use Rattle.ec_references.proofs.Undoubled.{behind}
use Rattle.ec_references.proofs.names.undoubled.Given as goal

abbrev pub invariant-loop-byte : goal.invariant-loop-byte
invariant-loop-byte l = undoubled l.text ≡ l.bytes ++ behind l.doubled (drop l.byte-index l.text)
