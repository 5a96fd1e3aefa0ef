use Rattle.std.proofs.Common.{◌≡◌, ◌++◌, drop, map}
use Rattle.ec_language.specs.Letters.{lower}
use Rattle.ec_embedded_rules.proofs.parts.cursors.lowered.Given as goal

abbrev pub invariant-loop-byte : goal.invariant-loop-byte
invariant-loop-byte l = l.text ++ map lower (drop l.byte-index l.name) ≡ map lower l.name
