-- The number is one that a word holds.
use Rattle.std.proofs.Common.{rules}
use Rattle.std.specs.Int.{w128}
use Rattle.std.proofs.lemmas.Int.{to_z-of_z}
use mir.Val.{SFits}
use Rattle.ec_memory_defs.specs.Kinds.{kind_type}
use Rattle.ec_values.specs.Words.{HasWord}
use Rattle.ec_values.proofs.Loads.{loaded_bounds}
use Rattle.ec_values.proofs.access.load_other.Goals as goal

pub of_number-requires : goal.of_number-requires
of_number-requires c =
    let f : SFits w128 c.in-Ok-Int.number = search rules in
    let h : HasWord c.in-Ok-Int.number = loaded_bounds c.args.store.now c.args.ptr.0 (kind_type c.args.kind) c.in-Ok-Int.number (rw c.in-Ok-Int.field-0-is at c.in-Ok-Int.ensures) in
    rw (to_z-of_z w128 c.in-Ok-Int.number f) h
