-- The pointer moves within its object.
use Rattle.std.proofs.Common.{◌∙◌, ap, rules, arith, w64}
use Rattle.std.proofs.Math.Facts.{to_z-of_z}
use mir.Val.{SFits}
use Rattle.ec_memory_defs.specs.Memory.{moved}
use Rattle.ec_memory.proofs.Calls.{rising_of, object_room, moved_of}
use Rattle.ec_memory.proofs.store.Store.move_ptr.Goals as goal

pub object-requires : goal.object-requires
object-requires c = rising_of _ _ _ _ c.self.invariant c.deref.ensures.value

pub moved_to-requires : goal.moved_to-requires
moved_to-requires c = omega (arith, object_room _ _ _ _ _ _ c.self.invariant c.deref.ensures.value c.in_ok-place.ensures, c.self.invariant.few_bytes)

pub returns : goal.returns
returns c =
    let fits : SFits w64 c.args.by = search rules in
    c.moved_to.ensures
    ∙ moved_of _ _ _ _ _ c.args.ptr.0 _ _ c.args.size c.self.view_is c.self.invariant c.deref.ensures.value c.in_ok-place.ensures
    ∙ ap (λ by. moved c.args.self.now c.args.ptr.0 by c.args.size) (to_z-of_z fits)
