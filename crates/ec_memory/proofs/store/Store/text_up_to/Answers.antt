-- The cells that are left in the object.
use Rattle.std.proofs.Common.{◌∙◌, arith}
use Rattle.ec_memory.proofs.Calls.{rising_of, object_room, front_here, front_beyond}
use Rattle.ec_memory.proofs.store.Store.text_up_to.Goals as goal

pub object-requires : goal.object-requires
object-requires c = rising_of _ _ _ _ c.self.invariant c.deref.ensures.value

pub returns-then-offset-place : goal.returns-then-offset-place
returns-then-offset-place c = front_beyond _ _ _ _ _ c.args.ptr.0 _ _ c.args.limit (omega (arith, c.if-limit-eq0.false)) c.self.view_is c.self.invariant c.deref.ensures.value c.in_ok-place.ensures c.offset_in-offset.ensures c.if-offset-place.true

pub front_in-requires : goal.front_in-requires
front_in-requires c = omega (arith, object_room _ _ _ _ _ _ c.self.invariant c.deref.ensures.value c.in_ok-place.ensures, c.if-offset-place.false)

pub returns : goal.returns
returns c = c.front_in.ensures ∙ front_here _ _ _ _ _ c.args.ptr.0 _ _ c.args.limit (omega (arith, c.if-limit-eq0.false)) c.self.view_is c.self.invariant c.deref.ensures.value c.in_ok-place.ensures c.offset_in-offset.ensures (omega (arith, c.if-offset-place.false))
