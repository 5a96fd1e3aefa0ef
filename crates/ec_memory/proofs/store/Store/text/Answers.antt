-- The cells that are left in the object.
use Rattle.std.proofs.Common.{◌∙◌, arith}
use Rattle.ec_memory.proofs.Calls.{rising_of, object_room, text_here, text_beyond}
use Rattle.ec_memory.proofs.store.Store.text.Goals as goal

pub object-requires : goal.object-requires
object-requires c = rising_of _ _ _ _ c.self.invariant c.deref.ensures.value

pub returns-then-offset-place : goal.returns-then-offset-place
returns-then-offset-place c = text_beyond _ _ _ _ _ c.args.ptr.0 _ _ c.self.view_is c.self.invariant c.deref.ensures.value c.in_ok-place.ensures c.offset_in-offset.ensures c.if-offset-place.true

pub text_in-requires : goal.text_in-requires
text_in-requires c = omega (arith, object_room _ _ _ _ _ _ c.self.invariant c.deref.ensures.value c.in_ok-place.ensures, c.if-offset-place.false)

pub returns : goal.returns
returns c = c.text_in.ensures ∙ text_here _ _ _ _ _ c.args.ptr.0 _ _ c.self.view_is c.self.invariant c.deref.ensures.value c.in_ok-place.ensures c.offset_in-offset.ensures (omega (arith, c.if-offset-place.false))
