-- The byte in the object, or that there is none.
use Rattle.std.proofs.Common.{◌∙◌, refl, arith}
use Rattle.ec_memory.proofs.Calls.{rising_of, object_room}
use Rattle.ec_memory.proofs.Singles.{byte_here, byte_beyond}
use Rattle.ec_memory.proofs.store.Store.byte.Goals as goal

pub object-requires : goal.object-requires
object-requires c = rising_of _ _ _ _ c.self.invariant c.deref.ensures.value

pub returns-then-behind-left : goal.returns-then-behind-left
returns-then-behind-left c = byte_beyond _ _ _ _ _ c.args.ptr.0 c.args.behind _ _ c.self.view_is c.self.invariant c.deref.ensures.value c.in_ok-place.ensures c.offset_in-offset.ensures (omega (arith, c.if-behind-left.true))

pub byte_at-requires : goal.byte_at-requires
byte_at-requires c = omega (arith, object_room _ _ _ _ _ _ c.self.invariant c.deref.ensures.value c.in_ok-place.ensures, c.if-behind-left.false)

pub returns : goal.returns
returns c = c.byte_at.ensures ∙ byte_here _ _ _ _ _ c.args.ptr.0 c.args.behind _ _ _ c.self.view_is c.self.invariant c.deref.ensures.value c.in_ok-place.ensures c.offset_in-offset.ensures (omega (arith, c.if-behind-left.false)) refl
