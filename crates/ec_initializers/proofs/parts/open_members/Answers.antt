use Rattle.std.proofs.Common.{◌≡◌, ◌∙◌, Some, None, ap}
use Rattle.ec_ctypes.specs.declared.types.ty.Ty.{Ty}
use Rattle.ec_ctypes.specs.views.Types.{ty_view}
use Rattle.ec_initializers.specs.Frames.{shared_members}
use Rattle.ec_initializers.proofs.FrameLemmas.{first_read, pushed_members}
use Rattle.ec_initializers.proofs.parts.open_members.Goals as goal

pub returns-in-Some-None : goal.returns-in-Some-None
returns-in-Some-None c = (first_read c.args.members.now c.get.result.now (Some None) c.get.ensures (rw c.in-Some-None.field-0-is at c.in-Some-None.ensures), tt)

pub returns-in_ok-push-in-Some-Some : goal.returns-in_ok-push-in-Some-Some
returns-in_ok-push-in-Some-Some c = (
  ap (λ (t : Ty). Some (ty_view t)) c.in_ok-first-in-Some-Some.ensures ∙ first_read c.args.members.now c.get.result.now (Some (Some c.in-Some-Some.ty)) c.get.ensures (rw c.in-Some-Some.field-0-is at c.in-Some-Some.ensures),
  pushed_members c.args.members.now c.get.result.now (Some c.in-Some-Some.ty) c.args.frames.now c.push.new.self _ c.get.ensures (rw c.in-Some-Some.field-0-is at c.in-Some-Some.ensures)
      (ap (λ m. shared_members m 1) c.in_ok-share-in-Some-Some.ensures) c.in_ok-push-in-Some-Some.ensures.ok,
)
