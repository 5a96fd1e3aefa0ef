use Rattle.std.proofs.Common.{◌∙◌, Some, ap}
use Rattle.ec_check.proofs.Listed.{member_read}
use Rattle.ec_check.proofs.structs.member_at.Goals as goal

pub returns-in_ok-member-in-Some-value_at : goal.returns-in_ok-member-in-Some-value_at
returns-in_ok-member-in-Some-value_at c =
    ap (λ m. Some m) c.in_ok-member-in-Some-value_at.ensures ∙ member_read c.args.members.now c.args.i c.in-Some.name.now c.in-Some-value_at.ty.now c.in-Some.ensures c.in-Some-value_at.ensures
