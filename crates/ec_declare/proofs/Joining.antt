-- Uses of VARCHAR and marks, joined.
use Rattle.std.proofs.Common.{◌≡◌, Bool, true, false, ◌||◌, Option, Some, None, refl}
use Rattle.ec_host_defs.specs.sections.Places.{later}
use Rattle.ec_host_defs.specs.sections.Uses.{UsesData, nowhere, ◌&◌}

or_none : (a : Bool) → (a || false) ≡ a
or_none true = refl
or_none false = refl

or_group : (a b c : Bool) → ((a || b) || c) ≡ (a || (b || c))
or_group true b c = refl
or_group false b c = refl

pub and_nowhere : (u : UsesData) → (u & nowhere) ≡ u
and_nowhere u = λ i. record { any = or_none u.any i; left_out = or_none u.left_out i; lacks_length = or_none u.lacks_length i }

pub and_group : (u v w : UsesData) → ((u & v) & w) ≡ (u & (v & w))
and_group u v w = λ i. record { any = or_group u.any v.any w.any i; left_out = or_group u.left_out v.left_out w.left_out i; lacks_length = or_group u.lacks_length v.lacks_length w.lacks_length i }

pub ruleset joining = (and_nowhere, and_group)

pub later_alone : (b : Option Bool) → later None b ≡ b
later_alone None = refl
later_alone (Some opens) = refl

pub later_group : (a b c : Option Bool) → later (later a b) c ≡ later a (later b c)
later_group a b None = refl
later_group a b (Some opens) = refl

pub ruleset following = (later_alone, later_group)
