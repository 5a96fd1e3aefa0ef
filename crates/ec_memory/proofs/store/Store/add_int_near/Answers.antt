-- The memory behind the call.
use Rattle.std.proofs.Common.{◌≡◌, ℤ, Option, Some, None, refl}
use Rattle.std.specs.Option.{IfSome, MatchOption}
use Rattle.std.proofs.lemmas.Int.{to_z-of_z}
use Rattle.ec_memory_defs.specs.Kinds.{kind_type}
use Rattle.ec_memory_defs.specs.declared.kind.Kind.TheVariants as kind
use Rattle.ec_memory_defs.specs.Memory.{number}
use Rattle.ec_memory.specs.Objects.{memory_of}
use Rattle.ec_memory.specs.Sums.{Adds, HasNoSum}
use Rattle.ec_memory.proofs.Calls.{room_of}
use Rattle.ec_memory.proofs.Near.{if_any, is_near, no_value, none_near}
use Rattle.ec_memory.proofs.Sums.{sum_there}
use Rattle.ec_memory.proofs.store.Store.add_int_near.Goals as goal

if_sum : (P : Type 0) (Q : ℤ → Type 0) (o : Option ℤ) → MatchOption o P Q → IfSome o Q
if_sum P Q None none = tt
if_sum P Q (Some before) sum = sum

no_sum : (P : Type 0) (Q : ℤ → Type 0) (o : Option ℤ) → MatchOption o P Q → o ≡ None → P
no_sum P Q None sum none = sum
no_sum P Q (Some before) sum none = cc

pub add_at-requires : goal.add_at-requires
add_at-requires c = room_of _ _ _ _ _ _ _ c.self.invariant c.deref.ensures.value c.in-Some.ensures.placed

pub returns-in-Some-clause-sum : goal.returns-in-Some-clause-sum
returns-in-Some-clause-sum c =
    let g = c.ranges.by in
    if_sum (HasNoSum c.args.self.now c.args.ptr.0 c.args.by)
    (λ before. Adds c.args.self.now c.args.ptr.0 before c.args.by (memory_of c.self.inside.made c.add_at.new.cells c.self.inside.alive.items))
    c.add_at.result
    (sum_there _ _ _ c.add_at.new.cells _ _ c.args.ptr.0 _ c.args.by _ c.self.view_is c.self.invariant c.deref.ensures.value c.in-Some.ensures.placed (simp to_z-of_z at c.add_at.ensures.sum))

pub returns-in-Some-clause-near : goal.returns-in-Some-clause-near
returns-in-Some-clause-near c =
    if_any c.add_at.result (is_near _ _ _ _ _ c.args.ptr.0 4 c.args.behind c.in-Some.at c.self.view_is c.self.invariant c.deref.ensures.value c.in-Some.ensures.near)

pub returns-in-Some-clause-none : goal.returns-in-Some-clause-none
returns-in-Some-clause-none c =
    let g = c.ranges.by in
    λ none near. no_sum (HasNoSum c.args.self.now c.args.ptr.0 c.args.by)
    (λ before. Adds c.args.self.now c.args.ptr.0 before c.args.by (memory_of c.self.inside.made c.add_at.new.cells c.self.inside.alive.items))
    c.add_at.result
    (sum_there _ _ _ c.add_at.new.cells _ _ c.args.ptr.0 _ c.args.by _ c.self.view_is c.self.invariant c.deref.ensures.value c.in-Some.ensures.placed (simp to_z-of_z at c.add_at.ensures.sum)) none

pub returns-in-None-clause-none : goal.returns-in-None-clause-none
returns-in-None-clause-none c = λ none near before found fits.
    no_value c.args.self.now c.args.ptr.0 (kind_type kind.Int)
    (none_near _ _ _ _ _ c.args.ptr.0 4 4 c.args.behind c.self.view_is c.self.invariant c.deref.ensures.value refl c.in-None.ensures.near near)
    (number before) found
