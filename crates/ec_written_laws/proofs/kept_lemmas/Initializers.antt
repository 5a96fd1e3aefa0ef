-- Initializers in which the rules find nothing.
use Rattle.std.proofs.Common.{◌≡◌, Bool, true, refl, Option, Some, None}
use Rattle.ec_ctypes.specs.trees.Types.{TyData}
use Rattle.ec_ctypes.specs.trees.Exprs.{ExprData, InitData, one, many, InitList, no_inits, inits}
use Rattle.ec_typing_defs.specs.Operands.{OperandData}
use Rattle.ec_typing_defs.specs.Worlds.{Place}
use Rattle.ec_typing_defs.specs.Initializers.{Frames, fixed_rule, init_value, suits_rule, go_by, go_to, next_part, part_rule, slot_of, slot_rule, single_by, braces_rule, initializer, fill, fill_part}
use Rattle.ec_written_laws.specs.source.Kept.{keeps_expr, keeps_init, keeps_inits}
use Rattle.ec_written_laws.specs.kept.Phases.{by_checks}
use Rattle.ec_written_laws.proofs.kept_lemmas.Rules.{join, Holds, Quiet, chained, gives, asked, pure_holds, fault, demand_quiet, if_some}
use Rattle.ec_written_laws.proofs.kept_lemmas.Expressions.{valued, expr_kept}

fixed_quiet : (at : Place) (global : Bool) (o : OperandData) → Quiet (fixed_rule at global o)
unfolding fixed_rule
fixed_quiet at global o = if_some o.type (pure_holds _ tt) (λ t. demand_quiet _ _ _)

value_kept : (at : Place) (global : Bool) (e : ExprData) → Holds (init_value at global e) (keeps_expr by_checks e ≡ true)
value_kept at global e = chained (valued at (expr_kept at e)) (λ o h. chained (fixed_quiet at global o) (λ a p. pure_holds _ h))

suits_quiet : (at : Place) (o : OperandData) (t : TyData) → Quiet (suits_rule at o t)
unfolding suits_rule
suits_quiet at o t = if_some o.type (pure_holds _ tt) (λ s. demand_quiet _ _ _)

go_by_quiet : (at : Place) (o : OperandData) (p : Option (TyData × Frames)) → Quiet (go_by at o p)
go_by_quiet at o None = pure_holds _ tt
go_by_quiet at o (Some p) = chained (suits_quiet at o p.0) (λ a q. pure_holds _ tt)

go_to_quiet : (at : Place) (o : OperandData) (p : Option (Option TyData × Frames)) → Quiet (go_to at o p)
go_to_quiet at o None = fault _ _ _
go_to_quiet at o (Some p) = if_some p.0 (pure_holds _ tt) (λ t. asked _ _ (λ w c. go_by_quiet at o _))

part_quiet : (at : Place) (fs : Option Frames) (o : OperandData) → Quiet (part_rule at fs o)
unfolding part_rule
part_quiet at None o = pure_holds _ tt
part_quiet at (Some fs) o = if_some o.type (pure_holds _ tt) (λ s. go_to_quiet at o (next_part fs))

slot_of_quiet : (at : Place) (p : Option (Option TyData × Frames)) → Quiet (slot_of at p)
slot_of_quiet at None = fault _ _ _
slot_of_quiet at (Some p) = if_some p.0 (pure_holds _ tt) (λ t. pure_holds _ tt)

slot_quiet : (at : Place) (fs : Option Frames) → Quiet (slot_rule at fs)
unfolding slot_rule
slot_quiet at None = pure_holds _ tt
slot_quiet at (Some fs) = slot_of_quiet at (next_part fs)

single_quiet : (at : Place) (t : Option TyData) (o : OperandData) → Quiet (single_by at t o)
single_quiet at None o = pure_holds _ tt
single_quiet at (Some t) o = chained (suits_quiet at o t) (λ a p. pure_holds _ tt)

braces_quiet : (at : Place) (t : Option TyData) (is : InitList) → Quiet (braces_rule at t is)
unfolding braces_rule
braces_quiet at None is = pure_holds _ tt
braces_quiet at (Some t) is = demand_quiet _ _ _

mutual
  pub initializer_kept : (at : Place) (global : Bool) (t : Option TyData) (i : InitData) → Holds (initializer at global t i) (keeps_init by_checks i ≡ true)
  initializer_kept at global t (one e) = chained (value_kept at global e) (λ o h. gives (single_quiet at t o) (λ u. h))
  initializer_kept at global t (many is) = chained (braces_quiet at t is) (λ a p. asked _ _ (λ w c. chained (fill_kept at global _ is) (λ rest h. pure_holds _ h)))

  fill_kept : (at : Place) (global : Bool) (fs : Option Frames) (is : InitList) → Holds (fill at global fs is) (keeps_inits by_checks is ≡ true)
  fill_kept at global fs no_inits = pure_holds _ refl
  fill_kept at global fs (inits i is) = chained (part_kept at global fs i) (λ rest h. gives (fill_kept at global rest is) (λ k. join h k))

  part_kept : (at : Place) (global : Bool) (fs : Option Frames) (i : InitData) → Holds (fill_part at global fs i) (keeps_init by_checks i ≡ true)
  part_kept at global fs (one e) = chained (value_kept at global e) (λ o h. gives (part_quiet at fs o) (λ u. h))
  part_kept at global fs (many is) = chained (slot_quiet at fs) (λ slot p. chained (braces_quiet at slot.0 is) (λ a q. asked _ _ (λ w c. chained (fill_kept at global _ is) (λ rest h. pure_holds _ h))))
