-- Structs stay closed in their order by initializers.
use Rattle.std.proofs.Common.{Bool, Option, Some, None}
use Rattle.ec_ctypes.specs.trees.Types.{TyData}
use Rattle.ec_ctypes.specs.trees.Exprs.{ExprData, InitData, one, many, InitList, no_inits, inits}
use Rattle.ec_typing_defs.specs.Operands.{OperandData}
use Rattle.ec_typing_defs.specs.Worlds.{Place}
use Rattle.ec_typing_defs.specs.Initializers.{Frames, fixed_rule, init_value, suits_rule, go_by, go_to, next_part, part_rule, slot_of, slot_rule, single_by, braces_rule, initializer, fill, fill_part}
use Rattle.ec_sim_world_laws.proofs.closing_lemmas.Rules.{Keeping, chained, asked, pure_keeps, fault, demand_keeps, if_some}
use Rattle.ec_sim_world_laws.proofs.closing_lemmas.Expressions.{valued, expr_keeps}

fixed_keeps : (at : Place) (global : Bool) (o : OperandData) → Keeping (fixed_rule at global o)
unfolding fixed_rule
fixed_keeps at global o = if_some o.type (pure_keeps _) (λ t. demand_keeps _ _ _)

value_keeps : (at : Place) (global : Bool) (e : ExprData) → Keeping (init_value at global e)
value_keeps at global e = chained (valued at (expr_keeps at e)) (λ o. chained (fixed_keeps at global o) (λ a. pure_keeps _))

suits_keeps : (at : Place) (o : OperandData) (t : TyData) → Keeping (suits_rule at o t)
unfolding suits_rule
suits_keeps at o t = if_some o.type (pure_keeps _) (λ s. demand_keeps _ _ _)

go_by_keeps : (at : Place) (o : OperandData) (p : Option (TyData × Frames)) → Keeping (go_by at o p)
go_by_keeps at o None = pure_keeps _
go_by_keeps at o (Some p) = chained (suits_keeps at o p.0) (λ a. pure_keeps _)

go_to_keeps : (at : Place) (o : OperandData) (p : Option (Option TyData × Frames)) → Keeping (go_to at o p)
go_to_keeps at o None = fault _ _ _
go_to_keeps at o (Some p) = if_some p.0 (pure_keeps _) (λ t. asked _ _ (λ known. go_by_keeps at o _))

expression_part_keeps : (at : Place) (fs : Option Frames) (o : OperandData) → Keeping (part_rule at fs o)
unfolding part_rule
expression_part_keeps at None o = pure_keeps _
expression_part_keeps at (Some fs) o = if_some o.type (pure_keeps _) (λ s. go_to_keeps at o (next_part fs))

slot_of_keeps : (at : Place) (p : Option (Option TyData × Frames)) → Keeping (slot_of at p)
slot_of_keeps at None = fault _ _ _
slot_of_keeps at (Some p) = if_some p.0 (pure_keeps _) (λ t. pure_keeps _)

slot_keeps : (at : Place) (fs : Option Frames) → Keeping (slot_rule at fs)
unfolding slot_rule
slot_keeps at None = pure_keeps _
slot_keeps at (Some fs) = slot_of_keeps at (next_part fs)

single_keeps : (at : Place) (t : Option TyData) (o : OperandData) → Keeping (single_by at t o)
single_keeps at None o = pure_keeps _
single_keeps at (Some t) o = chained (suits_keeps at o t) (λ a. pure_keeps _)

braces_keeps : (at : Place) (t : Option TyData) (is : InitList) → Keeping (braces_rule at t is)
unfolding braces_rule
braces_keeps at None is = pure_keeps _
braces_keeps at (Some t) is = demand_keeps _ _ _

mutual
  pub initializer_keeps : (at : Place) (global : Bool) (t : Option TyData) (i : InitData) → Keeping (initializer at global t i)
  initializer_keeps at global t (one e) = chained (value_keeps at global e) (λ o. single_keeps at t o)
  initializer_keeps at global t (many is) = chained (braces_keeps at t is) (λ a. asked _ _ (λ known. chained (fill_keeps at global _ is) (λ rest. pure_keeps _)))

  fill_keeps : (at : Place) (global : Bool) (fs : Option Frames) (is : InitList) → Keeping (fill at global fs is)
  fill_keeps at global fs no_inits = pure_keeps _
  fill_keeps at global fs (inits i is) = chained (part_keeps at global fs i) (λ rest. fill_keeps at global rest is)

  part_keeps : (at : Place) (global : Bool) (fs : Option Frames) (i : InitData) → Keeping (fill_part at global fs i)
  part_keeps at global fs (one e) = chained (value_keeps at global e) (λ o. expression_part_keeps at fs o)
  part_keeps at global fs (many is) = chained (slot_keeps at fs) (λ slot. chained (braces_keeps at slot.0 is) (λ a. asked _ _ (λ known. chained (fill_keeps at global _ is) (λ rest. pure_keeps _))))
