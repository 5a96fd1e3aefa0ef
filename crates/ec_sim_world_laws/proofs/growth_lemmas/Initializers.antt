-- What is known grows by initializers.
use Rattle.std.proofs.Common.{Bool, Option, Some, None}
use Rattle.ec_ctypes.specs.trees.Types.{TyData}
use Rattle.ec_ctypes.specs.trees.Exprs.{ExprData, InitData, one, many, InitList, no_inits, inits}
use Rattle.ec_typing_defs.specs.Operands.{OperandData}
use Rattle.ec_typing_defs.specs.Worlds.{Place}
use Rattle.ec_typing_defs.specs.Initializers.{Frames, fixed_rule, init_value, suits_rule, go_by, go_to, next_part, part_rule, slot_of, slot_rule, single_by, braces_rule, initializer, fill, fill_part}
use Rattle.ec_sim_world_laws.proofs.growth_lemmas.Rules.{Growing, chained, asked, pure_grows, fault, demand_grows, if_some}
use Rattle.ec_sim_world_laws.proofs.growth_lemmas.Expressions.{valued, expr_grows}

fixed_grows : (at : Place) (global : Bool) (o : OperandData) → Growing (fixed_rule at global o)
unfolding fixed_rule
fixed_grows at global o = if_some o.type (pure_grows _) (λ t. demand_grows _ _ _)

value_grows : (at : Place) (global : Bool) (e : ExprData) → Growing (init_value at global e)
value_grows at global e = chained (valued at (expr_grows at e)) (λ o. chained (fixed_grows at global o) (λ a. pure_grows _))

suits_grows : (at : Place) (o : OperandData) (t : TyData) → Growing (suits_rule at o t)
unfolding suits_rule
suits_grows at o t = if_some o.type (pure_grows _) (λ s. demand_grows _ _ _)

go_by_grows : (at : Place) (o : OperandData) (p : Option (TyData × Frames)) → Growing (go_by at o p)
go_by_grows at o None = pure_grows _
go_by_grows at o (Some p) = chained (suits_grows at o p.0) (λ a. pure_grows _)

go_to_grows : (at : Place) (o : OperandData) (p : Option (Option TyData × Frames)) → Growing (go_to at o p)
go_to_grows at o None = fault _ _ _
go_to_grows at o (Some p) = if_some p.0 (pure_grows _) (λ t. asked _ _ (λ known. go_by_grows at o _))

expression_part_grows : (at : Place) (fs : Option Frames) (o : OperandData) → Growing (part_rule at fs o)
unfolding part_rule
expression_part_grows at None o = pure_grows _
expression_part_grows at (Some fs) o = if_some o.type (pure_grows _) (λ s. go_to_grows at o (next_part fs))

slot_of_grows : (at : Place) (p : Option (Option TyData × Frames)) → Growing (slot_of at p)
slot_of_grows at None = fault _ _ _
slot_of_grows at (Some p) = if_some p.0 (pure_grows _) (λ t. pure_grows _)

slot_grows : (at : Place) (fs : Option Frames) → Growing (slot_rule at fs)
unfolding slot_rule
slot_grows at None = pure_grows _
slot_grows at (Some fs) = slot_of_grows at (next_part fs)

single_grows : (at : Place) (t : Option TyData) (o : OperandData) → Growing (single_by at t o)
single_grows at None o = pure_grows _
single_grows at (Some t) o = chained (suits_grows at o t) (λ a. pure_grows _)

braces_grows : (at : Place) (t : Option TyData) (is : InitList) → Growing (braces_rule at t is)
unfolding braces_rule
braces_grows at None is = pure_grows _
braces_grows at (Some t) is = demand_grows _ _ _

mutual
  pub initializer_grows : (at : Place) (global : Bool) (t : Option TyData) (i : InitData) → Growing (initializer at global t i)
  initializer_grows at global t (one e) = chained (value_grows at global e) (λ o. single_grows at t o)
  initializer_grows at global t (many is) = chained (braces_grows at t is) (λ a. asked _ _ (λ known. chained (fill_grows at global _ is) (λ rest. pure_grows _)))

  fill_grows : (at : Place) (global : Bool) (fs : Option Frames) (is : InitList) → Growing (fill at global fs is)
  fill_grows at global fs no_inits = pure_grows _
  fill_grows at global fs (inits i is) = chained (part_grows at global fs i) (λ rest. fill_grows at global rest is)

  part_grows : (at : Place) (global : Bool) (fs : Option Frames) (i : InitData) → Growing (fill_part at global fs i)
  part_grows at global fs (one e) = chained (value_grows at global e) (λ o. expression_part_grows at fs o)
  part_grows at global fs (many is) = chained (slot_grows at fs) (λ slot. chained (braces_grows at slot.0 is) (λ a. asked _ _ (λ known. chained (fill_grows at global _ is) (λ rest. pure_grows _))))
