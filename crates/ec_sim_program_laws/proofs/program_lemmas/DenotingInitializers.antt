-- Nothing is denoted by initializers.
use Rattle.std.proofs.Common.{Bool, Option, Some, None}
use Rattle.ec_ctypes.specs.trees.Types.{TyData}
use Rattle.ec_ctypes.specs.trees.Exprs.{ExprData, InitData, one, many, InitList, no_inits, inits}
use Rattle.ec_typing_defs.specs.Operands.{OperandData}
use Rattle.ec_typing_defs.specs.Worlds.{Place}
use Rattle.ec_typing_defs.specs.Initializers.{Frames, fixed_rule, init_value, suits_rule, go_by, go_to, next_part, part_rule, slot_of, slot_rule, single_by, braces_rule, initializer, fill, fill_part}
use Rattle.ec_sim_program_laws.proofs.program_lemmas.DenotingRules.{DenotesNone, chained, asked, pure_denotes, fault, demand_denotes, if_some}
use Rattle.ec_sim_program_laws.proofs.program_lemmas.DenotingExpressions.{valued, expr_denotes}

fixed_denotes : (at : Place) (global : Bool) (o : OperandData) → DenotesNone (fixed_rule at global o)
unfolding fixed_rule
fixed_denotes at global o = if_some o.type (pure_denotes _) (λ t. demand_denotes _ _ _)

value_denotes : (at : Place) (global : Bool) (e : ExprData) → DenotesNone (init_value at global e)
value_denotes at global e = chained (valued at (expr_denotes at e)) (λ o. chained (fixed_denotes at global o) (λ a. pure_denotes _))

suits_denotes : (at : Place) (o : OperandData) (t : TyData) → DenotesNone (suits_rule at o t)
unfolding suits_rule
suits_denotes at o t = if_some o.type (pure_denotes _) (λ s. demand_denotes _ _ _)

go_by_denotes : (at : Place) (o : OperandData) (p : Option (TyData × Frames)) → DenotesNone (go_by at o p)
go_by_denotes at o None = pure_denotes _
go_by_denotes at o (Some p) = chained (suits_denotes at o p.0) (λ a. pure_denotes _)

go_to_denotes : (at : Place) (o : OperandData) (p : Option (Option TyData × Frames)) → DenotesNone (go_to at o p)
go_to_denotes at o None = fault _ _ _
go_to_denotes at o (Some p) = if_some p.0 (pure_denotes _) (λ t. asked _ _ (λ known. go_by_denotes at o _))

expression_part_denotes : (at : Place) (fs : Option Frames) (o : OperandData) → DenotesNone (part_rule at fs o)
unfolding part_rule
expression_part_denotes at None o = pure_denotes _
expression_part_denotes at (Some fs) o = if_some o.type (pure_denotes _) (λ s. go_to_denotes at o (next_part fs))

slot_of_denotes : (at : Place) (p : Option (Option TyData × Frames)) → DenotesNone (slot_of at p)
slot_of_denotes at None = fault _ _ _
slot_of_denotes at (Some p) = if_some p.0 (pure_denotes _) (λ t. pure_denotes _)

slot_denotes : (at : Place) (fs : Option Frames) → DenotesNone (slot_rule at fs)
unfolding slot_rule
slot_denotes at None = pure_denotes _
slot_denotes at (Some fs) = slot_of_denotes at (next_part fs)

single_denotes : (at : Place) (t : Option TyData) (o : OperandData) → DenotesNone (single_by at t o)
single_denotes at None o = pure_denotes _
single_denotes at (Some t) o = chained (suits_denotes at o t) (λ a. pure_denotes _)

braces_denotes : (at : Place) (t : Option TyData) (is : InitList) → DenotesNone (braces_rule at t is)
unfolding braces_rule
braces_denotes at None is = pure_denotes _
braces_denotes at (Some t) is = demand_denotes _ _ _

mutual
  pub initializer_denotes : (at : Place) (global : Bool) (t : Option TyData) (i : InitData) → DenotesNone (initializer at global t i)
  initializer_denotes at global t (one e) = chained (value_denotes at global e) (λ o. single_denotes at t o)
  initializer_denotes at global t (many is) = chained (braces_denotes at t is) (λ a. asked _ _ (λ known. chained (fill_denotes at global _ is) (λ rest. pure_denotes _)))

  fill_denotes : (at : Place) (global : Bool) (fs : Option Frames) (is : InitList) → DenotesNone (fill at global fs is)
  fill_denotes at global fs no_inits = pure_denotes _
  fill_denotes at global fs (inits i is) = chained (part_denotes at global fs i) (λ rest. fill_denotes at global rest is)

  part_denotes : (at : Place) (global : Bool) (fs : Option Frames) (i : InitData) → DenotesNone (fill_part at global fs i)
  part_denotes at global fs (one e) = chained (value_denotes at global e) (λ o. expression_part_denotes at fs o)
  part_denotes at global fs (many is) = chained (slot_denotes at fs) (λ slot. chained (braces_denotes at slot.0 is) (λ a. asked _ _ (λ known. chained (fill_denotes at global _ is) (λ rest. pure_denotes _))))
