-- Names and declarations stay as they are by initializers.
use Rattle.std.proofs.Common.{Bool, Option, Some, None}
use Rattle.ec_ctypes.specs.trees.Types.{TyData}
use Rattle.ec_ctypes.specs.trees.Exprs.{ExprData, InitData, one, many, InitList, no_inits, inits}
use Rattle.ec_typing_defs.specs.Operands.{OperandData}
use Rattle.ec_typing_defs.specs.Worlds.{Place}
use Rattle.ec_typing_defs.specs.Initializers.{Frames, fixed_rule, init_value, suits_rule, go_by, go_to, next_part, part_rule, slot_of, slot_rule, single_by, braces_rule, initializer, fill, fill_part}
use Rattle.ec_sim_world_laws.proofs.known_lemmas.NamesRules.{Staying, chained, asked, pure_stays, fault, demand_stays, if_some}
use Rattle.ec_sim_world_laws.proofs.known_lemmas.NamesExpressions.{valued, expr_stays}

fixed_stays : (at : Place) (global : Bool) (o : OperandData) → Staying (fixed_rule at global o)
unfolding fixed_rule
fixed_stays at global o = if_some o.type (pure_stays _) (λ t. demand_stays _ _ _)

value_stays : (at : Place) (global : Bool) (e : ExprData) → Staying (init_value at global e)
value_stays at global e = chained (valued at (expr_stays at e)) (λ o. chained (fixed_stays at global o) (λ a. pure_stays _))

suits_stays : (at : Place) (o : OperandData) (t : TyData) → Staying (suits_rule at o t)
unfolding suits_rule
suits_stays at o t = if_some o.type (pure_stays _) (λ s. demand_stays _ _ _)

go_by_stays : (at : Place) (o : OperandData) (p : Option (TyData × Frames)) → Staying (go_by at o p)
go_by_stays at o None = pure_stays _
go_by_stays at o (Some p) = chained (suits_stays at o p.0) (λ a. pure_stays _)

go_to_stays : (at : Place) (o : OperandData) (p : Option (Option TyData × Frames)) → Staying (go_to at o p)
go_to_stays at o None = fault _ _ _
go_to_stays at o (Some p) = if_some p.0 (pure_stays _) (λ t. asked _ _ (λ known. go_by_stays at o _))

expression_part_stays : (at : Place) (fs : Option Frames) (o : OperandData) → Staying (part_rule at fs o)
unfolding part_rule
expression_part_stays at None o = pure_stays _
expression_part_stays at (Some fs) o = if_some o.type (pure_stays _) (λ s. go_to_stays at o (next_part fs))

slot_of_stays : (at : Place) (p : Option (Option TyData × Frames)) → Staying (slot_of at p)
slot_of_stays at None = fault _ _ _
slot_of_stays at (Some p) = if_some p.0 (pure_stays _) (λ t. pure_stays _)

slot_stays : (at : Place) (fs : Option Frames) → Staying (slot_rule at fs)
unfolding slot_rule
slot_stays at None = pure_stays _
slot_stays at (Some fs) = slot_of_stays at (next_part fs)

single_stays : (at : Place) (t : Option TyData) (o : OperandData) → Staying (single_by at t o)
single_stays at None o = pure_stays _
single_stays at (Some t) o = chained (suits_stays at o t) (λ a. pure_stays _)

braces_stays : (at : Place) (t : Option TyData) (is : InitList) → Staying (braces_rule at t is)
unfolding braces_rule
braces_stays at None is = pure_stays _
braces_stays at (Some t) is = demand_stays _ _ _

mutual
  pub initializer_stays : (at : Place) (global : Bool) (t : Option TyData) (i : InitData) → Staying (initializer at global t i)
  initializer_stays at global t (one e) = chained (value_stays at global e) (λ o. single_stays at t o)
  initializer_stays at global t (many is) = chained (braces_stays at t is) (λ a. asked _ _ (λ known. chained (fill_stays at global _ is) (λ rest. pure_stays _)))

  fill_stays : (at : Place) (global : Bool) (fs : Option Frames) (is : InitList) → Staying (fill at global fs is)
  fill_stays at global fs no_inits = pure_stays _
  fill_stays at global fs (inits i is) = chained (part_stays at global fs i) (λ rest. fill_stays at global rest is)

  part_stays : (at : Place) (global : Bool) (fs : Option Frames) (i : InitData) → Staying (fill_part at global fs i)
  part_stays at global fs (one e) = chained (value_stays at global e) (λ o. expression_part_stays at fs o)
  part_stays at global fs (many is) = chained (slot_stays at fs) (λ slot. chained (braces_stays at slot.0 is) (λ a. asked _ _ (λ known. chained (fill_stays at global _ is) (λ rest. pure_stays _))))
