-- How many first types structs have behind initializers.
use Rattle.std.proofs.Common.{ℕ, ◌+◌, Bool, Option, Some, None}
use Rattle.ec_ctypes.specs.trees.Types.{TyData}
use Rattle.ec_ctypes.specs.trees.Exprs.{ExprData, InitData, one, many, InitList, no_inits, inits}
use Rattle.ec_typing_defs.specs.Worlds.{Place}
use Rattle.ec_typing_defs.specs.Initializers.{Frames, init_value, braces_rule, initializer, fill, fill_part}
use Rattle.ec_sim_world_laws.proofs.known_lemmas.SitesIdle.{Idle, pure_idle, demand_idle}
use Rattle.ec_sim_world_laws.proofs.known_lemmas.SitesChecks.{fixed_idle, part_idle, slot_idle, single_idle}
use Rattle.ec_sim_program_laws.specs.types.Flat.{IsFlat, PartIsFlat, PartsAreFlat}
use Rattle.ec_sim_program_laws.proofs.flat_lemmas.Counts.{expr_structs, part_structs, parts_structs}
use Rattle.ec_sim_program_laws.proofs.flat_lemmas.FirstRules.{Adds, chained, within, nothing, idle, then_idle, pure_adds, asked}
use Rattle.ec_sim_program_laws.proofs.flat_lemmas.FirstExpressions.{valued, two, expr_adds}

value_adds : (n : ℕ) (at : Place) (global : Bool) (e : ExprData) → IsFlat e → Adds n (n + expr_structs e) (init_value at global e)
value_adds n at global e f = chained (valued at (expr_adds n at e f)) (λ o. chained (idle (fixed_idle at global o)) (λ a. pure_adds _))

braces_idle : (at : Place) (t : Option TyData) (is : InitList) → Idle (braces_rule at t is)
unfolding braces_rule
braces_idle at None is = pure_idle _
braces_idle at (Some t) is = demand_idle _ _ _

mutual
  pub initializer_adds : (n : ℕ) (at : Place) (global : Bool) (t : Option TyData) (i : InitData) → PartIsFlat i → Adds n (n + part_structs i) (initializer at global t i)
  initializer_adds n at global t (one e) f = then_idle (value_adds n at global e f) (λ o. single_idle at t o)
  initializer_adds n at global t (many is) f = chained (idle (braces_idle at t is)) (λ a. asked _ _ (λ known. chained (fill_adds n at global _ is f) (λ rest. pure_adds _)))

  fill_adds : (n : ℕ) (at : Place) (global : Bool) (fs : Option Frames) (is : InitList) → PartsAreFlat is → Adds n (n + parts_structs is) (fill at global fs is)
  fill_adds n at global fs no_inits f = nothing (pure_adds _)
  fill_adds n at global fs (inits i is) f =
      within (chained (part_adds n at global fs i f.0) (λ rest. fill_adds (n + part_structs i) at global rest is f.1)) (two n (part_structs i) (parts_structs is))

  part_adds : (n : ℕ) (at : Place) (global : Bool) (fs : Option Frames) (i : InitData) → PartIsFlat i → Adds n (n + part_structs i) (fill_part at global fs i)
  part_adds n at global fs (one e) f = then_idle (value_adds n at global e f) (λ o. part_idle at fs o)
  part_adds n at global fs (many is) f =
      chained (idle (slot_idle at fs)) (λ slot. chained (idle (braces_idle at slot.0 is)) (λ a. asked _ _ (λ known. chained (fill_adds n at global _ is f) (λ rest. pure_adds _))))
