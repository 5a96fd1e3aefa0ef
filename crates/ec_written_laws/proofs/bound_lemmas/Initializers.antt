-- Initializers of a source, in which the rules find nothing.
use Rattle.std.proofs.Common.{◌≡◌, Bool, true, false, refl, Option, Some, None}
use Rattle.std.proofs.lemmas.Bool.{false≢true}
use Rattle.ec_ctypes.specs.trees.Types.{TyData}
use Rattle.ec_ctypes.specs.trees.Exprs.{ExprData, InitData, one, many, InitList, no_inits, inits}
use Rattle.ec_typing_defs.specs.Operands.{OperandData}
use Rattle.ec_typing_defs.specs.Worlds.{Place}
use Rattle.ec_typing_defs.specs.Initializers.{Frames, fixed_rule, init_value, suits_rule, go_by, go_to, next_part, part_rule, slot_of, slot_rule, single_by, braces_rule, initializer, fill, fill_part}
use Rattle.ec_language.proofs.Ends.{both}
use Rattle.ec_written_laws.specs.source.SourceShape.{is_source_expr, is_source_init, are_some_source_inits, are_source_inits}
use Rattle.ec_written_laws.proofs.bound_lemmas.Rules.{Holds, Quiet, chained, asked, pure_holds, fault, demand_quiet, if_some}
use Rattle.ec_written_laws.proofs.bound_lemmas.Expressions.{valued, expr_quiet}

fixed_quiet : (at : Place) (global : Bool) (o : OperandData) → Quiet (fixed_rule at global o)
unfolding fixed_rule
fixed_quiet at global o = if_some o.type (pure_holds _ tt) (λ t. demand_quiet _ _ _)

init_value_quiet : (at : Place) (global : Bool) (e : ExprData) → is_source_expr e ≡ true → Quiet (init_value at global e)
init_value_quiet at global e s = chained (valued at (expr_quiet at e s)) (λ o h. chained (fixed_quiet at global o) (λ a p. pure_holds _ tt))

suits_quiet : (at : Place) (o : OperandData) (t : TyData) → Quiet (suits_rule at o t)
unfolding suits_rule
suits_quiet at o t = if_some o.type (pure_holds _ tt) (λ s. demand_quiet _ _ _)

go_by_quiet : (at : Place) (o : OperandData) (p : Option (TyData × Frames)) → Quiet (go_by at o p)
go_by_quiet at o None = pure_holds _ tt
go_by_quiet at o (Some p) = chained (suits_quiet at o p.0) (λ a q. pure_holds _ tt)

go_to_quiet : (at : Place) (o : OperandData) (p : Option (Option TyData × Frames)) → Quiet (go_to at o p)
go_to_quiet at o None = fault _ _ _
go_to_quiet at o (Some p) = if_some p.0 (pure_holds _ tt) (λ t. asked _ _ (λ w c. go_by_quiet at o _))

part_quiet : (at : Place) (fs : Option Frames) (o : OperandData) → Quiet (part_rule at fs o)
unfolding part_rule
part_quiet at None o = pure_holds _ tt
part_quiet at (Some fs) o = if_some o.type (pure_holds _ tt) (λ s. go_to_quiet at o (next_part fs))

slot_of_quiet : (at : Place) (p : Option (Option TyData × Frames)) → Quiet (slot_of at p)
slot_of_quiet at None = fault _ _ _
slot_of_quiet at (Some p) = if_some p.0 (pure_holds _ tt) (λ t. pure_holds _ tt)

slot_quiet : (at : Place) (fs : Option Frames) → Quiet (slot_rule at fs)
unfolding slot_rule
slot_quiet at None = pure_holds _ tt
slot_quiet at (Some fs) = slot_of_quiet at (next_part fs)

single_quiet : (at : Place) (t : Option TyData) (o : OperandData) → Quiet (single_by at t o)
single_quiet at None o = pure_holds _ tt
single_quiet at (Some t) o = chained (suits_quiet at o t) (λ a p. pure_holds _ tt)

braces_quiet : (at : Place) (t : Option TyData) (is : InitList) → Quiet (braces_rule at t is)
unfolding braces_rule
braces_quiet at None is = pure_holds _ tt
braces_quiet at (Some t) is = demand_quiet _ _ _

mutual
  pub initializer_quiet : (at : Place) (global : Bool) (t : Option TyData) (i : InitData) → is_source_init i ≡ true → Quiet (initializer at global t i)
  initializer_quiet at global t (one e) s = chained (init_value_quiet at global e s) (λ o h. single_quiet at t o)
  initializer_quiet at global t (many no_inits) s = absurd (false≢true s)
  initializer_quiet at global t (many (inits i is)) s = chained (braces_quiet at t (inits i is)) (λ a p. asked _ _ (λ w c. chained (fill_quiet at global _ (inits i is) s) (λ rest h. pure_holds _ tt)))

  fill_quiet : (at : Place) (global : Bool) (fs : Option Frames) (is : InitList) → are_source_inits is ≡ true → Quiet (fill at global fs is)
  fill_quiet at global fs no_inits s = pure_holds _ tt
  fill_quiet at global fs (inits i is) s = let p = both (is_source_init i) (are_source_inits is) s in chained (fill_part_quiet at global fs i p.0) (λ rest h. fill_quiet at global rest is p.1)

  fill_part_quiet : (at : Place) (global : Bool) (fs : Option Frames) (i : InitData) → is_source_init i ≡ true → Quiet (fill_part at global fs i)
  fill_part_quiet at global fs (one e) s = chained (init_value_quiet at global e s) (λ o h. part_quiet at fs o)
  fill_part_quiet at global fs (many no_inits) s = absurd (false≢true s)
  fill_part_quiet at global fs (many (inits i is)) s =
      chained (slot_quiet at fs) (λ slot p. chained (braces_quiet at slot.0 (inits i is)) (λ a q. asked _ _ (λ w c. chained (fill_quiet at global _ (inits i is) s) (λ rest h. pure_holds _ tt))))
