-- Where an expression goes.
use Rattle.std.proofs.Common.{◌≡◌, ◌∙◌, ℕ, List, [], Option, Some, None, Result, Ok, Err, IfOk, refl, sym, ap}
use Rattle.ec_ctypes.specs.declared.types.ty.Ty.{Ty}
use Rattle.ec_ctypes.specs.trees.Types.{TyData}
use Rattle.ec_resolving_defs.specs.Initializers.{Goal, goal_type, goal_by, Spot, spots_in}
use Rattle.ec_scopes.specs.Entries.{type_view}
use Rattle.ec_typing_defs.specs.Initializers.{Frames, going_in, max_depth}
use Rattle.ec_typing_defs.specs.Operands.{OperandData}
use Rattle.ec_typing_defs.specs.Worlds.{World}
use Rattle.ec_initializers.specs.Frames.{gone_to}
use Rattle.ec_resolve_initials.specs.Spots.{next_place}

abbrev goal_at : Option TyData → ℕ → List Spot → Goal
goal_at t offset behind = record { type = t; offset = offset; behind = behind }

gone_type : (gone : Option Ty) (fs : Frames) → goal_type (gone_to gone fs) ≡ type_view gone
gone_type None fs = refl
gone_type (Some t) fs = refl

-- an expression went into a part of this type
pub aimed_into : (w : World) (o : OperandData) (offset : ℕ) (t : TyData) (fs new : Frames) (ss more : List Spot) (gone : Option Ty)
    → gone_to gone new ≡ going_in max_depth w o t fs → more ≡ spots_in max_depth w o offset t ss
    → goal_at (type_view gone) offset more ≡ goal_by w o (offset, ss) (Some (Some t, fs))
aimed_into w o offset t fs new ss more gone went spotted = λ i. goal_at ((sym (gone_type gone new) ∙ ap goal_type went) i) offset (spotted i)

-- no part is left
pub aimed_nowhere : (w : World) (o : OperandData) (next : ℕ × List Spot) (part : Option (Option TyData × Frames)) (ss : List Spot)
    → next_place 0 ss ≡ next → None ≡ part → goal_at None 0 [] ≡ goal_by w o next part
aimed_nowhere w o next part ss e none = λ i. goal_by w o (e i) (none i)

-- what is so of an answer is so of an equal one
pub if_ok_as : {A X E : Type 0} (result : Result A E) (view : A → X) {x y : X} → x ≡ y → IfOk result (λ a. view a ≡ x) → IfOk result (λ a. view a ≡ y)
if_ok_as (Ok a) view e h = h ∙ e
if_ok_as (Err x) view e h = h
