-- What is found out about expressions, as the definitions see it.
use Rattle.std.specs.Prelude.{ℕ, zero, suc, ◌==◌, Bool, true, false, List, length, map, Option, Some, None}
use Rattle.ec_scopes.specs.Entries.{type_view}
use Rattle.ec_type_rules.specs.Views.{constant_view}
use Rattle.ec_rules.specs.declared.operand.Operand.{Operand}
use Rattle.ec_ctypes.specs.trees.Types.{TyData, void}
use Rattle.ec_typing_defs.specs.Operands.{OperandData, computed, unknown, all_fit}

abbrev pub operand_view : Operand → OperandData
operand_view o =
    record {
      type = type_view o.ty;
      is_place = o.is_place;
      is_target = o.is_target;
      constant = constant_view o.constant;
      is_global = o.is_global;
      is_fixed = o.is_fixed;
      literal = o.literal;
    }

abbrev pub operands_view : List Operand → List OperandData
operands_view os = map operand_view os

-- whether an array is complete: its length, which is left out where it is 0, and whether its elements are, as far as both are known
abbrev pub array_completeness : Option ℕ → Option Bool → Option Bool
array_completeness None element = None
array_completeness (Some n) None = None
array_completeness (Some zero) (Some element) = Some false
array_completeness (Some (suc n)) (Some element) = Some element

-- a cast to void of an expression that has a type
abbrev pub void_cast : OperandData → OperandData
void_cast o = elim o.type [ None ↦ unknown | Some t ↦ computed (Some void) ]

-- there are as many operands as parameters, if these are known
abbrev pub are_counted : Option (List (Option TyData)) → List OperandData → Bool
are_counted None os = true
are_counted (Some ps) os = length os == length ps

-- each operand fits its parameter, if these are known
abbrev pub are_taken : Option (List (Option TyData)) → List OperandData → Bool
are_taken None os = true
are_taken (Some ps) os = all_fit ps os
