-- Nothing is denoted by the rules of operands.
use Rattle.std.proofs.Common.{ℕ, Bool, true, ◌||◌, List, map, Option, Some, None}
use Rattle.std.specs.Prelude.{codes, pos, is_some}
use Rattle.ec_base.specs.declared.fault.FaultKind.TheVariants.{F11, F14}
use Rattle.ec_ctypes.specs.declared.tree.expr.BinOp.{BinOp}
use Rattle.ec_ctypes.specs.declared.tree.expr.UnOp.{UnOp}
use Rattle.ec_ctypes.specs.declared.tree.expr.UnOp.TheVariants.{Addr, Deref, Plus, Minus, Not, Flip}
use Rattle.ec_ctypes.specs.declared.checked.library.LibName.{LibName}
use Rattle.ec_ctypes.specs.trees.Types.{TyData, structure}
use Rattle.ec_ctypes.specs.trees.Exprs.{ExprList}
use Rattle.ec_language.specs.Letters.{Text, same_text}
use Rattle.ec_typing_defs.specs.Known.{KnownData, plain, formatted, known_function}
use Rattle.ec_typing_defs.specs.Operands.{OperandData, computed, unknown, object_operand, null_operand, integer_operand, given, typed, predefined, named_by, name_rule, value_rule, address_rule, found_or_types, target_rule, sign_rule, unary_rule, binary_rule, element_by, index_rule, assigned, assign_rule, compound_rule, bump_rule, arguments_rule, format_rule, known_rule, library_rule, undeclared_call, call_by, call_rule, member_by, member_in, member_rule, arrow_rule, scalar_cast, cast_to, cast_rule, size_rule, length_by, length_rule, elements_rule, within_rule, complete_rule}
use Rattle.ec_typing_defs.specs.Worlds.{Place, EntryData, object, function, Rule}
use Rattle.ec_typing_defs.specs.Types.{int_type}
use Rattle.ec_sim_program_laws.proofs.program_lemmas.DenotingRules.{DenotesNone, chained, asked, pure_denotes, fault, demand_denotes, keep_denotes, chosen, decided, if_some}

pub given_denotes : (t : Option TyData) {f : TyData → Rule OperandData} → ((s : TyData) → DenotesNone (f s)) → DenotesNone (given t f)
given_denotes None k = pure_denotes _
given_denotes (Some t) k = k t

typed_denotes : (at : Place) (t : Option TyData) → DenotesNone (typed at t)
unfolding typed
typed_denotes at (Some t) = pure_denotes _
typed_denotes at None = fault _ _ _

predefined_denotes : (at : Place) (name : Text) → DenotesNone (predefined at name)
predefined_denotes at name =
    decided (same_text name (codes "sqlca")) (pure_denotes (object_operand true (Some (structure 1))))
    (decided (same_text name (codes "NULL")) (pure_denotes null_operand)
    (decided (same_text name (codes "true")) (pure_denotes (integer_operand int_type (pos 1)))
    (decided (same_text name (codes "false")) (pure_denotes (integer_operand int_type (pos 0)))
    (decided (is_some (known_function name)) (fault at F14 unknown) (fault at F11 unknown)))))

named_denotes : (at : Place) (name : Text) (e : Option EntryData) → DenotesNone (named_by at name e)
unfolding named_by
named_denotes at name (Some (object k global t)) = pure_denotes _
named_denotes at name (Some (function k done r ps)) = fault _ _ _
named_denotes at name None = predefined_denotes at name

pub name_denotes : (at : Place) (name : Text) → DenotesNone (name_rule at name)
unfolding name_rule
name_denotes at name = asked _ _ (λ known. named_denotes at name _)

pub value_denotes : (at : Place) (o : OperandData) → DenotesNone (value_rule at o)
unfolding value_rule
value_denotes at o = given_denotes o.type (λ t. asked _ _ (λ known. chosen _ (fault _ _ _) (pure_denotes _)))

pub address_denotes : (at : Place) (o : OperandData) → DenotesNone (address_rule at o)
unfolding address_rule
address_denotes at o = given_denotes o.type (λ t. chosen (o.is_place || o.is_target) (pure_denotes _) (fault _ _ _))

or_types_denotes : (at : Place) (o : Option OperandData) → DenotesNone (found_or_types at o)
or_types_denotes at (Some o) = pure_denotes _
or_types_denotes at None = fault _ _ _

target_denotes : (at : Place) (o : OperandData) → DenotesNone (target_rule at o)
unfolding target_rule
target_denotes at o = given_denotes o.type (λ t. or_types_denotes at _)

sign_denotes : (at : Place) (op : UnOp) (o : OperandData) → DenotesNone (sign_rule at op o)
unfolding sign_rule
sign_denotes at op o = given_denotes o.type (λ t. chained (typed_denotes at _) (λ a. pure_denotes _))

pub unary_denotes : (at : Place) (op : UnOp) (o : OperandData) → DenotesNone (unary_rule at op o)
unary_denotes at Deref o = target_denotes at o
unary_denotes at Addr o = sign_denotes at Addr o
unary_denotes at Plus o = sign_denotes at Plus o
unary_denotes at Minus o = sign_denotes at Minus o
unary_denotes at Not o = sign_denotes at Not o
unary_denotes at Flip o = sign_denotes at Flip o

pub binary_denotes : (at : Place) (op : BinOp) (a b : OperandData) → DenotesNone (binary_rule at op a b)
unfolding binary_rule
binary_denotes at op a b = given_denotes a.type (λ s. given_denotes b.type (λ t. asked _ _ (λ known. chained (typed_denotes at _) (λ x. pure_denotes _))))

element_denotes : (at : Place) (t : Option TyData) → DenotesNone (element_by at t)
element_denotes at (Some t) = pure_denotes _
element_denotes at None = fault _ _ _

pub index_denotes : (at : Place) (a b : OperandData) → DenotesNone (index_rule at a b)
unfolding index_rule
index_denotes at a b = given_denotes a.type (λ s. given_denotes b.type (λ t. asked _ _ (λ known. element_denotes at _)))

assigned_denotes : (at : Place) (allows : Bool) (s : TyData) → DenotesNone (assigned at allows s)
assigned_denotes at allows s = chosen _ (pure_denotes _) (typed_denotes at _)

pub assign_denotes : (at : Place) (a b : OperandData) → DenotesNone (assign_rule at a b)
unfolding assign_rule
assign_denotes at a b = given_denotes a.type (λ s. chained (demand_denotes _ _ _) (λ x. given_denotes b.type (λ t. assigned_denotes at _ s)))

pub compound_denotes : (at : Place) (op : BinOp) (a b : OperandData) → DenotesNone (compound_rule at op a b)
unfolding compound_rule
compound_denotes at op a b = given_denotes a.type (λ s. chained (demand_denotes _ _ _) (λ x. given_denotes b.type (λ t. asked _ _ (λ known. assigned_denotes at _ s))))

pub bump_denotes : (at : Place) (o : OperandData) → DenotesNone (bump_rule at o)
unfolding bump_rule
bump_denotes at o = given_denotes o.type (λ t. chained (demand_denotes _ _ _) (λ x. asked _ _ (λ known. assigned_denotes at _ t)))

arguments_denotes : (at : Place) (ps : Option (List (Option TyData))) (os : List OperandData) → DenotesNone (arguments_rule at ps os)
arguments_denotes at None os = pure_denotes _
arguments_denotes at (Some ps) os = chained (demand_denotes _ _ _) (λ x. demand_denotes _ _ _)

format_denotes : (at : Place) (n : ℕ) (name : Text) (es : ExprList) (os : List OperandData) → DenotesNone (format_rule at n name es os)
format_denotes at n name es os = chosen _ (chained (demand_denotes _ _ _) (λ x. chained (demand_denotes _ _ _) (λ y. pure_denotes _))) (fault _ _ _)

known_denotes : (at : Place) (name : Text) (es : ExprList) (os : List OperandData) (k : Option KnownData) → DenotesNone (known_rule at name es os k)
known_denotes at name es os None = fault _ _ _
known_denotes at name es os (Some (plain r ps)) = chained (arguments_denotes at (Some (map Some ps)) os) (λ x. pure_denotes (computed (Some r)))
known_denotes at name es os (Some (formatted n)) = format_denotes at n name es os

library_denotes : (at : Place) (call : LibName) (es : ExprList) (os : List OperandData) → DenotesNone (library_rule at call es os)
library_denotes at call es os = chosen _ (pure_denotes _) (fault _ _ _)

undeclared_denotes : (at : Place) (name : Text) (es : ExprList) (os : List OperandData) (call : Option LibName) → DenotesNone (undeclared_call at name es os call)
undeclared_denotes at name es os (Some call) = library_denotes at call es os
undeclared_denotes at name es os None = known_denotes at name es os (known_function name)

call_by_denotes : (at : Place) (name : Text) (es : ExprList) (os : List OperandData) (e : Option EntryData) → DenotesNone (call_by at name es os e)
unfolding call_by
call_by_denotes at name es os (Some (object k global t)) = fault _ _ _
call_by_denotes at name es os (Some (function k done r ps)) = asked _ _ (λ known. chained (demand_denotes _ _ _) (λ x. chained (arguments_denotes at ps os) (λ y. pure_denotes _)))
call_by_denotes at name es os None = asked _ _ (λ known. undeclared_denotes at name es os _)

pub call_denotes : (at : Place) (name : Text) (es : ExprList) (os : List OperandData) → DenotesNone (call_rule at name es os)
unfolding call_rule
call_denotes at name es os = asked _ _ (λ known. call_by_denotes at name es os _)

member_by_denotes : (at : Place) (of_place : Bool) (t : Option (Option TyData)) → DenotesNone (member_by at of_place t)
member_by_denotes at of_place (Some t) = pure_denotes _
member_by_denotes at of_place None = fault _ _ _

member_in_denotes : (at : Place) (of_place : Bool) (m : Text) (k : Option ℕ) → DenotesNone (member_in at of_place m k)
member_in_denotes at of_place m None = fault _ _ _
member_in_denotes at of_place m (Some k) = asked _ _ (λ known. member_by_denotes at of_place _)

pub member_denotes : (at : Place) (o : OperandData) (m : Text) → DenotesNone (member_rule at o m)
unfolding member_rule
member_denotes at o m = given_denotes o.type (λ t. member_in_denotes at o.is_place m _)

pub arrow_denotes : (at : Place) (o : OperandData) (m : Text) → DenotesNone (arrow_rule at o m)
unfolding arrow_rule
arrow_denotes at o m = given_denotes o.type (λ t. member_in_denotes at true m _)

scalar_denotes : (at : Place) (s : TyData) (o : OperandData) → DenotesNone (scalar_cast at s o)
unfolding scalar_cast
scalar_denotes at s o = given_denotes o.type (λ t. chained (typed_denotes at _) (λ x. pure_denotes _))

cast_to_denotes : (at : Place) (o : OperandData) (s : TyData) → DenotesNone (cast_to at o s)
cast_to_denotes at o s = chosen _ (given_denotes o.type (λ t. pure_denotes _)) (chained (value_denotes at o) (λ x. scalar_denotes at s x))

pub cast_denotes : (at : Place) (to : Option TyData) (o : OperandData) → DenotesNone (cast_rule at to o)
unfolding cast_rule
cast_denotes at to o = given_denotes to (λ s. cast_to_denotes at o s)

pub size_denotes : (at : Place) (t : Option TyData) → DenotesNone (size_rule at t)
unfolding size_rule
size_denotes at t = given_denotes t (λ s. asked _ _ (λ known. asked _ _ (λ more. chosen _ (pure_denotes _) (fault _ _ _))))

length_by_denotes : (at : Place) (n : Option ℕ) → DenotesNone (length_by at n)
length_by_denotes at None = fault _ _ _
length_by_denotes at (Some n) = pure_denotes _

pub length_denotes : (at : Place) (o : OperandData) → DenotesNone (length_rule at o)
unfolding length_rule
length_denotes at o = if_some o.type (pure_denotes _) (λ t. length_by_denotes at _)

pub within_denotes : (at : Place) (t : Option TyData) → DenotesNone (within_rule at t)
unfolding within_rule
within_denotes at None = pure_denotes _
within_denotes at (Some t) = asked _ _ (λ known. keep_denotes _ _ _)

pub elements_denotes : (at : Place) (t : Option TyData) (stars : ℕ) (ns : List (Option ℕ)) → DenotesNone (elements_rule at t stars ns)
elements_denotes at None stars ns = pure_denotes _
elements_denotes at (Some t) stars ns = asked _ _ (λ known. demand_denotes _ _ _)

pub complete_denotes : (at : Place) (t : Option TyData) → DenotesNone (complete_rule at t)
unfolding complete_rule
complete_denotes at None = pure_denotes _
complete_denotes at (Some t) = asked _ _ (λ known. chosen _ (pure_denotes _) (fault _ _ _))
