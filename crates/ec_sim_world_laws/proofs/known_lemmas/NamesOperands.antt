-- Names and declarations stay as they are by the rules of operands.
use Rattle.std.proofs.Common.{ℕ, Bool, true, ◌||◌, List, map, Option, Some, None}
use Rattle.std.specs.Prelude.{codes, pos, is_some}
use Rattle.ec_base.specs.declared.fault.FaultKind.TheVariants.{F11, F14}
use Rattle.ec_ctypes.specs.declared.tree.expr.BinOp.{BinOp}
use Rattle.ec_ctypes.specs.declared.tree.expr.UnOp.{UnOp}
use Rattle.ec_ctypes.specs.declared.tree.expr.UnOp.TheVariants.{Addr, Deref, Plus, Minus, Not, Flip}
use Rattle.ec_ctypes.specs.declared.checked.library.LibName.{LibName}
use Rattle.ec_ctypes.specs.trees.Types.{TyData, structure}
use Rattle.ec_ctypes.specs.trees.Exprs.{ExprList}
use Rattle.ec_language.specs.Letters.{Text, same_text}
use Rattle.ec_typing_defs.specs.Known.{KnownData, plain, formatted, known_function}
use Rattle.ec_typing_defs.specs.Operands.{OperandData, computed, unknown, object_operand, null_operand, integer_operand, given, typed, predefined, named_by, name_rule, value_rule, address_rule, found_or_types, target_rule, sign_rule, unary_rule, binary_rule, element_by, index_rule, assigned, assign_rule, compound_rule, bump_rule, arguments_rule, format_rule, known_rule, library_rule, undeclared_call, call_by, call_rule, member_by, member_in, member_rule, arrow_rule, scalar_cast, cast_to, cast_rule, size_rule, length_by, length_rule, elements_rule, within_rule, complete_rule}
use Rattle.ec_typing_defs.specs.Worlds.{Place, EntryData, object, function, Rule}
use Rattle.ec_typing_defs.specs.Types.{int_type}
use Rattle.ec_sim_world_laws.proofs.known_lemmas.NamesRules.{Staying, chained, asked, pure_stays, fault, demand_stays, keep_stays, chosen, decided, if_some}

pub given_stays : (t : Option TyData) {f : TyData → Rule OperandData} → ((s : TyData) → Staying (f s)) → Staying (given t f)
given_stays None k = pure_stays _
given_stays (Some t) k = k t

typed_stays : (at : Place) (t : Option TyData) → Staying (typed at t)
unfolding typed
typed_stays at (Some t) = pure_stays _
typed_stays at None = fault _ _ _

predefined_stays : (at : Place) (name : Text) → Staying (predefined at name)
predefined_stays at name =
    decided (same_text name (codes "sqlca")) (pure_stays (object_operand true (Some (structure 1))))
    (decided (same_text name (codes "NULL")) (pure_stays null_operand)
    (decided (same_text name (codes "true")) (pure_stays (integer_operand int_type (pos 1)))
    (decided (same_text name (codes "false")) (pure_stays (integer_operand int_type (pos 0)))
    (decided (is_some (known_function name)) (fault at F14 unknown) (fault at F11 unknown)))))

named_stays : (at : Place) (name : Text) (e : Option EntryData) → Staying (named_by at name e)
unfolding named_by
named_stays at name (Some (object k global t)) = pure_stays _
named_stays at name (Some (function k done r ps)) = fault _ _ _
named_stays at name None = predefined_stays at name

pub name_stays : (at : Place) (name : Text) → Staying (name_rule at name)
unfolding name_rule
name_stays at name = asked _ _ (λ known. named_stays at name _)

pub value_stays : (at : Place) (o : OperandData) → Staying (value_rule at o)
unfolding value_rule
value_stays at o = given_stays o.type (λ t. asked _ _ (λ known. chosen _ (fault _ _ _) (pure_stays _)))

pub address_stays : (at : Place) (o : OperandData) → Staying (address_rule at o)
unfolding address_rule
address_stays at o = given_stays o.type (λ t. chosen (o.is_place || o.is_target) (pure_stays _) (fault _ _ _))

or_types_stays : (at : Place) (o : Option OperandData) → Staying (found_or_types at o)
or_types_stays at (Some o) = pure_stays _
or_types_stays at None = fault _ _ _

target_stays : (at : Place) (o : OperandData) → Staying (target_rule at o)
unfolding target_rule
target_stays at o = given_stays o.type (λ t. or_types_stays at _)

sign_stays : (at : Place) (op : UnOp) (o : OperandData) → Staying (sign_rule at op o)
unfolding sign_rule
sign_stays at op o = given_stays o.type (λ t. chained (typed_stays at _) (λ a. pure_stays _))

pub unary_stays : (at : Place) (op : UnOp) (o : OperandData) → Staying (unary_rule at op o)
unary_stays at Deref o = target_stays at o
unary_stays at Addr o = sign_stays at Addr o
unary_stays at Plus o = sign_stays at Plus o
unary_stays at Minus o = sign_stays at Minus o
unary_stays at Not o = sign_stays at Not o
unary_stays at Flip o = sign_stays at Flip o

pub binary_stays : (at : Place) (op : BinOp) (a b : OperandData) → Staying (binary_rule at op a b)
unfolding binary_rule
binary_stays at op a b = given_stays a.type (λ s. given_stays b.type (λ t. asked _ _ (λ known. chained (typed_stays at _) (λ x. pure_stays _))))

element_stays : (at : Place) (t : Option TyData) → Staying (element_by at t)
element_stays at (Some t) = pure_stays _
element_stays at None = fault _ _ _

pub index_stays : (at : Place) (a b : OperandData) → Staying (index_rule at a b)
unfolding index_rule
index_stays at a b = given_stays a.type (λ s. given_stays b.type (λ t. asked _ _ (λ known. element_stays at _)))

assigned_stays : (at : Place) (allows : Bool) (s : TyData) → Staying (assigned at allows s)
assigned_stays at allows s = chosen _ (pure_stays _) (typed_stays at _)

pub assign_stays : (at : Place) (a b : OperandData) → Staying (assign_rule at a b)
unfolding assign_rule
assign_stays at a b = given_stays a.type (λ s. chained (demand_stays _ _ _) (λ x. given_stays b.type (λ t. assigned_stays at _ s)))

pub compound_stays : (at : Place) (op : BinOp) (a b : OperandData) → Staying (compound_rule at op a b)
unfolding compound_rule
compound_stays at op a b = given_stays a.type (λ s. chained (demand_stays _ _ _) (λ x. given_stays b.type (λ t. asked _ _ (λ known. assigned_stays at _ s))))

pub bump_stays : (at : Place) (o : OperandData) → Staying (bump_rule at o)
unfolding bump_rule
bump_stays at o = given_stays o.type (λ t. chained (demand_stays _ _ _) (λ x. asked _ _ (λ known. assigned_stays at _ t)))

arguments_stays : (at : Place) (ps : Option (List (Option TyData))) (os : List OperandData) → Staying (arguments_rule at ps os)
arguments_stays at None os = pure_stays _
arguments_stays at (Some ps) os = chained (demand_stays _ _ _) (λ x. demand_stays _ _ _)

format_stays : (at : Place) (n : ℕ) (name : Text) (es : ExprList) (os : List OperandData) → Staying (format_rule at n name es os)
format_stays at n name es os = chosen _ (chained (demand_stays _ _ _) (λ x. chained (demand_stays _ _ _) (λ y. pure_stays _))) (fault _ _ _)

known_stays : (at : Place) (name : Text) (es : ExprList) (os : List OperandData) (k : Option KnownData) → Staying (known_rule at name es os k)
known_stays at name es os None = fault _ _ _
known_stays at name es os (Some (plain r ps)) = chained (arguments_stays at (Some (map Some ps)) os) (λ x. pure_stays (computed (Some r)))
known_stays at name es os (Some (formatted n)) = format_stays at n name es os

library_stays : (at : Place) (call : LibName) (es : ExprList) (os : List OperandData) → Staying (library_rule at call es os)
library_stays at call es os = chosen _ (pure_stays _) (fault _ _ _)

undeclared_stays : (at : Place) (name : Text) (es : ExprList) (os : List OperandData) (call : Option LibName) → Staying (undeclared_call at name es os call)
undeclared_stays at name es os (Some call) = library_stays at call es os
undeclared_stays at name es os None = known_stays at name es os (known_function name)

call_by_stays : (at : Place) (name : Text) (es : ExprList) (os : List OperandData) (e : Option EntryData) → Staying (call_by at name es os e)
unfolding call_by
call_by_stays at name es os (Some (object k global t)) = fault _ _ _
call_by_stays at name es os (Some (function k done r ps)) = asked _ _ (λ known. chained (demand_stays _ _ _) (λ x. chained (arguments_stays at ps os) (λ y. pure_stays _)))
call_by_stays at name es os None = asked _ _ (λ known. undeclared_stays at name es os _)

pub call_stays : (at : Place) (name : Text) (es : ExprList) (os : List OperandData) → Staying (call_rule at name es os)
unfolding call_rule
call_stays at name es os = asked _ _ (λ known. call_by_stays at name es os _)

member_by_stays : (at : Place) (of_place : Bool) (t : Option (Option TyData)) → Staying (member_by at of_place t)
member_by_stays at of_place (Some t) = pure_stays _
member_by_stays at of_place None = fault _ _ _

member_in_stays : (at : Place) (of_place : Bool) (m : Text) (k : Option ℕ) → Staying (member_in at of_place m k)
member_in_stays at of_place m None = fault _ _ _
member_in_stays at of_place m (Some k) = asked _ _ (λ known. member_by_stays at of_place _)

pub member_stays : (at : Place) (o : OperandData) (m : Text) → Staying (member_rule at o m)
unfolding member_rule
member_stays at o m = given_stays o.type (λ t. member_in_stays at o.is_place m _)

pub arrow_stays : (at : Place) (o : OperandData) (m : Text) → Staying (arrow_rule at o m)
unfolding arrow_rule
arrow_stays at o m = given_stays o.type (λ t. member_in_stays at true m _)

scalar_stays : (at : Place) (s : TyData) (o : OperandData) → Staying (scalar_cast at s o)
unfolding scalar_cast
scalar_stays at s o = given_stays o.type (λ t. chained (typed_stays at _) (λ x. pure_stays _))

cast_to_stays : (at : Place) (o : OperandData) (s : TyData) → Staying (cast_to at o s)
cast_to_stays at o s = chosen _ (given_stays o.type (λ t. pure_stays _)) (chained (value_stays at o) (λ x. scalar_stays at s x))

pub cast_stays : (at : Place) (to : Option TyData) (o : OperandData) → Staying (cast_rule at to o)
unfolding cast_rule
cast_stays at to o = given_stays to (λ s. cast_to_stays at o s)

pub size_stays : (at : Place) (t : Option TyData) → Staying (size_rule at t)
unfolding size_rule
size_stays at t = given_stays t (λ s. asked _ _ (λ known. asked _ _ (λ more. chosen _ (pure_stays _) (fault _ _ _))))

length_by_stays : (at : Place) (n : Option ℕ) → Staying (length_by at n)
length_by_stays at None = fault _ _ _
length_by_stays at (Some n) = pure_stays _

pub length_stays : (at : Place) (o : OperandData) → Staying (length_rule at o)
unfolding length_rule
length_stays at o = if_some o.type (pure_stays _) (λ t. length_by_stays at _)

pub within_stays : (at : Place) (t : Option TyData) → Staying (within_rule at t)
unfolding within_rule
within_stays at None = pure_stays _
within_stays at (Some t) = asked _ _ (λ known. keep_stays _ _ _)

pub elements_stays : (at : Place) (t : Option TyData) (stars : ℕ) (ns : List (Option ℕ)) → Staying (elements_rule at t stars ns)
elements_stays at None stars ns = pure_stays _
elements_stays at (Some t) stars ns = asked _ _ (λ known. demand_stays _ _ _)

pub complete_stays : (at : Place) (t : Option TyData) → Staying (complete_rule at t)
unfolding complete_rule
complete_stays at None = pure_stays _
complete_stays at (Some t) = asked _ _ (λ known. chosen _ (pure_stays _) (fault _ _ _))
