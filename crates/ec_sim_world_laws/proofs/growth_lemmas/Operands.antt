-- What is known stays as it is by the rules of operands.
use Rattle.std.proofs.Common.{ℕ, Bool, true, ◌||◌, List, map, Option, Some, None}
use Rattle.std.specs.Prelude.{codes, pos, is_some}
use Rattle.ec_base.specs.declared.fault.FaultKind.TheVariants.{F11, F14}
use Rattle.ec_ctypes.specs.declared.tree.expr.BinOp.{BinOp}
use Rattle.ec_ctypes.specs.declared.tree.expr.UnOp.{UnOp}
use Rattle.ec_ctypes.specs.declared.tree.expr.UnOp.TheVariants.{Addr, Deref, Plus, Minus, Not, Flip}
use Rattle.ec_ctypes.specs.declared.checked.library.LibName.{LibName}
use Rattle.ec_ctypes.specs.trees.Types.{TyData, structure}
use Rattle.ec_ctypes.specs.trees.Exprs.{ExprList}
use Rattle.ec_language.specs.Letters.{Text, same_text}
use Rattle.ec_typing_defs.specs.Known.{KnownData, plain, formatted, known_function}
use Rattle.ec_typing_defs.specs.Operands.{OperandData, computed, unknown, object_operand, null_operand, integer_operand, given, typed, predefined, named_by, name_rule, value_rule, address_rule, found_or_types, target_rule, sign_rule, unary_rule, binary_rule, element_by, index_rule, assigned, assign_rule, compound_rule, bump_rule, arguments_rule, format_rule, known_rule, library_rule, undeclared_call, call_by, call_rule, member_by, member_in, member_rule, arrow_rule, scalar_cast, cast_to, cast_rule, size_rule, length_by, length_rule, elements_rule, within_rule, complete_rule}
use Rattle.ec_typing_defs.specs.Worlds.{Place, EntryData, object, function, Rule}
use Rattle.ec_typing_defs.specs.Types.{int_type}
use Rattle.ec_sim_world_laws.proofs.growth_lemmas.Rules.{Growing, chained, asked, pure_grows, fault, demand_grows, keep_grows, chosen, decided, if_some}

pub given_grows : (t : Option TyData) {f : TyData → Rule OperandData} → ((s : TyData) → Growing (f s)) → Growing (given t f)
given_grows None k = pure_grows _
given_grows (Some t) k = k t

typed_grows : (at : Place) (t : Option TyData) → Growing (typed at t)
unfolding typed
typed_grows at (Some t) = pure_grows _
typed_grows at None = fault _ _ _

predefined_grows : (at : Place) (name : Text) → Growing (predefined at name)
predefined_grows at name =
    decided (same_text name (codes "sqlca")) (pure_grows (object_operand true (Some (structure 1))))
    (decided (same_text name (codes "NULL")) (pure_grows null_operand)
    (decided (same_text name (codes "true")) (pure_grows (integer_operand int_type (pos 1)))
    (decided (same_text name (codes "false")) (pure_grows (integer_operand int_type (pos 0)))
    (decided (is_some (known_function name)) (fault at F14 unknown) (fault at F11 unknown)))))

named_grows : (at : Place) (name : Text) (e : Option EntryData) → Growing (named_by at name e)
unfolding named_by
named_grows at name (Some (object k global t)) = pure_grows _
named_grows at name (Some (function k done r ps)) = fault _ _ _
named_grows at name None = predefined_grows at name

pub name_grows : (at : Place) (name : Text) → Growing (name_rule at name)
unfolding name_rule
name_grows at name = asked _ _ (λ known. named_grows at name _)

pub value_grows : (at : Place) (o : OperandData) → Growing (value_rule at o)
unfolding value_rule
value_grows at o = given_grows o.type (λ t. asked _ _ (λ known. chosen _ (fault _ _ _) (pure_grows _)))

pub address_grows : (at : Place) (o : OperandData) → Growing (address_rule at o)
unfolding address_rule
address_grows at o = given_grows o.type (λ t. chosen (o.is_place || o.is_target) (pure_grows _) (fault _ _ _))

or_types_grows : (at : Place) (o : Option OperandData) → Growing (found_or_types at o)
or_types_grows at (Some o) = pure_grows _
or_types_grows at None = fault _ _ _

target_grows : (at : Place) (o : OperandData) → Growing (target_rule at o)
unfolding target_rule
target_grows at o = given_grows o.type (λ t. or_types_grows at _)

sign_grows : (at : Place) (op : UnOp) (o : OperandData) → Growing (sign_rule at op o)
unfolding sign_rule
sign_grows at op o = given_grows o.type (λ t. chained (typed_grows at _) (λ a. pure_grows _))

pub unary_grows : (at : Place) (op : UnOp) (o : OperandData) → Growing (unary_rule at op o)
unary_grows at Deref o = target_grows at o
unary_grows at Addr o = sign_grows at Addr o
unary_grows at Plus o = sign_grows at Plus o
unary_grows at Minus o = sign_grows at Minus o
unary_grows at Not o = sign_grows at Not o
unary_grows at Flip o = sign_grows at Flip o

pub binary_grows : (at : Place) (op : BinOp) (a b : OperandData) → Growing (binary_rule at op a b)
unfolding binary_rule
binary_grows at op a b = given_grows a.type (λ s. given_grows b.type (λ t. asked _ _ (λ known. chained (typed_grows at _) (λ x. pure_grows _))))

element_grows : (at : Place) (t : Option TyData) → Growing (element_by at t)
element_grows at (Some t) = pure_grows _
element_grows at None = fault _ _ _

pub index_grows : (at : Place) (a b : OperandData) → Growing (index_rule at a b)
unfolding index_rule
index_grows at a b = given_grows a.type (λ s. given_grows b.type (λ t. asked _ _ (λ known. element_grows at _)))

assigned_grows : (at : Place) (allows : Bool) (s : TyData) → Growing (assigned at allows s)
assigned_grows at allows s = chosen _ (pure_grows _) (typed_grows at _)

pub assign_grows : (at : Place) (a b : OperandData) → Growing (assign_rule at a b)
unfolding assign_rule
assign_grows at a b = given_grows a.type (λ s. chained (demand_grows _ _ _) (λ x. given_grows b.type (λ t. assigned_grows at _ s)))

pub compound_grows : (at : Place) (op : BinOp) (a b : OperandData) → Growing (compound_rule at op a b)
unfolding compound_rule
compound_grows at op a b = given_grows a.type (λ s. chained (demand_grows _ _ _) (λ x. given_grows b.type (λ t. asked _ _ (λ known. assigned_grows at _ s))))

pub bump_grows : (at : Place) (o : OperandData) → Growing (bump_rule at o)
unfolding bump_rule
bump_grows at o = given_grows o.type (λ t. chained (demand_grows _ _ _) (λ x. asked _ _ (λ known. assigned_grows at _ t)))

arguments_grows : (at : Place) (ps : Option (List (Option TyData))) (os : List OperandData) → Growing (arguments_rule at ps os)
arguments_grows at None os = pure_grows _
arguments_grows at (Some ps) os = chained (demand_grows _ _ _) (λ x. demand_grows _ _ _)

format_grows : (at : Place) (n : ℕ) (name : Text) (es : ExprList) (os : List OperandData) → Growing (format_rule at n name es os)
format_grows at n name es os = chosen _ (chained (demand_grows _ _ _) (λ x. chained (demand_grows _ _ _) (λ y. pure_grows _))) (fault _ _ _)

known_grows : (at : Place) (name : Text) (es : ExprList) (os : List OperandData) (k : Option KnownData) → Growing (known_rule at name es os k)
known_grows at name es os None = fault _ _ _
known_grows at name es os (Some (plain r ps)) = chained (arguments_grows at (Some (map Some ps)) os) (λ x. pure_grows (computed (Some r)))
known_grows at name es os (Some (formatted n)) = format_grows at n name es os

library_grows : (at : Place) (call : LibName) (es : ExprList) (os : List OperandData) → Growing (library_rule at call es os)
library_grows at call es os = chosen _ (pure_grows _) (fault _ _ _)

undeclared_grows : (at : Place) (name : Text) (es : ExprList) (os : List OperandData) (call : Option LibName) → Growing (undeclared_call at name es os call)
undeclared_grows at name es os (Some call) = library_grows at call es os
undeclared_grows at name es os None = known_grows at name es os (known_function name)

call_by_grows : (at : Place) (name : Text) (es : ExprList) (os : List OperandData) (e : Option EntryData) → Growing (call_by at name es os e)
unfolding call_by
call_by_grows at name es os (Some (object k global t)) = fault _ _ _
call_by_grows at name es os (Some (function k done r ps)) = asked _ _ (λ known. chained (demand_grows _ _ _) (λ x. chained (arguments_grows at ps os) (λ y. pure_grows _)))
call_by_grows at name es os None = asked _ _ (λ known. undeclared_grows at name es os _)

pub call_grows : (at : Place) (name : Text) (es : ExprList) (os : List OperandData) → Growing (call_rule at name es os)
unfolding call_rule
call_grows at name es os = asked _ _ (λ known. call_by_grows at name es os _)

member_by_grows : (at : Place) (of_place : Bool) (t : Option (Option TyData)) → Growing (member_by at of_place t)
member_by_grows at of_place (Some t) = pure_grows _
member_by_grows at of_place None = fault _ _ _

member_in_grows : (at : Place) (of_place : Bool) (m : Text) (k : Option ℕ) → Growing (member_in at of_place m k)
member_in_grows at of_place m None = fault _ _ _
member_in_grows at of_place m (Some k) = asked _ _ (λ known. member_by_grows at of_place _)

pub member_grows : (at : Place) (o : OperandData) (m : Text) → Growing (member_rule at o m)
unfolding member_rule
member_grows at o m = given_grows o.type (λ t. member_in_grows at o.is_place m _)

pub arrow_grows : (at : Place) (o : OperandData) (m : Text) → Growing (arrow_rule at o m)
unfolding arrow_rule
arrow_grows at o m = given_grows o.type (λ t. member_in_grows at true m _)

scalar_grows : (at : Place) (s : TyData) (o : OperandData) → Growing (scalar_cast at s o)
unfolding scalar_cast
scalar_grows at s o = given_grows o.type (λ t. chained (typed_grows at _) (λ x. pure_grows _))

cast_to_grows : (at : Place) (o : OperandData) (s : TyData) → Growing (cast_to at o s)
cast_to_grows at o s = chosen _ (given_grows o.type (λ t. pure_grows _)) (chained (value_grows at o) (λ x. scalar_grows at s x))

pub cast_grows : (at : Place) (to : Option TyData) (o : OperandData) → Growing (cast_rule at to o)
unfolding cast_rule
cast_grows at to o = given_grows to (λ s. cast_to_grows at o s)

pub size_grows : (at : Place) (t : Option TyData) → Growing (size_rule at t)
unfolding size_rule
size_grows at t = given_grows t (λ s. asked _ _ (λ known. asked _ _ (λ more. chosen _ (pure_grows _) (fault _ _ _))))

length_by_grows : (at : Place) (n : Option ℕ) → Growing (length_by at n)
length_by_grows at None = fault _ _ _
length_by_grows at (Some n) = pure_grows _

pub length_grows : (at : Place) (o : OperandData) → Growing (length_rule at o)
unfolding length_rule
length_grows at o = if_some o.type (pure_grows _) (λ t. length_by_grows at _)

pub within_grows : (at : Place) (t : Option TyData) → Growing (within_rule at t)
unfolding within_rule
within_grows at None = pure_grows _
within_grows at (Some t) = asked _ _ (λ known. keep_grows _ _ _)

pub elements_grows : (at : Place) (t : Option TyData) (stars : ℕ) (ns : List (Option ℕ)) → Growing (elements_rule at t stars ns)
elements_grows at None stars ns = pure_grows _
elements_grows at (Some t) stars ns = asked _ _ (λ known. demand_grows _ _ _)

pub complete_grows : (at : Place) (t : Option TyData) → Growing (complete_rule at t)
unfolding complete_rule
complete_grows at None = pure_grows _
complete_grows at (Some t) = asked _ _ (λ known. chosen _ (pure_grows _) (fault _ _ _))
