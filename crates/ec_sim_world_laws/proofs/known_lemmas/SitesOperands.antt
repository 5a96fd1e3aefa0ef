-- The rules of operands leave what is known as it is.
use Rattle.std.proofs.Common.{ℕ, Bool, true, ◌||◌, List, map, Option, Some, None}
use Rattle.std.specs.Prelude.{codes, pos, is_some}
use Rattle.ec_base.specs.declared.fault.FaultKind.TheVariants.{F11, F14}
use Rattle.ec_ctypes.specs.declared.tree.expr.BinOp.{BinOp}
use Rattle.ec_ctypes.specs.declared.tree.expr.UnOp.{UnOp}
use Rattle.ec_ctypes.specs.declared.tree.expr.UnOp.TheVariants.{Addr, Deref, Plus, Minus, Not, Flip}
use Rattle.ec_ctypes.specs.declared.checked.library.LibName.{LibName}
use Rattle.ec_ctypes.specs.trees.Types.{TyData, structure}
use Rattle.ec_ctypes.specs.trees.Exprs.{ExprList}
use Rattle.ec_language.specs.Letters.{Text, same_text}
use Rattle.ec_typing_defs.specs.Known.{KnownData, plain, formatted, known_function}
use Rattle.ec_typing_defs.specs.Operands.{OperandData, computed, unknown, object_operand, null_operand, integer_operand, given, typed, predefined, named_by, name_rule, value_rule, address_rule, found_or_types, target_rule, sign_rule, unary_rule, binary_rule, element_by, index_rule, assigned, assign_rule, compound_rule, bump_rule, arguments_rule, format_rule, known_rule, library_rule, undeclared_call, call_by, call_rule, member_by, member_in, member_rule, arrow_rule, scalar_cast, cast_to, cast_rule, size_rule, length_by, length_rule, elements_rule, within_rule, complete_rule}
use Rattle.ec_typing_defs.specs.Worlds.{Place, EntryData, object, function, Rule}
use Rattle.ec_typing_defs.specs.Types.{int_type}
use Rattle.ec_sim_world_laws.proofs.known_lemmas.SitesIdle.{Idle, chained, asked, pure_idle, fault, demand_idle, keep_idle, chosen, decided, if_some}

pub given_idle : (t : Option TyData) {f : TyData → Rule OperandData} → ((s : TyData) → Idle (f s)) → Idle (given t f)
given_idle None k = pure_idle _
given_idle (Some t) k = k t

typed_idle : (at : Place) (t : Option TyData) → Idle (typed at t)
unfolding typed
typed_idle at (Some t) = pure_idle _
typed_idle at None = fault _ _ _

predefined_idle : (at : Place) (name : Text) → Idle (predefined at name)
predefined_idle at name =
    decided (same_text name (codes "sqlca")) (pure_idle (object_operand true (Some (structure 1))))
    (decided (same_text name (codes "NULL")) (pure_idle null_operand)
    (decided (same_text name (codes "true")) (pure_idle (integer_operand int_type (pos 1)))
    (decided (same_text name (codes "false")) (pure_idle (integer_operand int_type (pos 0)))
    (decided (is_some (known_function name)) (fault at F14 unknown) (fault at F11 unknown)))))

named_idle : (at : Place) (name : Text) (e : Option EntryData) → Idle (named_by at name e)
unfolding named_by
named_idle at name (Some (object k global t)) = pure_idle _
named_idle at name (Some (function k done r ps)) = fault _ _ _
named_idle at name None = predefined_idle at name

pub name_idle : (at : Place) (name : Text) → Idle (name_rule at name)
unfolding name_rule
name_idle at name = asked _ _ (λ known. named_idle at name _)

pub value_idle : (at : Place) (o : OperandData) → Idle (value_rule at o)
unfolding value_rule
value_idle at o = given_idle o.type (λ t. asked _ _ (λ known. chosen _ (fault _ _ _) (pure_idle _)))

pub address_idle : (at : Place) (o : OperandData) → Idle (address_rule at o)
unfolding address_rule
address_idle at o = given_idle o.type (λ t. chosen (o.is_place || o.is_target) (pure_idle _) (fault _ _ _))

or_types_idle : (at : Place) (o : Option OperandData) → Idle (found_or_types at o)
or_types_idle at (Some o) = pure_idle _
or_types_idle at None = fault _ _ _

target_idle : (at : Place) (o : OperandData) → Idle (target_rule at o)
unfolding target_rule
target_idle at o = given_idle o.type (λ t. or_types_idle at _)

sign_idle : (at : Place) (op : UnOp) (o : OperandData) → Idle (sign_rule at op o)
unfolding sign_rule
sign_idle at op o = given_idle o.type (λ t. chained (typed_idle at _) (λ a. pure_idle _))

pub unary_idle : (at : Place) (op : UnOp) (o : OperandData) → Idle (unary_rule at op o)
unary_idle at Deref o = target_idle at o
unary_idle at Addr o = sign_idle at Addr o
unary_idle at Plus o = sign_idle at Plus o
unary_idle at Minus o = sign_idle at Minus o
unary_idle at Not o = sign_idle at Not o
unary_idle at Flip o = sign_idle at Flip o

pub binary_idle : (at : Place) (op : BinOp) (a b : OperandData) → Idle (binary_rule at op a b)
unfolding binary_rule
binary_idle at op a b = given_idle a.type (λ s. given_idle b.type (λ t. asked _ _ (λ known. chained (typed_idle at _) (λ x. pure_idle _))))

element_idle : (at : Place) (t : Option TyData) → Idle (element_by at t)
element_idle at (Some t) = pure_idle _
element_idle at None = fault _ _ _

pub index_idle : (at : Place) (a b : OperandData) → Idle (index_rule at a b)
unfolding index_rule
index_idle at a b = given_idle a.type (λ s. given_idle b.type (λ t. asked _ _ (λ known. element_idle at _)))

assigned_idle : (at : Place) (allows : Bool) (s : TyData) → Idle (assigned at allows s)
assigned_idle at allows s = chosen _ (pure_idle _) (typed_idle at _)

pub assign_idle : (at : Place) (a b : OperandData) → Idle (assign_rule at a b)
unfolding assign_rule
assign_idle at a b = given_idle a.type (λ s. chained (demand_idle _ _ _) (λ x. given_idle b.type (λ t. assigned_idle at _ s)))

pub compound_idle : (at : Place) (op : BinOp) (a b : OperandData) → Idle (compound_rule at op a b)
unfolding compound_rule
compound_idle at op a b = given_idle a.type (λ s. chained (demand_idle _ _ _) (λ x. given_idle b.type (λ t. asked _ _ (λ known. assigned_idle at _ s))))

pub bump_idle : (at : Place) (o : OperandData) → Idle (bump_rule at o)
unfolding bump_rule
bump_idle at o = given_idle o.type (λ t. chained (demand_idle _ _ _) (λ x. asked _ _ (λ known. assigned_idle at _ t)))

arguments_idle : (at : Place) (ps : Option (List (Option TyData))) (os : List OperandData) → Idle (arguments_rule at ps os)
arguments_idle at None os = pure_idle _
arguments_idle at (Some ps) os = chained (demand_idle _ _ _) (λ x. demand_idle _ _ _)

format_idle : (at : Place) (n : ℕ) (name : Text) (es : ExprList) (os : List OperandData) → Idle (format_rule at n name es os)
format_idle at n name es os = chosen _ (chained (demand_idle _ _ _) (λ x. chained (demand_idle _ _ _) (λ y. pure_idle _))) (fault _ _ _)

known_idle : (at : Place) (name : Text) (es : ExprList) (os : List OperandData) (k : Option KnownData) → Idle (known_rule at name es os k)
known_idle at name es os None = fault _ _ _
known_idle at name es os (Some (plain r ps)) = chained (arguments_idle at (Some (map Some ps)) os) (λ x. pure_idle (computed (Some r)))
known_idle at name es os (Some (formatted n)) = format_idle at n name es os

library_idle : (at : Place) (call : LibName) (es : ExprList) (os : List OperandData) → Idle (library_rule at call es os)
library_idle at call es os = chosen _ (pure_idle _) (fault _ _ _)

undeclared_idle : (at : Place) (name : Text) (es : ExprList) (os : List OperandData) (call : Option LibName) → Idle (undeclared_call at name es os call)
undeclared_idle at name es os (Some call) = library_idle at call es os
undeclared_idle at name es os None = known_idle at name es os (known_function name)

call_by_idle : (at : Place) (name : Text) (es : ExprList) (os : List OperandData) (e : Option EntryData) → Idle (call_by at name es os e)
unfolding call_by
call_by_idle at name es os (Some (object k global t)) = fault _ _ _
call_by_idle at name es os (Some (function k done r ps)) = asked _ _ (λ known. chained (demand_idle _ _ _) (λ x. chained (arguments_idle at ps os) (λ y. pure_idle _)))
call_by_idle at name es os None = asked _ _ (λ known. undeclared_idle at name es os _)

pub call_idle : (at : Place) (name : Text) (es : ExprList) (os : List OperandData) → Idle (call_rule at name es os)
unfolding call_rule
call_idle at name es os = asked _ _ (λ known. call_by_idle at name es os _)

member_by_idle : (at : Place) (of_place : Bool) (t : Option (Option TyData)) → Idle (member_by at of_place t)
member_by_idle at of_place (Some t) = pure_idle _
member_by_idle at of_place None = fault _ _ _

member_in_idle : (at : Place) (of_place : Bool) (m : Text) (k : Option ℕ) → Idle (member_in at of_place m k)
member_in_idle at of_place m None = fault _ _ _
member_in_idle at of_place m (Some k) = asked _ _ (λ known. member_by_idle at of_place _)

pub member_idle : (at : Place) (o : OperandData) (m : Text) → Idle (member_rule at o m)
unfolding member_rule
member_idle at o m = given_idle o.type (λ t. member_in_idle at o.is_place m _)

pub arrow_idle : (at : Place) (o : OperandData) (m : Text) → Idle (arrow_rule at o m)
unfolding arrow_rule
arrow_idle at o m = given_idle o.type (λ t. member_in_idle at true m _)

scalar_idle : (at : Place) (s : TyData) (o : OperandData) → Idle (scalar_cast at s o)
unfolding scalar_cast
scalar_idle at s o = given_idle o.type (λ t. chained (typed_idle at _) (λ x. pure_idle _))

cast_to_idle : (at : Place) (o : OperandData) (s : TyData) → Idle (cast_to at o s)
cast_to_idle at o s = chosen _ (given_idle o.type (λ t. pure_idle _)) (chained (value_idle at o) (λ x. scalar_idle at s x))

pub cast_idle : (at : Place) (to : Option TyData) (o : OperandData) → Idle (cast_rule at to o)
unfolding cast_rule
cast_idle at to o = given_idle to (λ s. cast_to_idle at o s)

pub size_idle : (at : Place) (t : Option TyData) → Idle (size_rule at t)
unfolding size_rule
size_idle at t = given_idle t (λ s. asked _ _ (λ known. asked _ _ (λ more. chosen _ (pure_idle _) (fault _ _ _))))

length_by_idle : (at : Place) (n : Option ℕ) → Idle (length_by at n)
length_by_idle at None = fault _ _ _
length_by_idle at (Some n) = pure_idle _

pub length_idle : (at : Place) (o : OperandData) → Idle (length_rule at o)
unfolding length_rule
length_idle at o = if_some o.type (pure_idle _) (λ t. length_by_idle at _)

pub within_idle : (at : Place) (t : Option TyData) → Idle (within_rule at t)
unfolding within_rule
within_idle at None = pure_idle _
within_idle at (Some t) = asked _ _ (λ known. keep_idle _ _ _)

pub elements_idle : (at : Place) (t : Option TyData) (stars : ℕ) (ns : List (Option ℕ)) → Idle (elements_rule at t stars ns)
elements_idle at None stars ns = pure_idle _
elements_idle at (Some t) stars ns = asked _ _ (λ known. demand_idle _ _ _)

pub complete_idle : (at : Place) (t : Option TyData) → Idle (complete_rule at t)
unfolding complete_rule
complete_idle at None = pure_idle _
complete_idle at (Some t) = asked _ _ (λ known. chosen _ (pure_idle _) (fault _ _ _))
