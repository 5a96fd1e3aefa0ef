-- Tables stay as they are to be by the rules of operands.
use Rattle.std.proofs.Common.{ℕ, Bool, true, ◌||◌, List, map, Option, Some, None}
use Rattle.std.specs.Prelude.{codes, pos, is_some}
use Rattle.ec_base.specs.declared.fault.FaultKind.TheVariants.{F11, F14}
use Rattle.ec_ctypes.specs.declared.tree.expr.BinOp.{BinOp}
use Rattle.ec_ctypes.specs.declared.tree.expr.UnOp.{UnOp}
use Rattle.ec_ctypes.specs.declared.tree.expr.UnOp.TheVariants.{Addr, Deref, Plus, Minus, Not, Flip}
use Rattle.ec_ctypes.specs.declared.checked.library.LibName.{LibName}
use Rattle.ec_ctypes.specs.trees.Types.{TyData, structure}
use Rattle.ec_ctypes.specs.trees.Exprs.{ExprList}
use Rattle.ec_language.specs.Letters.{Text, same_text}
use Rattle.ec_typing_defs.specs.Known.{KnownData, plain, formatted, known_function}
use Rattle.ec_typing_defs.specs.Operands.{OperandData, computed, unknown, object_operand, null_operand, integer_operand, given, typed, predefined, named_by, name_rule, value_rule, address_rule, found_or_types, target_rule, sign_rule, unary_rule, binary_rule, element_by, index_rule, assigned, assign_rule, compound_rule, bump_rule, arguments_rule, format_rule, known_rule, library_rule, undeclared_call, call_by, call_rule, member_by, member_in, member_rule, arrow_rule, scalar_cast, cast_to, cast_rule, size_rule, length_by, length_rule, elements_rule, within_rule, complete_rule}
use Rattle.ec_typing_defs.specs.Worlds.{Place, EntryData, object, function, Rule}
use Rattle.ec_typing_defs.specs.Types.{int_type}
use Rattle.ec_sim_host_laws.proofs.table_lemmas.Rules.{Keeping, chained, asked, pure_keeps, fault, demand_keeps, keep_keeps, chosen, decided, if_some}

pub given_keeps : {quiet : Bool} (t : Option TyData) {f : TyData → Rule OperandData} → ((s : TyData) → Keeping quiet (f s)) → Keeping quiet (given t f)
given_keeps None k = pure_keeps _
given_keeps (Some t) k = k t

typed_keeps : {quiet : Bool} (at : Place) (t : Option TyData) → Keeping quiet (typed at t)
unfolding typed
typed_keeps at (Some t) = pure_keeps _
typed_keeps at None = fault _ _ _

predefined_keeps : {quiet : Bool} (at : Place) (name : Text) → Keeping quiet (predefined at name)
predefined_keeps at name =
    decided (same_text name (codes "sqlca")) (pure_keeps (object_operand true (Some (structure 1))))
    (decided (same_text name (codes "NULL")) (pure_keeps null_operand)
    (decided (same_text name (codes "true")) (pure_keeps (integer_operand int_type (pos 1)))
    (decided (same_text name (codes "false")) (pure_keeps (integer_operand int_type (pos 0)))
    (decided (is_some (known_function name)) (fault at F14 unknown) (fault at F11 unknown)))))

named_keeps : {quiet : Bool} (at : Place) (name : Text) (e : Option EntryData) → Keeping quiet (named_by at name e)
unfolding named_by
named_keeps at name (Some (object k global t)) = pure_keeps _
named_keeps at name (Some (function k done r ps)) = fault _ _ _
named_keeps at name None = predefined_keeps at name

pub name_keeps : {quiet : Bool} (at : Place) (name : Text) → Keeping quiet (name_rule at name)
unfolding name_rule
name_keeps at name = asked _ _ (λ known. named_keeps at name _)

pub value_keeps : {quiet : Bool} (at : Place) (o : OperandData) → Keeping quiet (value_rule at o)
unfolding value_rule
value_keeps at o = given_keeps o.type (λ t. asked _ _ (λ known. chosen _ (fault _ _ _) (pure_keeps _)))

pub address_keeps : {quiet : Bool} (at : Place) (o : OperandData) → Keeping quiet (address_rule at o)
unfolding address_rule
address_keeps at o = given_keeps o.type (λ t. chosen (o.is_place || o.is_target) (pure_keeps _) (fault _ _ _))

or_types_keeps : {quiet : Bool} (at : Place) (o : Option OperandData) → Keeping quiet (found_or_types at o)
or_types_keeps at (Some o) = pure_keeps _
or_types_keeps at None = fault _ _ _

target_keeps : {quiet : Bool} (at : Place) (o : OperandData) → Keeping quiet (target_rule at o)
unfolding target_rule
target_keeps at o = given_keeps o.type (λ t. or_types_keeps at _)

sign_keeps : {quiet : Bool} (at : Place) (op : UnOp) (o : OperandData) → Keeping quiet (sign_rule at op o)
unfolding sign_rule
sign_keeps at op o = given_keeps o.type (λ t. chained (typed_keeps at _) (λ a. pure_keeps _))

pub unary_keeps : {quiet : Bool} (at : Place) (op : UnOp) (o : OperandData) → Keeping quiet (unary_rule at op o)
unary_keeps at Deref o = target_keeps at o
unary_keeps at Addr o = sign_keeps at Addr o
unary_keeps at Plus o = sign_keeps at Plus o
unary_keeps at Minus o = sign_keeps at Minus o
unary_keeps at Not o = sign_keeps at Not o
unary_keeps at Flip o = sign_keeps at Flip o

pub binary_keeps : {quiet : Bool} (at : Place) (op : BinOp) (a b : OperandData) → Keeping quiet (binary_rule at op a b)
unfolding binary_rule
binary_keeps at op a b = given_keeps a.type (λ s. given_keeps b.type (λ t. asked _ _ (λ known. chained (typed_keeps at _) (λ x. pure_keeps _))))

element_keeps : {quiet : Bool} (at : Place) (t : Option TyData) → Keeping quiet (element_by at t)
element_keeps at (Some t) = pure_keeps _
element_keeps at None = fault _ _ _

pub index_keeps : {quiet : Bool} (at : Place) (a b : OperandData) → Keeping quiet (index_rule at a b)
unfolding index_rule
index_keeps at a b = given_keeps a.type (λ s. given_keeps b.type (λ t. asked _ _ (λ known. element_keeps at _)))

assigned_keeps : {quiet : Bool} (at : Place) (allows : Bool) (s : TyData) → Keeping quiet (assigned at allows s)
assigned_keeps at allows s = chosen _ (pure_keeps _) (typed_keeps at _)

pub assign_keeps : {quiet : Bool} (at : Place) (a b : OperandData) → Keeping quiet (assign_rule at a b)
unfolding assign_rule
assign_keeps at a b = given_keeps a.type (λ s. chained (demand_keeps _ _ _) (λ x. given_keeps b.type (λ t. assigned_keeps at _ s)))

pub compound_keeps : {quiet : Bool} (at : Place) (op : BinOp) (a b : OperandData) → Keeping quiet (compound_rule at op a b)
unfolding compound_rule
compound_keeps at op a b = given_keeps a.type (λ s. chained (demand_keeps _ _ _) (λ x. given_keeps b.type (λ t. asked _ _ (λ known. assigned_keeps at _ s))))

pub bump_keeps : {quiet : Bool} (at : Place) (o : OperandData) → Keeping quiet (bump_rule at o)
unfolding bump_rule
bump_keeps at o = given_keeps o.type (λ t. chained (demand_keeps _ _ _) (λ x. asked _ _ (λ known. assigned_keeps at _ t)))

arguments_keeps : {quiet : Bool} (at : Place) (ps : Option (List (Option TyData))) (os : List OperandData) → Keeping quiet (arguments_rule at ps os)
arguments_keeps at None os = pure_keeps _
arguments_keeps at (Some ps) os = chained (demand_keeps _ _ _) (λ x. demand_keeps _ _ _)

format_keeps : {quiet : Bool} (at : Place) (n : ℕ) (name : Text) (es : ExprList) (os : List OperandData) → Keeping quiet (format_rule at n name es os)
format_keeps at n name es os = chosen _ (chained (demand_keeps _ _ _) (λ x. chained (demand_keeps _ _ _) (λ y. pure_keeps _))) (fault _ _ _)

known_keeps : {quiet : Bool} (at : Place) (name : Text) (es : ExprList) (os : List OperandData) (k : Option KnownData) → Keeping quiet (known_rule at name es os k)
known_keeps at name es os None = fault _ _ _
known_keeps at name es os (Some (plain r ps)) = chained (arguments_keeps at (Some (map Some ps)) os) (λ x. pure_keeps (computed (Some r)))
known_keeps at name es os (Some (formatted n)) = format_keeps at n name es os

library_keeps : {quiet : Bool} (at : Place) (call : LibName) (es : ExprList) (os : List OperandData) → Keeping quiet (library_rule at call es os)
library_keeps at call es os = chosen _ (pure_keeps _) (fault _ _ _)

undeclared_keeps : {quiet : Bool} (at : Place) (name : Text) (es : ExprList) (os : List OperandData) (call : Option LibName) → Keeping quiet (undeclared_call at name es os call)
undeclared_keeps at name es os (Some call) = library_keeps at call es os
undeclared_keeps at name es os None = known_keeps at name es os (known_function name)

call_by_keeps : {quiet : Bool} (at : Place) (name : Text) (es : ExprList) (os : List OperandData) (e : Option EntryData) → Keeping quiet (call_by at name es os e)
unfolding call_by
call_by_keeps at name es os (Some (object k global t)) = fault _ _ _
call_by_keeps at name es os (Some (function k done r ps)) = asked _ _ (λ known. chained (demand_keeps _ _ _) (λ x. chained (arguments_keeps at ps os) (λ y. pure_keeps _)))
call_by_keeps at name es os None = asked _ _ (λ known. undeclared_keeps at name es os _)

pub call_keeps : {quiet : Bool} (at : Place) (name : Text) (es : ExprList) (os : List OperandData) → Keeping quiet (call_rule at name es os)
unfolding call_rule
call_keeps at name es os = asked _ _ (λ known. call_by_keeps at name es os _)

member_by_keeps : {quiet : Bool} (at : Place) (of_place : Bool) (t : Option (Option TyData)) → Keeping quiet (member_by at of_place t)
member_by_keeps at of_place (Some t) = pure_keeps _
member_by_keeps at of_place None = fault _ _ _

member_in_keeps : {quiet : Bool} (at : Place) (of_place : Bool) (m : Text) (k : Option ℕ) → Keeping quiet (member_in at of_place m k)
member_in_keeps at of_place m None = fault _ _ _
member_in_keeps at of_place m (Some k) = asked _ _ (λ known. member_by_keeps at of_place _)

pub member_keeps : {quiet : Bool} (at : Place) (o : OperandData) (m : Text) → Keeping quiet (member_rule at o m)
unfolding member_rule
member_keeps at o m = given_keeps o.type (λ t. member_in_keeps at o.is_place m _)

pub arrow_keeps : {quiet : Bool} (at : Place) (o : OperandData) (m : Text) → Keeping quiet (arrow_rule at o m)
unfolding arrow_rule
arrow_keeps at o m = given_keeps o.type (λ t. member_in_keeps at true m _)

scalar_keeps : {quiet : Bool} (at : Place) (s : TyData) (o : OperandData) → Keeping quiet (scalar_cast at s o)
unfolding scalar_cast
scalar_keeps at s o = given_keeps o.type (λ t. chained (typed_keeps at _) (λ x. pure_keeps _))

cast_to_keeps : {quiet : Bool} (at : Place) (o : OperandData) (s : TyData) → Keeping quiet (cast_to at o s)
cast_to_keeps at o s = chosen _ (given_keeps o.type (λ t. pure_keeps _)) (chained (value_keeps at o) (λ x. scalar_keeps at s x))

pub cast_keeps : {quiet : Bool} (at : Place) (to : Option TyData) (o : OperandData) → Keeping quiet (cast_rule at to o)
unfolding cast_rule
cast_keeps at to o = given_keeps to (λ s. cast_to_keeps at o s)

pub size_keeps : {quiet : Bool} (at : Place) (t : Option TyData) → Keeping quiet (size_rule at t)
unfolding size_rule
size_keeps at t = given_keeps t (λ s. asked _ _ (λ known. asked _ _ (λ more. chosen _ (pure_keeps _) (fault _ _ _))))

length_by_keeps : {quiet : Bool} (at : Place) (n : Option ℕ) → Keeping quiet (length_by at n)
length_by_keeps at None = fault _ _ _
length_by_keeps at (Some n) = pure_keeps _

pub length_keeps : {quiet : Bool} (at : Place) (o : OperandData) → Keeping quiet (length_rule at o)
unfolding length_rule
length_keeps at o = if_some o.type (pure_keeps _) (λ t. length_by_keeps at _)

pub within_keeps : {quiet : Bool} (at : Place) (t : Option TyData) → Keeping quiet (within_rule at t)
unfolding within_rule
within_keeps at None = pure_keeps _
within_keeps at (Some t) = asked _ _ (λ known. keep_keeps _ _ _)

pub elements_keeps : {quiet : Bool} (at : Place) (t : Option TyData) (stars : ℕ) (ns : List (Option ℕ)) → Keeping quiet (elements_rule at t stars ns)
elements_keeps at None stars ns = pure_keeps _
elements_keeps at (Some t) stars ns = asked _ _ (λ known. demand_keeps _ _ _)

pub complete_keeps : {quiet : Bool} (at : Place) (t : Option TyData) → Keeping quiet (complete_rule at t)
unfolding complete_rule
complete_keeps at None = pure_keeps _
complete_keeps at (Some t) = asked _ _ (λ known. chosen _ (pure_keeps _) (fault _ _ _))
