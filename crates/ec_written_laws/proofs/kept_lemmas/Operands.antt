-- The rules of operands know of no tags.
use Rattle.std.proofs.Common.{ℕ, Bool, true, ◌||◌, List, map, Option, Some, None}
use Rattle.std.specs.Prelude.{codes, pos, is_some}
use Rattle.ec_base.specs.declared.fault.FaultKind.TheVariants.{F11, F14}
use Rattle.ec_ctypes.specs.declared.tree.expr.BinOp.{BinOp}
use Rattle.ec_ctypes.specs.declared.tree.expr.UnOp.{UnOp}
use Rattle.ec_ctypes.specs.declared.tree.expr.UnOp.TheVariants.{Addr, Deref, Plus, Minus, Not, Flip}
use Rattle.ec_ctypes.specs.declared.checked.library.LibName.{LibName}
use Rattle.ec_ctypes.specs.trees.Types.{TyData, structure}
use Rattle.ec_ctypes.specs.trees.Exprs.{ExprList}
use Rattle.ec_language.specs.Letters.{Text, same_text}
use Rattle.ec_typing_defs.specs.Known.{KnownData, plain, formatted, known_function}
use Rattle.ec_typing_defs.specs.Operands.{OperandData, computed, unknown, object_operand, null_operand, integer_operand, given, typed, predefined, named_by, name_rule, value_rule, address_rule, found_or_types, target_rule, sign_rule, unary_rule, binary_rule, element_by, index_rule, assigned, assign_rule, compound_rule, bump_rule, arguments_rule, format_rule, known_rule, library_rule, undeclared_call, call_by, call_rule, member_by, member_in, member_rule, arrow_rule, scalar_cast, cast_to, cast_rule, size_rule, length_by, length_rule, elements_rule, within_rule, complete_rule}
use Rattle.ec_typing_defs.specs.Worlds.{Place, EntryData, object, function, Rule, pure}
use Rattle.ec_typing_defs.specs.Types.{int_type}
use Rattle.ec_written_laws.proofs.kept_lemmas.Rules.{Quiet, chained, asked, pure_holds, fault, demand_quiet, keep_quiet, chosen, decided, if_some}

pub given_quiet : (t : Option TyData) {f : TyData → Rule OperandData} → ((s : TyData) → Quiet (f s)) → Quiet (given t f)
given_quiet None k = pure_holds _ tt
given_quiet (Some t) k = k t

typed_quiet : (at : Place) (t : Option TyData) → Quiet (typed at t)
unfolding typed
typed_quiet at (Some t) = pure_holds _ tt
typed_quiet at None = (fault _ _ _)

predefined_quiet : (at : Place) (name : Text) → Quiet (predefined at name)
predefined_quiet at name =
    decided (same_text name (codes "sqlca")) (pure_holds (object_operand true (Some (structure 1))) tt)
    (decided (same_text name (codes "NULL")) (pure_holds null_operand tt)
    (decided (same_text name (codes "true")) (pure_holds (integer_operand int_type (pos 1)) tt)
    (decided (same_text name (codes "false")) (pure_holds (integer_operand int_type (pos 0)) tt)
    (decided (is_some (known_function name)) (fault at F14 (λ _. pure unknown)) (fault at F11 (λ _. pure unknown))))))

named_quiet : (at : Place) (name : Text) (e : Option EntryData) → Quiet (named_by at name e)
unfolding named_by
named_quiet at name (Some (object k global t)) = pure_holds _ tt
named_quiet at name (Some (function k done r ps)) = (fault _ _ _)
named_quiet at name None = predefined_quiet at name

pub name_quiet : (at : Place) (name : Text) → Quiet (name_rule at name)
unfolding name_rule
name_quiet at name = asked _ _ (λ w c. named_quiet at name _)

pub value_quiet : (at : Place) (o : OperandData) → Quiet (value_rule at o)
unfolding value_rule
value_quiet at o = given_quiet o.type (λ t. asked _ _ (λ w c. chosen _ (fault _ _ _) (pure_holds _ tt)))

pub address_quiet : (at : Place) (o : OperandData) → Quiet (address_rule at o)
unfolding address_rule
address_quiet at o = given_quiet o.type (λ t. chosen (o.is_place || o.is_target) (pure_holds _ tt) (fault _ _ _))

or_types_quiet : (at : Place) (o : Option OperandData) → Quiet (found_or_types at o)
or_types_quiet at (Some o) = pure_holds _ tt
or_types_quiet at None = (fault _ _ _)

target_quiet : (at : Place) (o : OperandData) → Quiet (target_rule at o)
unfolding target_rule
target_quiet at o = given_quiet o.type (λ t. or_types_quiet at _)

sign_quiet : (at : Place) (op : UnOp) (o : OperandData) → Quiet (sign_rule at op o)
unfolding sign_rule
sign_quiet at op o = given_quiet o.type (λ t. chained (typed_quiet at _) (λ a p. pure_holds _ tt))

pub unary_quiet : (at : Place) (op : UnOp) (o : OperandData) → Quiet (unary_rule at op o)
unary_quiet at Deref o = target_quiet at o
unary_quiet at Addr o = sign_quiet at Addr o
unary_quiet at Plus o = sign_quiet at Plus o
unary_quiet at Minus o = sign_quiet at Minus o
unary_quiet at Not o = sign_quiet at Not o
unary_quiet at Flip o = sign_quiet at Flip o

pub binary_quiet : (at : Place) (op : BinOp) (a b : OperandData) → Quiet (binary_rule at op a b)
unfolding binary_rule
binary_quiet at op a b = given_quiet a.type (λ s. given_quiet b.type (λ t. asked _ _ (λ w c. chained (typed_quiet at _) (λ x p. pure_holds _ tt))))

element_quiet : (at : Place) (t : Option TyData) → Quiet (element_by at t)
element_quiet at (Some t) = pure_holds _ tt
element_quiet at None = (fault _ _ _)

pub index_quiet : (at : Place) (a b : OperandData) → Quiet (index_rule at a b)
unfolding index_rule
index_quiet at a b = given_quiet a.type (λ s. given_quiet b.type (λ t. asked _ _ (λ w c. element_quiet at _)))

assigned_quiet : (at : Place) (allows : Bool) (s : TyData) → Quiet (assigned at allows s)
assigned_quiet at allows s = chosen _ (pure_holds _ tt) (typed_quiet at _)

pub assign_quiet : (at : Place) (a b : OperandData) → Quiet (assign_rule at a b)
unfolding assign_rule
assign_quiet at a b = given_quiet a.type (λ s. chained (demand_quiet _ _ _) (λ x p. given_quiet b.type (λ t. assigned_quiet at _ s)))

pub compound_quiet : (at : Place) (op : BinOp) (a b : OperandData) → Quiet (compound_rule at op a b)
unfolding compound_rule
compound_quiet at op a b = given_quiet a.type (λ s. chained (demand_quiet _ _ _) (λ x p. given_quiet b.type (λ t. asked _ _ (λ w c. assigned_quiet at _ s))))

pub bump_quiet : (at : Place) (o : OperandData) → Quiet (bump_rule at o)
unfolding bump_rule
bump_quiet at o = given_quiet o.type (λ t. chained (demand_quiet _ _ _) (λ x p. asked _ _ (λ w c. assigned_quiet at _ t)))

arguments_quiet : (at : Place) (ps : Option (List (Option TyData))) (os : List OperandData) → Quiet (arguments_rule at ps os)
arguments_quiet at None os = pure_holds _ tt
arguments_quiet at (Some ps) os = chained (demand_quiet _ _ _) (λ x p. demand_quiet _ _ _)

format_quiet : (at : Place) (n : ℕ) (name : Text) (es : ExprList) (os : List OperandData) → Quiet (format_rule at n name es os)
format_quiet at n name es os = chosen _ (chained (demand_quiet _ _ _) (λ x p. chained (demand_quiet _ _ _) (λ y q. pure_holds _ tt))) (fault _ _ _)

known_quiet : (at : Place) (name : Text) (es : ExprList) (os : List OperandData) (k : Option KnownData) → Quiet (known_rule at name es os k)
known_quiet at name es os None = (fault _ _ _)
known_quiet at name es os (Some (plain r ps)) = chained (arguments_quiet at (Some (map Some ps)) os) (λ x p. pure_holds (computed (Some r)) tt)
known_quiet at name es os (Some (formatted n)) = format_quiet at n name es os

library_quiet : (at : Place) (call : LibName) (es : ExprList) (os : List OperandData) → Quiet (library_rule at call es os)
library_quiet at call es os = chosen _ (pure_holds _ tt) (fault _ _ _)

undeclared_quiet : (at : Place) (name : Text) (es : ExprList) (os : List OperandData) (call : Option LibName) → Quiet (undeclared_call at name es os call)
undeclared_quiet at name es os (Some call) = library_quiet at call es os
undeclared_quiet at name es os None = known_quiet at name es os (known_function name)

call_by_quiet : (at : Place) (name : Text) (es : ExprList) (os : List OperandData) (e : Option EntryData) → Quiet (call_by at name es os e)
unfolding call_by
call_by_quiet at name es os (Some (object k global t)) = (fault _ _ _)
call_by_quiet at name es os (Some (function k done r ps)) = asked _ _ (λ w c. chained (demand_quiet _ _ _) (λ x p. chained (arguments_quiet at ps os) (λ y q. pure_holds _ tt)))
call_by_quiet at name es os None = asked _ _ (λ w c. undeclared_quiet at name es os _)

pub call_quiet : (at : Place) (name : Text) (es : ExprList) (os : List OperandData) → Quiet (call_rule at name es os)
unfolding call_rule
call_quiet at name es os = asked _ _ (λ w c. call_by_quiet at name es os _)

member_by_quiet : (at : Place) (of_place : Bool) (t : Option (Option TyData)) → Quiet (member_by at of_place t)
member_by_quiet at of_place (Some t) = pure_holds _ tt
member_by_quiet at of_place None = (fault _ _ _)

member_in_quiet : (at : Place) (of_place : Bool) (m : Text) (k : Option ℕ) → Quiet (member_in at of_place m k)
member_in_quiet at of_place m None = (fault _ _ _)
member_in_quiet at of_place m (Some k) = asked _ _ (λ w c. member_by_quiet at of_place _)

pub member_quiet : (at : Place) (o : OperandData) (m : Text) → Quiet (member_rule at o m)
unfolding member_rule
member_quiet at o m = given_quiet o.type (λ t. member_in_quiet at o.is_place m _)

pub arrow_quiet : (at : Place) (o : OperandData) (m : Text) → Quiet (arrow_rule at o m)
unfolding arrow_rule
arrow_quiet at o m = given_quiet o.type (λ t. member_in_quiet at true m _)

scalar_quiet : (at : Place) (s : TyData) (o : OperandData) → Quiet (scalar_cast at s o)
unfolding scalar_cast
scalar_quiet at s o = given_quiet o.type (λ t. chained (typed_quiet at _) (λ x p. pure_holds _ tt))

cast_to_quiet : (at : Place) (o : OperandData) (s : TyData) → Quiet (cast_to at o s)
cast_to_quiet at o s = chosen _ (given_quiet o.type (λ t. pure_holds _ tt)) (chained (value_quiet at o) (λ x p. scalar_quiet at s x))

pub cast_quiet : (at : Place) (to : Option TyData) (o : OperandData) → Quiet (cast_rule at to o)
unfolding cast_rule
cast_quiet at to o = given_quiet to (λ s. cast_to_quiet at o s)

pub size_quiet : (at : Place) (t : Option TyData) → Quiet (size_rule at t)
unfolding size_rule
size_quiet at t = given_quiet t (λ s. asked _ _ (λ w c. asked _ _ (λ v d. chosen _ (pure_holds _ tt) (fault _ _ _))))

length_by_quiet : (at : Place) (n : Option ℕ) → Quiet (length_by at n)
length_by_quiet at None = (fault _ _ _)
length_by_quiet at (Some n) = pure_holds _ tt

pub length_quiet : (at : Place) (o : OperandData) → Quiet (length_rule at o)
unfolding length_rule
length_quiet at o = if_some o.type (pure_holds _ tt) (λ t. length_by_quiet at _)

pub within_quiet : (at : Place) (t : Option TyData) → Quiet (within_rule at t)
unfolding within_rule
within_quiet at None = pure_holds _ tt
within_quiet at (Some t) = asked _ _ (λ w c. keep_quiet _ _ _)

pub elements_quiet : (at : Place) (t : Option TyData) (stars : ℕ) (ns : List (Option ℕ)) → Quiet (elements_rule at t stars ns)
elements_quiet at None stars ns = pure_holds _ tt
elements_quiet at (Some t) stars ns = asked _ _ (λ w c. demand_quiet _ _ _)

pub complete_quiet : (at : Place) (t : Option TyData) → Quiet (complete_rule at t)
unfolding complete_rule
complete_quiet at None = pure_holds _ tt
complete_quiet at (Some t) = asked _ _ (λ w c. chosen _ (pure_holds _ tt) (fault _ _ _))
