-- Operands have types where nothing is wrong.
use Rattle.std.proofs.Common.{◌≡◌, ◌∙◌, ℕ, zero, suc, Bool, true, false, not, ◌&&◌, ◌||◌, List, [], ◌∷◌, map, Option, Some, None, refl, sym, subst, if◌then◌else◌}
use Rattle.std.specs.Prelude.{codes, pos, negsuc, is_some, option_map, option_and_then}
use Rattle.std.proofs.lemmas.Bool.{false≢true}
use Rattle.ec_base.specs.declared.fault.FaultKind.TheVariants.{F11, F14, F15, F16}
use Rattle.ec_ctypes.specs.declared.types.sizes.Shape.{Shape}
use Rattle.ec_ctypes.specs.declared.tree.expr.BinOp.{BinOp}
use Rattle.ec_ctypes.specs.declared.tree.expr.UnOp.{UnOp}
use Rattle.ec_ctypes.specs.declared.tree.expr.UnOp.TheVariants.{Addr, Deref, Plus, Minus, Not, Flip}
use Rattle.ec_ctypes.specs.declared.checked.library.LibName.{LibName}
use Rattle.ec_ctypes.specs.trees.Types.{TyData, structure}
use Rattle.ec_ctypes.specs.trees.Exprs.{ExprList}
use Rattle.ec_language.specs.Letters.{Text, same_text}
use Rattle.ec_typing_defs.specs.Tables.{find}
use Rattle.ec_typing_defs.specs.Known.{KnownData, plain, formatted, known_function}
use Rattle.ec_typing_defs.specs.Constants.{ConstData, variable, trapping, known}
use Rattle.ec_typing_defs.specs.Types.{int_type, is_void, is_array, is_structure, pointed_to, struct_number}
use Rattle.ec_typing_defs.specs.Operands.{OperandData, computed, unknown, object_operand, null_operand, integer_operand, given, typed, predefined, named_by, name_rule, value_rule, address_rule, found_or_types, target, target_rule, sign_rule, unary_rule, binary_rule, element_by, index_rule, may_be_set, assigned, assign_rule, compound_rule, bump_rule, arguments_rule, format_rule, known_rule, library_rule, undeclared_call, call_by, call_rule, member_type, member_by, member_in, member_rule, arrow_rule, scalar_cast, cast_to, cast_rule, size_operand, size_rule, positive, length_by, length_rule, elements_rule, within_rule, complete_rule}
use Rattle.ec_typing_defs.specs.Worlds.{Place, EntryData, object, function, MembersData, unlisted, begun, listed, StructInfo, Rule, World, chain, note, pure, members_of}
use Rattle.ec_typing_defs.specs.Expressions.{Members}
use Rattle.ec_sim_world_laws.proofs.growth_lemmas.Rules as growth
use Rattle.ec_sim_world_laws.specs.closing.Closing.{IsTyped, members_at}
use Rattle.ec_sim_world_laws.proofs.closing_lemmas.Lists.{some_is}
use Rattle.ec_sim_world_laws.proofs.closing_lemmas.Rules.{There, there}
use Rattle.ec_sim_program_laws.proofs.types_lemmas.Structs.{Whole, GoodIn, AllGood, some_all, whole_complete, Has, type_shaped}
use Rattle.ec_sim_program_laws.proofs.types_lemmas.Rules.{Sound, Any, Typing, chained, from, to, pure_types, asked, asked_any, fault, demanded, demand_types, keep_types, chosen, decided, if_some, EntryIn, name_typed}

-- an operand has a type
abbrev pub HasType : World → OperandData → Type 0
HasType w o = IsTyped o.type

not_both : {C : Type 0} (b : Bool) → b ≡ true → b ≡ false → C
not_both b p q = absurd (false≢true (sym q ∙ p))

pub given_types : {R : World → Type 0} {P : World → OperandData → Type 0} (t : Option TyData) {f : TyData → Rule OperandData} → ((w : World) → R w → IsTyped t)
    → ((s : TyData) → Typing (λ w. (t ≡ Some s) × R w) P (f s)) → Typing R P (given t f)
unfolding pure
given_types None g k = record { growing = growth.pure_grows _; rows = λ w. refl; types = λ w sound r found shallow. absurd (g w r) }
given_types (Some t) g k = from (λ w r. (refl, r)) (k t)

-- a fault, and nothing known
stopped : {R : World → Type 0} {P : World → OperandData → Type 0} (at : Place) (kind : _) → Typing R P (chain (note at kind) (λ u. pure unknown))
stopped at kind = fault at kind unknown

typed_has : {R : World → Type 0} (at : Place) (t : Option TyData) → Typing R HasType (typed at t)
unfolding typed
typed_has at (Some t) = pure_types _ (λ w r. tt)
typed_has at None = stopped at F14

-- ---- names

predefined_has : (at : Place) (name : Text) → Typing Any HasType (predefined at name)
predefined_has at name =
    decided (same_text name (codes "sqlca")) (pure_types (object_operand true (Some (structure 1))) (λ w r. tt))
    (decided (same_text name (codes "NULL")) (pure_types null_operand (λ w r. tt))
    (decided (same_text name (codes "true")) (pure_types (integer_operand int_type (pos 1)) (λ w r. tt))
    (decided (same_text name (codes "false")) (pure_types (integer_operand int_type (pos 0)) (λ w r. tt))
    (decided (is_some (known_function name)) (stopped at F14) (stopped at F11)))))

named_has : (at : Place) (name : Text) (e : Option EntryData) → Typing (λ w. EntryIn e) HasType (named_by at name e)
unfolding named_by
named_has at name (Some (object k global t)) = pure_types _ (λ w r. r)
named_has at name (Some (function k done r ps)) = stopped at F14
named_has at name None = predefined_has at name

pub name_has : (at : Place) (name : Text) → Typing Any HasType (name_rule at name)
unfolding name_rule
name_has at name = asked _ _ (λ w e. EntryIn e) (λ w sound r. name_typed name w sound) (λ e. named_has at name e)

-- ---- values

pub value_has : (at : Place) (o : OperandData) → Typing (λ w. IsTyped o.type) HasType (value_rule at o)
unfolding value_rule
value_has at o = given_types o.type (λ w r. r) (λ t. asked_any _ _ (λ complete. chosen (is_structure t && not complete) (stopped at F14) (pure_types _ (λ w r. tt))))

pub address_has : (at : Place) (o : OperandData) → Typing (λ w. IsTyped o.type) HasType (address_rule at o)
unfolding address_rule
address_has at o = given_types o.type (λ w r. r) (λ t. chosen (o.is_place || o.is_target) (pure_types _ (λ w r. tt)) (stopped at F15))

target_by : {R : World → Type 0} (at : Place) (fixed : Bool) (t : Option TyData) → Typing R HasType (found_or_types at (option_map (target fixed) t))
target_by at fixed (Some t) = pure_types _ (λ w r. tt)
target_by at fixed None = stopped at F14

target_has : (at : Place) (o : OperandData) → Typing (λ w. IsTyped o.type) HasType (target_rule at o)
unfolding target_rule
target_has at o = given_types o.type (λ w r. r) (λ t. target_by at o.is_fixed (pointed_to t))

sign_has : (at : Place) (op : UnOp) (o : OperandData) → Typing (λ w. IsTyped o.type) HasType (sign_rule at op o)
unfolding sign_rule
sign_has at op o = given_types o.type (λ w r. r) (λ t. chained (typed_has at _) (λ a. pure_types _ (λ w r. r)))

pub unary_has : (at : Place) (op : UnOp) (o : OperandData) → Typing (λ w. IsTyped o.type) HasType (unary_rule at op o)
unary_has at Deref o = target_has at o
unary_has at Addr o = sign_has at Addr o
unary_has at Plus o = sign_has at Plus o
unary_has at Minus o = sign_has at Minus o
unary_has at Not o = sign_has at Not o
unary_has at Flip o = sign_has at Flip o

-- both have types
abbrev pub BothTyped : OperandData → OperandData → World → Type 0
BothTyped a b w = IsTyped a.type × IsTyped b.type

pub binary_has : (at : Place) (op : BinOp) (a b : OperandData) → Typing (BothTyped a b) HasType (binary_rule at op a b)
unfolding binary_rule
binary_has at op a b = given_types a.type (λ w r. r.0) (λ s. given_types b.type (λ w r. r.1.1) (λ t. asked_any _ _ (λ ty. chained (typed_has at _) (λ x. pure_types _ (λ w r. r)))))

element_has : {R : World → Type 0} (at : Place) (t : Option TyData) → Typing R HasType (element_by at t)
element_has at (Some t) = pure_types _ (λ w r. tt)
element_has at None = stopped at F14

pub index_has : (at : Place) (a b : OperandData) → Typing (BothTyped a b) HasType (index_rule at a b)
unfolding index_rule
index_has at a b = given_types a.type (λ w r. r.0) (λ s. given_types b.type (λ w r. r.1.1) (λ t. asked_any _ _ (λ ty. element_has at ty)))

-- ---- assignments

set_no_array : (o : OperandData) (t : TyData) → may_be_set o t ≡ true → is_array t ≡ false
set_no_array o t e = go o.is_place (is_array t) e
  where
    go : (a b : Bool) → (a && not b) ≡ true → b ≡ false
    go true true e = absurd (false≢true e)
    go true false e = refl
    go false b e = absurd (false≢true e)

assigned_has : {R : World → Type 0} (at : Place) (allows : Bool) (s : TyData) → ((w : World) → R w → is_array s ≡ false) → Typing R HasType (assigned at allows s)
assigned_has at allows s g = chosen (is_array s) (pure_types unknown (λ w r. not_both (is_array s) r.0 (g w r.1))) (typed_has at _)

pub assign_has : (at : Place) (a b : OperandData) → Typing (BothTyped a b) HasType (assign_rule at a b)
unfolding assign_rule
assign_has at a b = given_types a.type (λ w r. r.0) (λ s. demanded at F15 (may_be_set a s) (λ u. given_types b.type (λ w r. r.1.1.1) (λ t. assigned_has at _ s (λ w r. set_no_array a s r.1.0))))

pub compound_has : (at : Place) (op : BinOp) (a b : OperandData) → Typing (BothTyped a b) HasType (compound_rule at op a b)
unfolding compound_rule
compound_has at op a b =
    given_types a.type (λ w r. r.0) (λ s. demanded at F15 (may_be_set a s) (λ u. given_types b.type (λ w r. r.1.1.1) (λ t. asked_any _ _ (λ allows. assigned_has at allows s (λ w r. set_no_array a s r.1.0)))))

pub bump_has : (at : Place) (o : OperandData) → Typing (λ w. IsTyped o.type) HasType (bump_rule at o)
unfolding bump_rule
bump_has at o = given_types o.type (λ w r. r) (λ t. demanded at F15 (may_be_set o t) (λ u. asked_any _ _ (λ allows. assigned_has at allows t (λ w r. set_no_array o t r.0))))

-- ---- calls

arguments_kept : {R : World → Type 0} (at : Place) (ps : Option (List (Option TyData))) (os : List OperandData) → Typing R (λ w u. R w) (arguments_rule at ps os)
arguments_kept at None os = pure_types tt (λ w r. r)
arguments_kept at (Some ps) os = chained (demand_types _ _ _) (λ u. demand_types _ _ _)

format_has : {R : World → Type 0} (at : Place) (n : ℕ) (name : Text) (es : ExprList) (os : List OperandData) → Typing R HasType (format_rule at n name es os)
format_has at n name es os =
    chosen _ (chained (demand_types _ _ _) (λ u. chained (demand_types _ _ _) (λ v. pure_types _ (λ w r. tt)))) (fault at F16 (computed (Some int_type)))

known_has : {R : World → Type 0} (at : Place) (name : Text) (es : ExprList) (os : List OperandData) (k : Option KnownData) → Typing R HasType (known_rule at name es os k)
known_has at name es os None = stopped at F16
known_has at name es os (Some (plain r ps)) = chained (arguments_kept at (Some (map Some ps)) os) (λ u. pure_types (computed (Some r)) (λ w x. tt))
known_has at name es os (Some (formatted n)) = format_has at n name es os

library_has : {R : World → Type 0} (at : Place) (call : LibName) (es : ExprList) (os : List OperandData) → Typing R HasType (library_rule at call es os)
library_has at call es os = chosen _ (pure_types _ (λ w r. tt)) (stopped at F16)

undeclared_has : {R : World → Type 0} (at : Place) (name : Text) (es : ExprList) (os : List OperandData) (call : Option LibName) → Typing R HasType (undeclared_call at name es os call)
undeclared_has at name es os (Some call) = library_has at call es os
undeclared_has at name es os None = known_has at name es os (known_function name)

call_by_has : (at : Place) (name : Text) (es : ExprList) (os : List OperandData) (e : Option EntryData) → Typing (λ w. EntryIn e) HasType (call_by at name es os e)
unfolding call_by
call_by_has at name es os (Some (object k global t)) = stopped at F16
call_by_has at name es os (Some (function k done r ps)) = asked_any _ _ (λ defined. demanded at F16 defined (λ u. chained (arguments_kept at ps os) (λ v. pure_types _ (λ w h. h.1.0))))
call_by_has at name es os None = asked_any _ _ (λ call. undeclared_has at name es os call)

pub call_has : (at : Place) (name : Text) (es : ExprList) (os : List OperandData) → Typing Any HasType (call_rule at name es os)
unfolding call_rule
call_has at name es os = asked _ _ (λ w e. EntryIn e) (λ w sound r. name_typed name w sound) (λ e. call_by_has at name es os e)

-- ---- members

-- a member that is found has a type
abbrev FoundIn : Option (Option TyData) → Type 0
FoundIn None = Unit {0}
FoundIn (Some t) = IsTyped t

good_typed : (ss : List StructInfo) (o : Option TyData) → GoodIn ss o → IsTyped o
good_typed ss None h = absurd h
good_typed ss (Some t) h = tt

among_members : (ss : List StructInfo) (m : Text) (ms : Members) → AllGood ss ms → FoundIn (find m ms)
among_members ss m [] h = tt
among_members ss m (x ∷ ms) h = go (same_text m x.0) (good_typed ss x.1 h.0) (among_members ss m ms h.1)
  where
    go : (b : Bool) → IsTyped x.1 → FoundIn (find m ms) → FoundIn (if b then Some x.1 else find m ms)
    go true p q = p
    go false p q = q

member_typed : (w : World) → Sound w → (m : Text) (k : ℕ) → FoundIn (member_type m (members_of k w))
member_typed w sound m k = go (members_of k w) refl
  where
    listed_one : (ms : Members) → There w.structs k (listed ms) → FoundIn (find m ms)
    listed_one ms t = among_members w.structs m ms (some_all w.structs ms (sound.structs k t.info ms t.is (some_is t.are)).good)

    go : (o : Option MembersData) → members_at w.structs k ≡ o → FoundIn (member_type m o)
    go None e = tt
    go (Some unlisted) e = tt
    go (Some begun) e = tt
    go (Some (listed ms)) e = listed_one ms (there w.structs k (listed ms) e)

member_by_has : (at : Place) (of_place : Bool) (t : Option (Option TyData)) → Typing (λ w. FoundIn t) HasType (member_by at of_place t)
member_by_has at of_place (Some t) = pure_types _ (λ w r. r)
member_by_has at of_place None = stopped at F11

member_in_has : {R : World → Type 0} (at : Place) (of_place : Bool) (m : Text) (k : Option ℕ) → Typing R HasType (member_in at of_place m k)
member_in_has at of_place m None = stopped at F14
member_in_has at of_place m (Some k) = asked _ _ (λ w t. FoundIn t) (λ w sound r. member_typed w sound m k) (λ t. member_by_has at of_place t)

pub member_has : (at : Place) (o : OperandData) (m : Text) → Typing (λ w. IsTyped o.type) HasType (member_rule at o m)
unfolding member_rule
member_has at o m = given_types o.type (λ w r. r) (λ t. member_in_has at o.is_place m (struct_number t))

pub arrow_has : (at : Place) (o : OperandData) (m : Text) → Typing (λ w. IsTyped o.type) HasType (arrow_rule at o m)
unfolding arrow_rule
arrow_has at o m = given_types o.type (λ w r. r) (λ t. member_in_has at true m (option_and_then struct_number (pointed_to t)))

-- ---- casts and sizes

scalar_has : (at : Place) (s : TyData) (o : OperandData) → Typing (λ w. IsTyped o.type) HasType (scalar_cast at s o)
unfolding scalar_cast
scalar_has at s o = given_types o.type (λ w r. r) (λ t. chained (typed_has at _) (λ x. pure_types _ (λ w r. r)))

cast_to_has : (at : Place) (o : OperandData) (s : TyData) → Typing (λ w. IsTyped o.type) HasType (cast_to at o s)
cast_to_has at o s =
    chosen (is_void s) (given_types o.type (λ w r. r.1) (λ t. pure_types _ (λ w r. tt)))
    (chained (from (λ w r. r.1) (value_has at o)) (λ x. scalar_has at s x))

pub cast_has : (at : Place) (to : Option TyData) (o : OperandData) → Typing (λ w. IsTyped to × IsTyped o.type) HasType (cast_rule at to o)
unfolding cast_rule
cast_has at to o = given_types to (λ w r. r.0) (λ s. from (λ w r. r.1.1) (cast_to_has at o s))

size_typed : (o : Option Shape) → Has o → IsTyped (size_operand o).type
size_typed None h = absurd h
size_typed (Some s) h = tt

pub size_has : (at : Place) (t : Option TyData) → Typing (λ w. IsTyped t) HasType (size_rule at t)
unfolding size_rule
size_has at t = given_types t (λ w r. r) (λ s.
    asked _ _ (λ w complete. complete ≡ true → Whole w.structs s) (λ w sound r. whole_complete w s) (λ complete.
    asked _ _ (λ w shape. complete ≡ true → Has shape) (λ w sound whole e. type_shaped w.structs sound.structs s (whole e)) (λ shape.
    chosen complete (pure_types _ (λ w r. size_typed shape (r.1 r.0))) (stopped at F14))))

-- ---- array lengths

-- a length of 1 or more
abbrev pub IsLength : Option ℕ → Type 0
IsLength None = ⊥
IsLength (Some zero) = ⊥
IsLength (Some (suc n)) = Unit {0}

no_length : {R : World → Type 0} {P : World → Option ℕ → Type 0} (at : Place) → Typing R P (length_by at None)
no_length at = fault at _ None

length_by_is : {R : World → Type 0} (at : Place) (c : ConstData) → Typing R (λ w n. IsLength n) (length_by at (positive c))
length_by_is at variable = no_length at
length_by_is at trapping = no_length at
length_by_is at (known (pos zero)) = no_length at
length_by_is at (known (pos (suc n))) = pure_types (Some (suc n)) (λ w r. tt)
length_by_is at (known (negsuc n)) = no_length at

pub length_is : (at : Place) (o : OperandData) → Typing (λ w. IsTyped o.type) (λ w n. IsLength n) (length_rule at o)
unfolding length_rule
length_is at o = if_some o.type (λ e. from (λ w r. absurd (subst IsTyped e r)) (pure_types {R = λ w. ⊥} None (λ w r. r))) (λ t e. length_by_is at o.constant)

pub within_kept : {R : World → Type 0} (at : Place) (t : Option TyData) → Typing R (λ w u. R w) (within_rule at t)
unfolding within_rule
within_kept at None = pure_types tt (λ w r. r)
within_kept at (Some t) = asked_any _ _ (λ small. keep_types _ _ _)

pub elements_kept : {R : World → Type 0} (at : Place) (t : Option TyData) (stars : ℕ) (ns : List (Option ℕ)) → Typing R (λ w u. R w) (elements_rule at t stars ns)
elements_kept at None stars ns = pure_types tt (λ w r. r)
elements_kept at (Some t) stars ns = asked_any _ _ (λ complete. demand_types _ _ _)

abbrev pub WholeIn : List StructInfo → Option TyData → Type 0
WholeIn ss None = ⊥
WholeIn ss (Some t) = Whole ss t

-- its type is as it was, and complete
pub complete_kept : {R : World → Type 0} (at : Place) (t : Option TyData) → Typing (λ w. IsTyped t × R w) (λ w s. (s ≡ t) × (WholeIn w.structs s × R w)) (complete_rule at t)
unfolding complete_rule
complete_kept at None = pure_types None (λ w r. absurd r.0)
complete_kept {R} at (Some t) = asked _ _ (λ w complete. (complete ≡ true → Whole w.structs t) × R w) (λ w sound r. (whole_complete w t, r.1)) (λ complete.
    chosen complete (pure_types (Some t) (λ w r. (refl, (r.1.0 r.0, r.1.1)))) (fault at F14 None))
