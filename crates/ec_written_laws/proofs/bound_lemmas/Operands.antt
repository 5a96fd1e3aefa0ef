-- The rules of operands keep names as they are, and those of a name find it free.
use Rattle.std.proofs.Common.{◌≡◌, ℕ, Bool, true, false, ◌||◌, List, [], ◌∷◌, map, refl, ap, ◌∙◌, Option, Some, None, if◌then◌else◌}
use Rattle.std.specs.Prelude.{codes, pos, is_some}
use Rattle.ec_base.specs.declared.fault.FaultKind.TheVariants.{F11, F14}
use Rattle.ec_ctypes.specs.declared.tree.expr.BinOp.{BinOp}
use Rattle.ec_ctypes.specs.declared.tree.expr.UnOp.{UnOp}
use Rattle.ec_ctypes.specs.declared.tree.expr.UnOp.TheVariants.{Addr, Deref, Plus, Minus, Not, Flip}
use Rattle.ec_ctypes.specs.declared.checked.library.LibName.{LibName}
use Rattle.ec_ctypes.specs.trees.Types.{TyData, structure}
use Rattle.ec_ctypes.specs.trees.Exprs.{ExprList}
use Rattle.ec_ctypes.specs.Texts.{library_text}
use Rattle.ec_language.specs.Letters.{Text, same_text}
use Rattle.ec_language.proofs.Marks.{same_text_is}
use Rattle.ec_typing_defs.specs.Tables.{find}
use Rattle.ec_typing_defs.specs.Library.{named_among, library_call}
use Rattle.ec_writing_defs.specs.Shapes.{is_free_name}
use Rattle.ec_typing_defs.specs.Known.{KnownData, plain, formatted, known_functions, known_function, calls}
use Rattle.ec_typing_defs.specs.Operands.{OperandData, computed, unknown, object_operand, null_operand, integer_operand, given, typed, predefined, named_by, name_rule, value_rule, address_rule, found_or_types, target_rule, sign_rule, unary_rule, binary_rule, element_by, index_rule, assigned, assign_rule, compound_rule, bump_rule, arguments_rule, format_rule, known_rule, library_rule, undeclared_call, call_by, call_rule, member_by, member_in, member_rule, arrow_rule, scalar_cast, cast_to, cast_rule, size_rule, length_by, length_rule, elements_rule, within_rule, complete_rule}
use Rattle.ec_typing_defs.specs.Worlds.{Place, EntryData, object, function, World, Rule, pure, look_up}
use Rattle.ec_typing_defs.specs.Types.{int_type}
use Rattle.ec_written_laws.proofs.bound_lemmas.Rules.{Clean, look_up_free, Holds, Quiet, gives, chained, asked, pure_holds, fault, demand_quiet, keep_quiet, chosen, decided, if_some}

pub given_quiet : (t : Option TyData) {f : TyData → Rule OperandData} → ((s : TyData) → Quiet (f s)) → Quiet (given t f)
given_quiet None k = pure_holds _ tt
given_quiet (Some t) k = k t

typed_quiet : (at : Place) (t : Option TyData) → Quiet (typed at t)
unfolding typed
typed_quiet at (Some t) = pure_holds _ tt
typed_quiet at None = (fault _ _ _)

is_text : (x y : Text) → same_text x y ≡ true → is_free_name y ≡ true → is_free_name x ≡ true
is_text x y s h = ap is_free_name (same_text_is x y s) ∙ h

predefined_free : (at : Place) (x : Text) → Holds (predefined at x) (λ o. is_free_name x ≡ true)
predefined_free at x =
    decided (same_text x (codes "sqlca")) (λ s. pure_holds (object_operand true (Some (structure 1))) (is_text x (codes "sqlca") s refl))
    (decided (same_text x (codes "NULL")) (λ s. pure_holds null_operand (is_text x (codes "NULL") s refl))
    (decided (same_text x (codes "true")) (λ s. pure_holds (integer_operand int_type (pos 1)) (is_text x (codes "true") s refl))
    (decided (same_text x (codes "false")) (λ s. pure_holds (integer_operand int_type (pos 0)) (is_text x (codes "false") s refl))
    (decided (is_some (known_function x)) (λ s. fault at F14 (λ _. pure unknown)) (fault at F11 (λ _. pure unknown))))))

named_free : (at : Place) (x : Text) (w : World) (e : Option EntryData) → Clean w → look_up x w ≡ e → Holds (named_by at x e) (λ o. is_free_name x ≡ true)
unfolding named_by
named_free at x w (Some (object k global t)) c e = pure_holds _ (look_up_free x _ w c e)
named_free at x w (Some (function k done r ps)) c e = (fault _ _ _)
named_free at x w None c e = predefined_free at x

pub name_free : (at : Place) (x : Text) → Holds (name_rule at x) (λ o. is_free_name x ≡ true)
unfolding name_rule
name_free at x = asked _ _ (λ w c. named_free at x w (look_up x w) c refl)

pub value_quiet : (at : Place) (o : OperandData) → Quiet (value_rule at o)
unfolding value_rule
value_quiet at o = given_quiet o.type (λ t. asked _ _ (λ w c. chosen _ (fault _ _ _) (pure_holds _ tt)))

pub address_quiet : (at : Place) (o : OperandData) → Quiet (address_rule at o)
unfolding address_rule
address_quiet at o = given_quiet o.type (λ t. chosen (o.is_place || o.is_target) (pure_holds _ tt) (fault _ _ _))

or_types_quiet : (at : Place) (o : Option OperandData) → Quiet (found_or_types at o)
or_types_quiet at (Some o) = pure_holds _ tt
or_types_quiet at None = (fault _ _ _)

target_quiet : (at : Place) (o : OperandData) → Quiet (target_rule at o)
unfolding target_rule
target_quiet at o = given_quiet o.type (λ t. or_types_quiet at _)

sign_quiet : (at : Place) (op : UnOp) (o : OperandData) → Quiet (sign_rule at op o)
unfolding sign_rule
sign_quiet at op o = given_quiet o.type (λ t. chained (typed_quiet at _) (λ a p. pure_holds _ tt))

pub unary_quiet : (at : Place) (op : UnOp) (o : OperandData) → Quiet (unary_rule at op o)
unary_quiet at Deref o = target_quiet at o
unary_quiet at Addr o = sign_quiet at Addr o
unary_quiet at Plus o = sign_quiet at Plus o
unary_quiet at Minus o = sign_quiet at Minus o
unary_quiet at Not o = sign_quiet at Not o
unary_quiet at Flip o = sign_quiet at Flip o

pub binary_quiet : (at : Place) (op : BinOp) (a b : OperandData) → Quiet (binary_rule at op a b)
unfolding binary_rule
binary_quiet at op a b = given_quiet a.type (λ s. given_quiet b.type (λ t. asked _ _ (λ w c. chained (typed_quiet at _) (λ x p. pure_holds _ tt))))

element_quiet : (at : Place) (t : Option TyData) → Quiet (element_by at t)
element_quiet at (Some t) = pure_holds _ tt
element_quiet at None = (fault _ _ _)

pub index_quiet : (at : Place) (a b : OperandData) → Quiet (index_rule at a b)
unfolding index_rule
index_quiet at a b = given_quiet a.type (λ s. given_quiet b.type (λ t. asked _ _ (λ w c. element_quiet at _)))

assigned_quiet : (at : Place) (allows : Bool) (s : TyData) → Quiet (assigned at allows s)
assigned_quiet at allows s = chosen _ (pure_holds _ tt) (typed_quiet at _)

pub assign_quiet : (at : Place) (a b : OperandData) → Quiet (assign_rule at a b)
unfolding assign_rule
assign_quiet at a b = given_quiet a.type (λ s. chained (demand_quiet _ _ _) (λ x p. given_quiet b.type (λ t. assigned_quiet at _ s)))

pub compound_quiet : (at : Place) (op : BinOp) (a b : OperandData) → Quiet (compound_rule at op a b)
unfolding compound_rule
compound_quiet at op a b = given_quiet a.type (λ s. chained (demand_quiet _ _ _) (λ x p. given_quiet b.type (λ t. asked _ _ (λ w c. assigned_quiet at _ s))))

pub bump_quiet : (at : Place) (o : OperandData) → Quiet (bump_rule at o)
unfolding bump_rule
bump_quiet at o = given_quiet o.type (λ t. chained (demand_quiet _ _ _) (λ x p. asked _ _ (λ w c. assigned_quiet at _ t)))

arguments_quiet : (at : Place) (ps : Option (List (Option TyData))) (os : List OperandData) → Quiet (arguments_rule at ps os)
arguments_quiet at None os = pure_holds _ tt
arguments_quiet at (Some ps) os = chained (demand_quiet _ _ _) (λ x p. demand_quiet _ _ _)

format_quiet : (at : Place) (n : ℕ) (name : Text) (es : ExprList) (os : List OperandData) → Quiet (format_rule at n name es os)
format_quiet at n name es os = chosen _ (chained (demand_quiet _ _ _) (λ x p. chained (demand_quiet _ _ _) (λ y q. pure_holds _ tt))) (fault _ _ _)

-- the names of functions that are known without a declaration
abbrev all_free : List (Text × KnownData) → Type 0
all_free [] = Unit {0}
all_free (e ∷ es) = (is_free_name e.0 ≡ true) × all_free es

known_free : (x : Text) (k : KnownData) (es : List (Text × KnownData)) → all_free es → find x es ≡ Some k → is_free_name x ≡ true
known_free x k [] c e = absurd (cc)
known_free x k (y ∷ es) c e = go (same_text x y.0) refl e (known_free x k es c.1)
  where
    go : (b : Bool) → same_text x y.0 ≡ b → (if b then Some y.1 else find x es) ≡ Some k → (find x es ≡ Some k → is_free_name x ≡ true) → is_free_name x ≡ true
    go true s e more = is_text x y.0 s c.0
    go false s e more = more e

pub function_free : (x : Text) (k : KnownData) → known_function x ≡ Some k → is_free_name x ≡ true
function_free x k e = known_free x k known_functions (refl, (refl, (refl, (refl, (refl, (refl, (refl, (refl, (refl, (refl, (refl, (refl, (refl, (refl, (refl, tt))))))))))))))) e

known_holds : (at : Place) (x : Text) (es : ExprList) (os : List OperandData) (k : Option KnownData) → known_function x ≡ k → Holds (known_rule at x es os k) (λ o. is_free_name x ≡ true)
known_holds at x es os None e = (fault _ _ _)
known_holds at x es os (Some (plain r ps)) e = chained (arguments_quiet at (Some (map Some ps)) os) (λ a p. pure_holds (computed (Some r)) (function_free x _ e))
known_holds at x es os (Some (formatted n)) e = gives (format_quiet at n x es os) (λ o u. function_free x _ e)

library_quiet : (at : Place) (call : LibName) (es : ExprList) (os : List OperandData) → Quiet (library_rule at call es os)
library_quiet at call es os = chosen _ (pure_holds _ tt) (fault _ _ _)

-- the names of the library's calls
abbrev all_calls : List LibName → Type 0
all_calls [] = Unit {0}
all_calls (c ∷ cs) = (is_free_name (library_text c) ≡ true) × all_calls cs

call_free : (x : Text) (call : LibName) (cs : List LibName) → all_calls cs → named_among library_text x cs ≡ Some call → is_free_name x ≡ true
call_free x call [] c e = absurd (cc)
call_free x call (y ∷ cs) c e = go (same_text x (library_text y)) refl e (call_free x call cs c.1)
  where
    go : (b : Bool) → same_text x (library_text y) ≡ b → (if b then Some y else named_among library_text x cs) ≡ Some call → (named_among library_text x cs ≡ Some call → is_free_name x ≡ true) → is_free_name x ≡ true
    go true s e more = is_text x (library_text y) s c.0
    go false s e more = more e

library_free : (written : Bool) (x : Text) (call : LibName) → library_call written x ≡ Some call → is_free_name x ≡ true
library_free true x call e = call_free x call calls (refl, (refl, (refl, (refl, (refl, (refl, (refl, (refl, (refl, (refl, (refl, (refl, (refl, (refl, tt)))))))))))))) e
library_free false x call e = absurd (cc)

undeclared_holds : (at : Place) (x : Text) (es : ExprList) (os : List OperandData) (written : Bool) (call : Option LibName) → library_call written x ≡ call → Holds (undeclared_call at x es os call) (λ o. is_free_name x ≡ true)
undeclared_holds at x es os written (Some call) e = gives (library_quiet at call es os) (λ o u. library_free written x call e)
undeclared_holds at x es os written None e = known_holds at x es os (known_function x) refl

call_by_holds : (at : Place) (x : Text) (es : ExprList) (os : List OperandData) (w : World) (e : Option EntryData) → Clean w → look_up x w ≡ e → Holds (call_by at x es os e) (λ o. is_free_name x ≡ true)
unfolding call_by
call_by_holds at x es os w (Some (object k global t)) c e = (fault _ _ _)
call_by_holds at x es os w (Some (function k done r ps)) c e =
    asked _ _ (λ v d. chained (demand_quiet _ _ _) (λ a p. chained (arguments_quiet at ps os) (λ b q. pure_holds _ (look_up_free x _ w c e))))
call_by_holds at x es os w None c e = asked _ _ (λ v d. undeclared_holds at x es os v.written _ refl)

-- what is called is free
pub call_holds : (at : Place) (x : Text) (es : ExprList) (os : List OperandData) → Holds (call_rule at x es os) (λ o. is_free_name x ≡ true)
unfolding call_rule
call_holds at x es os = asked _ _ (λ w c. call_by_holds at x es os w (look_up x w) c refl)

member_by_quiet : (at : Place) (of_place : Bool) (t : Option (Option TyData)) → Quiet (member_by at of_place t)
member_by_quiet at of_place (Some t) = pure_holds _ tt
member_by_quiet at of_place None = (fault _ _ _)

member_in_quiet : (at : Place) (of_place : Bool) (m : Text) (k : Option ℕ) → Quiet (member_in at of_place m k)
member_in_quiet at of_place m None = (fault _ _ _)
member_in_quiet at of_place m (Some k) = asked _ _ (λ w c. member_by_quiet at of_place _)

pub member_quiet : (at : Place) (o : OperandData) (m : Text) → Quiet (member_rule at o m)
unfolding member_rule
member_quiet at o m = given_quiet o.type (λ t. member_in_quiet at o.is_place m _)

pub arrow_quiet : (at : Place) (o : OperandData) (m : Text) → Quiet (arrow_rule at o m)
unfolding arrow_rule
arrow_quiet at o m = given_quiet o.type (λ t. member_in_quiet at true m _)

scalar_quiet : (at : Place) (s : TyData) (o : OperandData) → Quiet (scalar_cast at s o)
unfolding scalar_cast
scalar_quiet at s o = given_quiet o.type (λ t. chained (typed_quiet at _) (λ x p. pure_holds _ tt))

cast_to_quiet : (at : Place) (o : OperandData) (s : TyData) → Quiet (cast_to at o s)
cast_to_quiet at o s = chosen _ (given_quiet o.type (λ t. pure_holds _ tt)) (chained (value_quiet at o) (λ x p. scalar_quiet at s x))

pub cast_quiet : (at : Place) (to : Option TyData) (o : OperandData) → Quiet (cast_rule at to o)
unfolding cast_rule
cast_quiet at to o = given_quiet to (λ s. cast_to_quiet at o s)

pub size_quiet : (at : Place) (t : Option TyData) → Quiet (size_rule at t)
unfolding size_rule
size_quiet at t = given_quiet t (λ s. asked _ _ (λ w c. asked _ _ (λ v d. chosen _ (pure_holds _ tt) (fault _ _ _))))

length_by_quiet : (at : Place) (n : Option ℕ) → Quiet (length_by at n)
length_by_quiet at None = (fault _ _ _)
length_by_quiet at (Some n) = pure_holds _ tt

pub length_quiet : (at : Place) (o : OperandData) → Quiet (length_rule at o)
unfolding length_rule
length_quiet at o = if_some o.type (pure_holds _ tt) (λ t. length_by_quiet at _)

pub within_quiet : (at : Place) (t : Option TyData) → Quiet (within_rule at t)
unfolding within_rule
within_quiet at None = pure_holds _ tt
within_quiet at (Some t) = asked _ _ (λ w c. keep_quiet _ _ _)

pub elements_quiet : (at : Place) (t : Option TyData) (stars : ℕ) (ns : List (Option ℕ)) → Quiet (elements_rule at t stars ns)
elements_quiet at None stars ns = pure_holds _ tt
elements_quiet at (Some t) stars ns = asked _ _ (λ w c. demand_quiet _ _ _)

pub complete_quiet : (at : Place) (t : Option TyData) → Quiet (complete_rule at t)
unfolding complete_rule
complete_quiet at None = pure_holds _ tt
complete_quiet at (Some t) = asked _ _ (λ w c. chosen _ (pure_holds _ tt) (fault _ _ _))
