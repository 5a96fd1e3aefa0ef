-- Rules of the checks that declare nothing: what they find in an inner scope is what they find outside of it, and what is known stays as it is.
use Rattle.std.proofs.Common.{◌≡◌, ◌∙◌, ℕ, Bool, true, false, List, ◌++◌, [], map, refl, sym, Option, Some, None, if◌then◌else◌}
use Rattle.std.specs.Prelude.{codes, pos, is_some}
use Rattle.ec_base.specs.declared.fault.FaultKind.{FaultKind}
use Rattle.ec_base.specs.declared.fault.FaultKind.TheVariants.{F11, F14}
use Rattle.ec_ctypes.specs.declared.checked.library.LibName.{LibName}
use Rattle.ec_ctypes.specs.trees.Types.{TyData, structure}
use Rattle.ec_ctypes.specs.trees.Exprs.{ExprData, integer, character, string, identifier, call, index, member, arrow, ExprList, no_exprs, exprs}
use Rattle.ec_language.specs.Letters.{Text, same_text}
use Rattle.ec_typing_defs.specs.Known.{ArgumentsData, is_no_expression, KnownData, plain, formatted, known_function}
use Rattle.ec_typing_defs.specs.Operands.{OperandData, computed, unknown, object_operand, null_operand, integer_operand, given, predefined, named_by, name_rule, value_rule, element_by, index_rule, arguments_rule, format_rule, known_rule, library_rule, undeclared_call, call_by, call_rule, member_by, member_in, member_rule, arrow_rule}
use Rattle.ec_typing_defs.specs.Types.{int_type, element_type}
use Rattle.ec_typing_defs.specs.Worlds.{Place, EntryData, object, function, World, Rule, out, followed, chain, pure, ask, note, demand, entered}
use Rattle.ec_typing_defs.specs.Expressions.{expr, args}
use Rattle.ec_sim_world_laws.specs.test.Plain.{IsPlain, ArePlain}
use Rattle.ec_sim_world_laws.proofs.test_lemmas.Layouts.{inside_layout, complete_same}

pub record Looks {A : Type 0} (m : Rule A) : Type 0 where
  pub inside : (w : World) → m (entered w) ≡ out (m w).answer (m w).found (entered w)
  pub world : (w : World) → (m w).world ≡ w

pub chained : {A B : Type 0} {m : Rule A} {f : A → Rule B} → Looks m → ((a : A) → Looks (f a)) → Looks (chain m f)
unfolding chain
chained {m = m} {f = f} h k = record {
  inside = λ w.
      (λ i. followed (h.inside w i) f)
      ∙ (λ i. out ((k (m w).answer).inside w i).answer ((m w).found ++ ((k (m w).answer).inside w i).found) ((k (m w).answer).inside w i).world)
      ∙ (λ i. out (f (m w).answer (sym (h.world w) i)).answer ((m w).found ++ (f (m w).answer (sym (h.world w) i)).found) (entered w));
  world = λ w. (k (m w).answer).world (m w).world ∙ h.world w;
}

pub pure_looks : {A : Type 0} (a : A) → Looks (pure a)
unfolding pure
pure_looks a = record { inside = λ w. refl; world = λ w. refl }

ask_looks : {A : Type 0} (g : World → A) → ((w : World) → g (entered w) ≡ g w) → Looks (ask g)
unfolding ask
ask_looks g e = record { inside = λ w i. out (e w i) [] (entered w); world = λ w. refl }

pub asked : {A B : Type 0} (g : World → A) (f : A → Rule B) → ((w : World) → g (entered w) ≡ g w) → ((a : A) → Looks (f a)) → Looks (chain (ask g) f)
asked g f e k = chained (ask_looks g e) k

note_looks : (at : Place) (kind : FaultKind) → Looks (note at kind)
unfolding note
note_looks at kind = record { inside = λ w. refl; world = λ w. refl }

fault : {A : Type 0} (at : Place) (kind : FaultKind) (a : A) → Looks (chain (note at kind) (λ u. pure a))
fault at kind a = chained (note_looks at kind) (λ u. pure_looks a)

demand_looks : (at : Place) (kind : FaultKind) (b : Bool) → Looks (demand at kind b)
unfolding demand
demand_looks at kind true = pure_looks tt
demand_looks at kind false = note_looks at kind

chosen : {A : Type 0} (b : Bool) {x y : Rule A} → Looks x → Looks y → Looks (elim b [ true ↦ x | false ↦ y ])
chosen true h k = h
chosen false h k = k

decided : {A : Type 0} (b : Bool) {x y : Rule A} → Looks x → Looks y → Looks (if b then x else y)
decided true h k = h
decided false h k = k

-- ---- operands

given_looks : (t : Option TyData) {f : TyData → Rule OperandData} → ((s : TyData) → Looks (f s)) → Looks (given t f)
given_looks None k = pure_looks _
given_looks (Some t) k = k t

predefined_looks : (at : Place) (name : Text) → Looks (predefined at name)
predefined_looks at name =
    decided (same_text name (codes "sqlca")) (pure_looks (object_operand true (Some (structure 1))))
    (decided (same_text name (codes "NULL")) (pure_looks null_operand)
    (decided (same_text name (codes "true")) (pure_looks (integer_operand int_type (pos 1)))
    (decided (same_text name (codes "false")) (pure_looks (integer_operand int_type (pos 0)))
    (decided (is_some (known_function name)) (fault at F14 unknown) (fault at F11 unknown)))))

named_looks : (at : Place) (name : Text) (e : Option EntryData) → Looks (named_by at name e)
unfolding named_by
named_looks at name (Some (object k global t)) = pure_looks _
named_looks at name (Some (function k done r ps)) = fault _ _ _
named_looks at name None = predefined_looks at name

pub name_looks : (at : Place) (name : Text) → Looks (name_rule at name)
unfolding name_rule
name_looks at name = asked _ _ (λ w. refl) (λ entry. named_looks at name entry)

pub value_looks : (at : Place) (o : OperandData) → Looks (value_rule at o)
unfolding value_rule
value_looks at o = given_looks o.type (λ t. asked _ _ (λ w. complete_same (inside_layout w) t) (λ complete. chosen _ (fault _ _ _) (pure_looks _)))

element_looks : (at : Place) (t : Option TyData) → Looks (element_by at t)
element_looks at (Some t) = pure_looks _
element_looks at None = fault _ _ _

pub index_looks : (at : Place) (a b : OperandData) → Looks (index_rule at a b)
unfolding index_rule
index_looks at a b = given_looks a.type (λ s. given_looks b.type (λ t. asked _ _ (λ w i. element_type (λ u. complete_same (inside_layout w) u i) s t) (λ ty. element_looks at ty)))

arguments_looks : (at : Place) (ps : Option (List (Option TyData))) (os : List OperandData) → Looks (arguments_rule at ps os)
arguments_looks at None os = pure_looks _
arguments_looks at (Some ps) os = chained (demand_looks _ _ _) (λ x. demand_looks _ _ _)

format_looks : (at : Place) (n : ℕ) (name : Text) (es : ExprList) (os : List OperandData) → Looks (format_rule at n name es os)
format_looks at n name es os = chosen _ (chained (demand_looks _ _ _) (λ x. chained (demand_looks _ _ _) (λ y. pure_looks _))) (fault _ _ _)

known_looks : (at : Place) (name : Text) (es : ExprList) (os : List OperandData) (k : Option KnownData) → Looks (known_rule at name es os k)
known_looks at name es os None = fault _ _ _
known_looks at name es os (Some (plain r ps)) = chained (arguments_looks at (Some (map Some ps)) os) (λ x. pure_looks (computed (Some r)))
known_looks at name es os (Some (formatted n)) = format_looks at n name es os

library_looks : (at : Place) (name : LibName) (es : ExprList) (os : List OperandData) → Looks (library_rule at name es os)
library_looks at name es os = chosen _ (pure_looks _) (fault _ _ _)

undeclared_looks : (at : Place) (name : Text) (es : ExprList) (os : List OperandData) (of_library : Option LibName) → Looks (undeclared_call at name es os of_library)
undeclared_looks at name es os (Some l) = library_looks at l es os
undeclared_looks at name es os None = known_looks at name es os (known_function name)

call_by_looks : (at : Place) (name : Text) (es : ExprList) (os : List OperandData) (e : Option EntryData) → Looks (call_by at name es os e)
unfolding call_by
call_by_looks at name es os (Some (object k global t)) = fault _ _ _
call_by_looks at name es os (Some (function k done r ps)) = asked _ _ (λ w. refl) (λ defined. chained (demand_looks _ _ _) (λ x. chained (arguments_looks at ps os) (λ y. pure_looks _)))
call_by_looks at name es os None = asked _ _ (λ w. refl) (λ of_library. undeclared_looks at name es os of_library)

pub call_looks : (at : Place) (name : Text) (es : ExprList) (os : List OperandData) → Looks (call_rule at name es os)
unfolding call_rule
call_looks at name es os = asked _ _ (λ w. refl) (λ entry. call_by_looks at name es os entry)

member_by_looks : (at : Place) (of_place : Bool) (t : Option (Option TyData)) → Looks (member_by at of_place t)
member_by_looks at of_place (Some t) = pure_looks _
member_by_looks at of_place None = fault _ _ _

member_in_looks : (at : Place) (of_place : Bool) (m : Text) (k : Option ℕ) → Looks (member_in at of_place m k)
member_in_looks at of_place m None = fault _ _ _
member_in_looks at of_place m (Some k) = asked _ _ (λ w. refl) (λ found. member_by_looks at of_place found)

pub member_looks : (at : Place) (o : OperandData) (m : Text) → Looks (member_rule at o m)
unfolding member_rule
member_looks at o m = given_looks o.type (λ t. member_in_looks at o.is_place m _)

pub arrow_looks : (at : Place) (o : OperandData) (m : Text) → Looks (arrow_rule at o m)
unfolding arrow_rule
arrow_looks at o m = given_looks o.type (λ t. member_in_looks at true m _)

-- ---- plain expressions, and calls with such arguments

pub valued : (at : Place) {m : Rule OperandData} → Looks m → Looks (chain m (value_rule at))
valued at h = chained h (λ o. value_looks at o)

pub plain_looks : (at : Place) (e : ExprData) → IsPlain e → Looks (expr at e)
plain_looks at (integer n t) p = pure_looks _
plain_looks at (character c) p = pure_looks _
plain_looks at (string s) p = pure_looks _
plain_looks at (identifier x) p = name_looks at x
plain_looks at (index a b) p = chained (valued at (plain_looks at a p.0)) (λ x. chained (valued at (plain_looks at b p.1)) (λ y. index_looks at x y))
plain_looks at (member e m) p = chained (plain_looks at e p) (λ o. member_looks at o m)
plain_looks at (arrow e m) p = chained (valued at (plain_looks at e p)) (λ o. arrow_looks at o m)
plain_looks at _ p = absurd p

pub plain_args_look : (at : Place) (forms : ArgumentsData) (es : ExprList) → ArePlain es → Looks (args at forms es)
plain_args_look at forms no_exprs p = pure_looks _
plain_args_look at forms (exprs e es) p =
    chained (chosen (is_no_expression forms e) (pure_looks _) (valued at (plain_looks at e p.0))) (λ o. chained (plain_args_look at _ es p.1) (λ os. pure_looks _))

pub call_alone_looks : (at : Place) (f : Text) (es : ExprList) → ArePlain es → Looks (expr at (call f es))
call_alone_looks at f es p = asked _ _ (λ w. refl) (λ forms. chained (plain_args_look at forms es p) (λ os. call_looks at f es os))
