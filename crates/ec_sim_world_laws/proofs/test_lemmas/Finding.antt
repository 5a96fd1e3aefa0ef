-- The same of the resolved walk.
use Rattle.std.proofs.Common.{◌≡◌, ◌∙◌, Bool, true, false, List, refl, sym, Option, Some, None}
use Rattle.ec_ctypes.specs.declared.checked.library.LibName.{LibName}
use Rattle.ec_ctypes.specs.trees.Exprs.{ExprData, integer, character, string, identifier, call, index, member, arrow, ExprList, no_exprs, exprs}
use Rattle.ec_language.specs.Letters.{Text}
use Rattle.ec_typing_defs.specs.Known.{ArgumentsData, is_no_expression}
use Rattle.ec_typing_defs.specs.Operands.{OperandData}
use Rattle.ec_typing_defs.specs.Worlds.{Place, World, Rule, entered}
use Rattle.ec_meaning_defs.specs.resolved.Resolved.{faulty}
use Rattle.ec_resolving_defs.specs.Storage.{Storage, Resolving, reached, followed, chain, pure, checks, ask, stored, arrange}
use Rattle.ec_resolving_defs.specs.Operands.{Found, as_value, over_types, value_rule, index_rule, member_rule, arrow_rule, name_rule, literal_rule, with_form, library_exp, function_called, called, call_rule, operands_of, is_library_literal}
use Rattle.ec_resolving_defs.specs.Expressions.{library_literal, expr, args}
use Rattle.ec_sim_world_laws.specs.test.Plain.{IsPlain, ArePlain}
use Rattle.ec_sim_world_laws.proofs.test_lemmas.Layouts.{inside_layout, element_same, member_same}
use Rattle.ec_sim_world_laws.proofs.test_lemmas.Looking.{Looks, valued as check_valued, plain_looks, name_looks, value_looks, index_looks, member_looks, arrow_looks, call_looks}

pub record Finds {A : Type 0} (m : Resolving A) : Type 0 where
  pub inside : (s : Storage) (w : World) → m s (entered w) ≡ reached (m s w).answer (m s w).storage (entered w)
  pub world : (s : Storage) (w : World) → (m s w).world ≡ w

pub chained : {A B : Type 0} {m : Resolving A} {f : A → Resolving B} → Finds m → ((a : A) → Finds (f a)) → Finds (chain m f)
unfolding chain
chained {m = m} {f = f} h k = record {
  inside = λ s w.
      (λ i. followed (h.inside s w i) f)
      ∙ (k (m s w).answer).inside (m s w).storage w
      ∙ (λ i. reached (f (m s w).answer (m s w).storage (sym (h.world s w) i)).answer (f (m s w).answer (m s w).storage (sym (h.world s w) i)).storage (entered w));
  world = λ s w. (k (m s w).answer).world (m s w).storage (m s w).world ∙ h.world s w;
}

pub pure_finds : {A : Type 0} (a : A) → Finds (pure a)
unfolding pure
pure_finds a = record { inside = λ s w. refl; world = λ s w. refl }

ask_finds : {A : Type 0} (g : World → A) → ((w : World) → g (entered w) ≡ g w) → Finds (ask g)
unfolding ask
ask_finds g e = record { inside = λ s w i. reached (e w i) s (entered w); world = λ s w. refl }

pub asked : {A B : Type 0} (g : World → A) (f : A → Resolving B) → ((w : World) → g (entered w) ≡ g w) → ((a : A) → Finds (f a)) → Finds (chain (ask g) f)
asked g f e k = chained (ask_finds g e) k

stored_finds : {A : Type 0} (g : Storage → A) → Finds (stored g)
unfolding stored
stored_finds g = record { inside = λ s w. refl; world = λ s w. refl }

arrange_finds : (g : Storage → Storage) → Finds (arrange g)
unfolding arrange
arrange_finds g = record { inside = λ s w. refl; world = λ s w. refl }

checks_find : {A : Type 0} (m : Rule A) → Looks m → Finds (checks m)
unfolding checks
checks_find m h = record { inside = λ s w i. reached (h.inside w i).answer s (h.inside w i).world; world = λ s w. h.world w }

chosen : {A : Type 0} (b : Bool) {x y : Resolving A} → Finds x → Finds y → Finds (elim b [ true ↦ x | false ↦ y ])
chosen true h k = h
chosen false h k = k

-- ---- operands

form_finds : (f : OperandData → Found) (m : Rule OperandData) → Looks m → Finds (with_form f m)
form_finds f m h = chained (checks_find m h) (λ o. pure_finds _)

name_finds : (at : Place) (name : Text) → Finds (name_rule at name)
name_finds at name = asked _ _ (λ w. refl) (λ entry. chained (stored_finds _) (λ sites. chained (checks_find _ (name_looks at name)) (λ o. pure_finds _)))

literal_finds : (text : Text) → Finds (literal_rule text)
literal_finds text = chained (stored_finds _) (λ e. chained (arrange_finds _) (λ u. pure_finds _))

value_finds : (at : Place) (f : Found) → Finds (value_rule at f)
value_finds at f = form_finds _ _ (value_looks at f.operand)

valued : (at : Place) {m : Resolving Found} → Finds m → Finds (chain m (value_rule at))
valued at h = chained h (λ f. value_finds at f)

index_finds : (at : Place) (a b : Found) → Finds (index_rule at a b)
index_finds at a b =
    asked _ _ (λ w i. over_types a.operand.type b.operand.type (λ s t. element_same (inside_layout w) s a.exp t b.exp i)) (λ e. form_finds _ _ (index_looks at a.operand b.operand))

member_finds : (at : Place) (f : Found) (m : Text) → Finds (member_rule at f m)
member_finds at f m = asked _ _ (λ w. member_same (inside_layout w) _ m f.exp) (λ e. form_finds _ _ (member_looks at f.operand m))

arrow_finds : (at : Place) (f : Found) (m : Text) → Finds (arrow_rule at f m)
arrow_finds at f m = asked _ _ (λ w. member_same (inside_layout w) _ m f.exp) (λ e. form_finds _ _ (arrow_looks at f.operand m))

-- ---- calls

named_call_finds : (name : Text) (es : ExprList) (fs : List Found) (of_library : Option LibName)
    → Finds (elim of_library [ Some call_name ↦ library_exp call_name es fs | None ↦ function_called name es fs ])
named_call_finds name es fs (Some call_name) = chained (stored_finds _) (λ n. chained (arrange_finds _) (λ u. pure_finds _))
named_call_finds name es fs None = chained (stored_finds _) (λ defined. ask_finds _ (λ w. refl))

called_finds : (name : Text) (es : ExprList) (fs : List Found) → Finds (called name es fs)
called_finds name es fs = asked _ _ (λ w. refl) (λ of_library. named_call_finds name es fs of_library)

call_finds : (at : Place) (name : Text) (es : ExprList) (fs : List Found) → Finds (call_rule at name es fs)
call_finds at name es fs = chained (called_finds name es fs) (λ e. form_finds _ _ (call_looks at name es (operands_of fs)))

-- ---- plain expressions, and calls with such arguments

library_literal_finds : (at : Place) (e : ExprData) → IsPlain e → Finds (library_literal at e)
unfolding library_literal
library_literal_finds at e p = form_finds (as_value faulty) _ (check_valued at (plain_looks at e p))

plain_finds : (at : Place) (e : ExprData) → IsPlain e → Finds (expr at e)
plain_finds at (integer n t) p = pure_finds _
plain_finds at (character c) p = pure_finds _
plain_finds at (string s) p = literal_finds s
plain_finds at (identifier x) p = name_finds at x
plain_finds at (index a b) p = chained (valued at (plain_finds at a p.0)) (λ x. chained (valued at (plain_finds at b p.1)) (λ y. index_finds at x y))
plain_finds at (member e m) p = chained (plain_finds at e p) (λ o. member_finds at o m)
plain_finds at (arrow e m) p = chained (valued at (plain_finds at e p)) (λ o. arrow_finds at o m)
plain_finds at _ p = absurd p

plain_args_find : (at : Place) (forms : ArgumentsData) (es : ExprList) → ArePlain es → Finds (args at forms es)
plain_args_find at forms no_exprs p = pure_finds _
plain_args_find at forms (exprs e es) p =
    chained (chosen (is_no_expression forms e) (pure_finds _) (chosen (is_library_literal forms e) (library_literal_finds at e p.0) (valued at (plain_finds at e p.0)))) (λ f. chained (plain_args_find at _ es p.1) (λ fs. pure_finds _))

pub call_alone_finds : (at : Place) (f : Text) (es : ExprList) → ArePlain es → Finds (expr at (call f es))
call_alone_finds at f es p = asked _ _ (λ w. refl) (λ forms. chained (plain_args_find at forms es p) (λ fs. call_finds at f es fs))
