-- How expressions that lean to the left are gone through.
use Rattle.std.proofs.Common.{◌≡◌, ◌∙◌, ℕ, zero, suc, Bool, true, false, List, [], ◌∷◌, ◌++◌, map, reverse, Option, Some, None, Bor, refl, sym, ap, subst, append_assoc, ◌<◌, arith}
use Rattle.std.proofs.lemmas.List.{map-append, reverse-append}
use Rattle.ec_base.specs.declared.fault.FaultKind.TheVariants.{F16}
use Rattle.ec_ctypes.specs.declared.tree.expr.Expr.{Expr}
use Rattle.ec_ctypes.specs.declared.tree.expr.UnOp.TheVariants.{Addr, Deref, Plus, Minus, Not, Flip}
use Rattle.ec_ctypes.specs.trees.Exprs.{ExprData, integer, character, string, identifier, unary, binary, assign, bump, call, call_other, index, member, arrow, cast, size_type, size_expr}
use Rattle.ec_ctypes.specs.views.Exprs.{expr_view}
use Rattle.ec_language.specs.First.{Violation}
use Rattle.ec_typing_defs.specs.Known.{all_expressions, is_identifier}
use Rattle.ec_typing_defs.specs.Worlds.{Place, World, Out, followed, Rule, chain, pure, note}
use Rattle.ec_typing_defs.specs.Operands.{OperandData, unknown, value_rule, unary_rule, binary_rule, index_rule, arrow_rule}
use Rattle.ec_typing_defs.specs.Expressions.{expr, args}
use Rattle.ec_walk.specs.Spines.{function_left, left_of, behind, risen}

pub chain-assoc : {A B C : Type 0} (m : Rule A) (f : A → Rule B) (g : B → Rule C) (w : World) → chain (chain m f) g w ≡ chain m (λ a. chain (f a) g) w
unfolding chain
chain-assoc m f g w =
    let a = (m w).answer in
    let v = (m w).world in
    let b = (f a v).answer in
    let u = (f a v).world in
    λ i. record { answer = (g b u).answer; found = append_assoc (m w).found (f a v).found (g b u).found i; world = (g b u).world }

pub nil-right : {A : Type 0} (xs : List A) → xs ++ [] ≡ xs
nil-right [] = refl
nil-right (x ∷ xs) = ap (λ l. x ∷ l) (nil-right xs)

pub chain-pure : {A : Type 0} (m : Rule A) (w : World) → chain m (λ a. pure a) w ≡ m w
unfolding chain pure
chain-pure m w = λ i. record { answer = (m w).answer; found = nil-right (m w).found i; world = (m w).world }

-- an expression is what is left of it, and then all behind that
Law : Place → ExprData → Option ExprData → Type 0
Law at e None = Unit {0}
Law at e (Some a) = (w : World) → expr at e w ≡ chain (expr at a) (behind at e) w

law : (at : Place) (e : ExprData) → Law at e (left_of e)
unfolding Law
law at (integer n t) = tt
law at (character c) = tt
law at (string s) = tt
law at (identifier x) = tt
law at (unary Addr e) = λ w. refl
law at (unary Deref e) = λ w. chain-assoc (expr at e) (value_rule at) (unary_rule at Deref) w
law at (unary Plus e) = λ w. chain-assoc (expr at e) (value_rule at) (unary_rule at Plus) w
law at (unary Minus e) = λ w. chain-assoc (expr at e) (value_rule at) (unary_rule at Minus) w
law at (unary Not e) = λ w. chain-assoc (expr at e) (value_rule at) (unary_rule at Not) w
law at (unary Flip e) = λ w. chain-assoc (expr at e) (value_rule at) (unary_rule at Flip) w
law at (binary op a b) = λ w. chain-assoc (expr at a) (value_rule at) (λ x. chain (chain (expr at b) (value_rule at)) (λ y. binary_rule at op x y)) w
law at (assign op a b) = tt
law at (bump before up e) = λ w. refl
law at (call f es) = tt
law at (call_other f es) = by (is_identifier f) refl
  where
    by : (b : Bool) → is_identifier f ≡ b → Law at (call_other f es) (function_left b f)
    by true e = tt
    by false e = λ w. ap (λ (b : Bool). chain (elim b as (λ _. Rule OperandData) [ true ↦ pure unknown | false ↦ expr at f ]) (λ _. chain (args at all_expressions es) (λ _. chain (note at F16) (λ _. pure unknown))) w) e
law at (index a b) = λ w. chain-assoc (expr at a) (value_rule at) (λ x. chain (chain (expr at b) (value_rule at)) (λ y. index_rule at x y)) w
law at (member e m) = λ w. refl
law at (arrow e m) = λ w. chain-assoc (expr at e) (value_rule at) (λ x. arrow_rule at x m) w
law at (cast b stars e) = tt
law at (size_type b stars) = tt
law at (size_expr e) = λ w. refl

behind-law : (at : Place) (e a : ExprData) (w : World) → left_of e ≡ Some a → expr at e w ≡ chain (expr at a) (behind at e) w
unfolding Law
behind-law at e a w h = subst (λ (o : Option ExprData). Law at e o) h (law at e) w

-- one step down
pub down : (at : Place) (w : World) {whole : Out OperandData} (e a : ExprData) (es : List ExprData) → whole ≡ chain (expr at e) (risen at es) w → left_of e ≡ Some a → whole ≡ chain (expr at a) (risen at (e ∷ es)) w
unfolding chain
down at w e a es h l = h ∙ ap (λ o. followed o (risen at es)) (behind-law at e a w l) ∙ chain-assoc (expr at a) (behind at e) (risen at es) w

-- the expressions that are kept, of which the last is the innermost
abbrev pub spine_view : List (Bor Expr) → List ExprData
spine_view es = reverse (map (λ e. expr_view e.now) es)

pub spine-push : (es : List (Bor Expr)) (e : Bor Expr) → spine_view (es ++ (e ∷ [])) ≡ expr_view e.now ∷ spine_view es
spine-push es e = ap reverse (map-append (λ e. expr_view e.now) es (e ∷ [])) ∙ reverse-append (map (λ e. expr_view e.now) es) (expr_view e.now ∷ [])

-- how far an expression leans to the left
abbrev pub leaning : ExprData → ℕ
leaning (unary op e) = suc (leaning e)
leaning (binary op a b) = suc (leaning a)
leaning (bump before up e) = suc (leaning e)
leaning (call_other f es) = suc (leaning f)
leaning (index a b) = suc (leaning a)
leaning (member e m) = suc (leaning e)
leaning (arrow e m) = suc (leaning e)
leaning (size_expr e) = suc (leaning e)
leaning _ = 0

IsLess : ExprData → Option ExprData → Type 0
IsLess e None = Unit {0}
IsLess e (Some a) = leaning a < leaning e

less : (e : ExprData) → IsLess e (left_of e)
unfolding IsLess
less (integer n t) = tt
less (character c) = tt
less (string s) = tt
less (identifier x) = tt
less (unary op e) = omega arith
less (binary op a b) = omega arith
less (assign op a b) = tt
less (bump before up e) = omega arith
less (call f es) = tt
less (call_other f es) = by (is_identifier f)
  where
    by : (b : Bool) → IsLess (call_other f es) (function_left b f)
    by true = tt
    by false = omega arith
less (index a b) = omega arith
less (member e m) = omega arith
less (arrow e m) = omega arith
less (cast b stars e) = tt
less (size_type b stars) = tt
less (size_expr e) = omega arith

pub leans : (e a : ExprData) → Some a ≡ left_of e → leaning a < leaning e
unfolding IsLess
leans e a h = subst (λ (o : Option ExprData). IsLess e o) (sym h) (less e)
