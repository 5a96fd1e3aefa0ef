-- How expressions that lean to the left are gone through.
use Rattle.std.proofs.Common.{◌≡◌, ◌∙◌, Bool, true, false, List, [], ◌∷◌, Option, Some, None, refl, ap, subst}
use Rattle.ec_ctypes.specs.declared.tree.expr.UnOp.TheVariants.{Addr, Deref, Plus, Minus, Not, Flip}
use Rattle.ec_ctypes.specs.trees.Exprs.{ExprData, integer, character, string, identifier, unary, binary, assign, bump, call, call_other, index, member, arrow, cast, size_type, size_expr}
use Rattle.ec_resolve_forms.specs.declared.resolver.Resolver.{Resolver}
use Rattle.ec_resolve_forms.specs.Seen.{from}
use Rattle.ec_resolving_defs.specs.Expressions.{expr, args}
use Rattle.ec_resolving_defs.specs.Operands.{Found, no_expression}
use Rattle.ec_resolving_defs.specs.Storage.{Resolving, Reached, followed, chain, pure}
use Rattle.ec_typing_defs.specs.Known.{all_expressions, is_identifier}
use Rattle.ec_typing_defs.specs.Worlds.{Place}
use Rattle.ec_walk.specs.Spines.{function_left, left_of}
use Rattle.ec_resolve_expressions.specs.Behind.{behind, risen}

-- an expression is what is left of it, and then all behind that
Law : Place → ExprData → Option ExprData → Type 0
Law at e None = Unit {0}
Law at e (Some a) = (r : Resolver) → from (expr at e) r ≡ from (chain (expr at a) (behind at e)) r

law : (at : Place) (e : ExprData) → Law at e (left_of e)
unfolding Law chain
law at (integer n t) = tt
law at (character c) = tt
law at (string s) = tt
law at (identifier x) = tt
law at (unary Addr e) = λ r. refl
law at (unary Deref e) = λ r. refl
law at (unary Plus e) = λ r. refl
law at (unary Minus e) = λ r. refl
law at (unary Not e) = λ r. refl
law at (unary Flip e) = λ r. refl
law at (binary op a b) = λ r. refl
law at (assign op a b) = tt
law at (bump before up e) = λ r. refl
law at (call f es) = tt
law at (call_other f es) = by (is_identifier f) refl
  where
    by : (b : Bool) → is_identifier f ≡ b → Law at (call_other f es) (function_left b f)
    by true e = tt
    by false e = λ r. ap (λ (b : Bool). from (chain (elim b as (λ _. Resolving Found) [ true ↦ pure no_expression | false ↦ expr at f ]) (λ _. chain (args at all_expressions es) (λ _. pure no_expression))) r) e
law at (index a b) = λ r. refl
law at (member e m) = λ r. refl
law at (arrow e m) = λ r. refl
law at (cast b stars e) = tt
law at (size_type b stars) = tt
law at (size_expr e) = λ r. refl

behind-law : (at : Place) (e a : ExprData) (r : Resolver) → left_of e ≡ Some a → from (expr at e) r ≡ from (chain (expr at a) (behind at e)) r
unfolding Law
behind-law at e a r h = subst (λ (o : Option ExprData). Law at e o) h (law at e) r

-- one step down
pub down : (at : Place) (r : Resolver) {whole : Reached Found} (e a : ExprData) (es : List ExprData) → whole ≡ from (chain (expr at e) (risen at es)) r → left_of e ≡ Some a → whole ≡ from (chain (expr at a) (risen at (e ∷ es))) r
unfolding chain
down at r e a es h l = h ∙ ap (λ o. followed o (risen at es)) (behind-law at e a r l)
