-- Levels of nesting.
use Rattle.std.proofs.Common.{◌≡◌, ℕ, suc, ◌-◌, ◌<◌, length, Err, refl, ap, ◌∙◌, arith}
use Rattle.ec_language.specs.Syntax.{limits}
use Rattle.ec_grammar.specs.Input.{State, kind_at, level_failure}
use Rattle.ec_cursor.specs.declared.parts.Subexpression.{Subexpression}
use Rattle.ec_cursor.specs.declared.parts.Subexpression.TheVariants as sub
use Rattle.ec_cursor.specs.Branches.{subexpression_at, begins_subexpression}
use Rattle.ec_cursor.specs.Parts.{subexpression_of}
use Rattle.ec_grammar.specs.ReadDeclarations.{nested, length_part, type_in_parentheses, members, initializer_list, parameter_part, for_head}
use Rattle.ec_language.specs.Productions.{or_rank}
use Rattle.ec_grammar.specs.ReadExpressions.{assignment, operators, argument_part}

-- Where a level is left, one less is left inside.
pub inside : {X : Type 0} (f : ℕ → X) (n : ℕ) → 0 < n → f n ≡ f (suc (n - 1))
inside f n some = let e : n ≡ suc (n - 1) = omega arith in ap f e

pub nested_assignment : (n : ℕ) (i : State) → 0 < n → (nested limits n).assignment i ≡ assignment limits (nested limits (n - 1)) i
unfolding nested
nested_assignment n i some = inside (λ m. (nested limits m).assignment i) n some

pub nested_arguments : (n : ℕ) (i : State) → 0 < n → (nested limits n).argument_part i ≡ argument_part limits (nested limits (n - 1)) i
unfolding nested
nested_arguments n i some = inside (λ m. (nested limits m).argument_part i) n some

-- ---- a part of an expression

first_part : (p : Subexpression) (i : State) → subexpression_of p (nested limits 0) i ≡ Err (level_failure (begins_subexpression p (kind_at i.tokens)) (length i.tokens))
unfolding nested
first_part sub.Assignment i = refl
first_part sub.Operators i = refl
first_part sub.Cast i = refl
first_part sub.Unary i = refl
first_part sub.SizeOperand i = refl
first_part sub.Parenthesized i = refl
first_part sub.Index i = refl

next_part : (n : ℕ) (p : Subexpression) (i : State) → subexpression_of p (nested limits (suc n)) i ≡ subexpression_at limits (nested limits n) p i
unfolding nested
next_part n sub.Assignment i = refl
next_part n sub.Operators i = refl
next_part n sub.Cast i = refl
next_part n sub.Unary i = refl
next_part n sub.SizeOperand i = refl
next_part n sub.Parenthesized i = refl
next_part n sub.Index i = refl

pub no_part : (n : ℕ) (p : Subexpression) (i : State) → n ≡ 0 → subexpression_of p (nested limits n) i ≡ Err (level_failure (begins_subexpression p (kind_at i.tokens)) (length i.tokens))
no_part n p i none = ap (λ m. subexpression_of p (nested limits m) i) none ∙ first_part p i

pub part_inside : (n : ℕ) (p : Subexpression) (i : State) → 0 < n → subexpression_of p (nested limits n) i ≡ subexpression_at limits (nested limits (n - 1)) p i
part_inside n p i some = inside (λ m. subexpression_of p (nested limits m) i) n some ∙ next_part (n - 1) p i

-- ---- what else nests

pub operators_deeper : (n : ℕ) → 0 < n → (nested limits n).operators ≡ operators limits (nested limits (n - 1)) or_rank
unfolding nested
operators_deeper n some = inside (λ m. (nested limits m).operators) n some

pub length_deeper : (n : ℕ) → 0 < n → (nested limits n).length_part ≡ length_part limits (nested limits (n - 1))
unfolding nested
length_deeper n some = inside (λ m. (nested limits m).length_part) n some

pub type_deeper : (n : ℕ) → 0 < n → (nested limits n).type_in_parentheses ≡ type_in_parentheses limits (nested limits (n - 1))
unfolding nested
type_deeper n some = inside (λ m. (nested limits m).type_in_parentheses) n some

pub members_deeper : (n : ℕ) → 0 < n → (nested limits n).members ≡ members limits (nested limits (n - 1))
unfolding nested
members_deeper n some = inside (λ m. (nested limits m).members) n some

pub initializers_deeper : (n : ℕ) → 0 < n → (nested limits n).initializer_list ≡ initializer_list limits (nested limits (n - 1))
unfolding nested
initializers_deeper n some = inside (λ m. (nested limits m).initializer_list) n some

pub parameters_deeper : (n : ℕ) → 0 < n → (nested limits n).parameter_part ≡ parameter_part limits (nested limits (n - 1))
unfolding nested
parameters_deeper n some = inside (λ m. (nested limits m).parameter_part) n some

pub for_deeper : (n : ℕ) → 0 < n → (nested limits n).for_head ≡ for_head limits (nested limits (n - 1))
unfolding nested
for_deeper n some = inside (λ m. (nested limits m).for_head) n some
