-- What is found of a constant that is made of plain parts: its value, wherever it stands, and nothing is changed.
use Rattle.std.specs.Prelude.{◌≡◌, ℕ, zero, suc, true, false, pos, negsuc, ℤ, [], ◌∷◌, Option, Some, None}
use Rattle.std.proofs.Common.{◌∙◌, refl, sym}
use Rattle.std.proofs.lemmas.Bool.{true≢false}
use Rattle.ec_ctypes.specs.Arithmetic.{promoted}
use Rattle.ec_ctypes.specs.declared.types.arith.Arith.TheVariants.{Int}
use Rattle.ec_ctypes.specs.declared.tree.expr.BinOp.{BinOp}
use Rattle.ec_ctypes.specs.declared.tree.expr.UnOp.{UnOp}
use Rattle.ec_ctypes.specs.declared.tree.expr.UnOp.TheVariants.{Addr, Deref, Plus, Minus, Not, Flip}
use Rattle.ec_ctypes.specs.trees.Types.{TyData, arithmetic}
use Rattle.ec_ctypes.specs.trees.Exprs.{ExprData, integer, character, unary, binary, DimData, open_dim, dim, DimList, no_dims, dims}
use Rattle.ec_expansion_defs.specs.Declarations.{written_expr, written_dim, written_dims, last_dim}
use Rattle.ec_memory_defs.specs.Memory.{number}
use Rattle.ec_meaning_defs.specs.resolved.Resolved.{Exp, constant}
use Rattle.ec_resolving_defs.specs.Conversions.{sign_exp, integers_exp}
use Rattle.ec_resolving_defs.specs.Expressions.{expr, lengths, last_length, length_at}
use Rattle.ec_resolving_defs.specs.Operands.{Found, found, value_rule, unary_rule, binary_rule}
use Rattle.ec_resolving_defs.specs.Storage.{Storage, Reached, reached, Resolving, chain, followed, pure, ask, checks}
use Rattle.ec_host_defs.specs.sections.Lengths.{Plain, plain_integer, plain_unary, plain_binary, plain, is_length_value, is_length, ends_in_length}
use Rattle.ec_typing_defs.specs.Constants.{variable, trapping, known, unary_constant, binary_constant}
use Rattle.ec_typing_defs.specs.Types.{integer_operation}
use Rattle.ec_typing_defs.specs.Worlds.{Place, World, Out, out, Rule, chain as check_chain, followed as check_followed, pure as check_pure, ask as check_ask}
use Rattle.ec_typing_defs.specs.Operands as checked
use Rattle.ec_typing_defs.specs.Operands.{OperandData, computed, typed, sign_rule}
use Rattle.ec_typing_defs.specs.Expressions as checked_parts

-- ---- one rule and then another, of which both are known

pub then_found : {A B : Type 0} (c : Rule A) (f : A → Rule B) (w u : World) (a : A) (o : Out B)
    → c w ≡ out a [] u → f a u ≡ o → check_chain c f w ≡ o
unfolding check_chain
then_found c f w u a o p q = (λ i. check_followed (p i) f) ∙ q

pub then_reached : {A B : Type 0} (m : Resolving A) (k : A → Resolving B) (s t : Storage)
    (w u : World) (a : A) (r : Reached B)
    → m s w ≡ reached a t u → k a t u ≡ r → chain m k s w ≡ r
unfolding chain
then_reached m k s t w u a r p q = (λ i. followed (p i) k) ∙ q

-- ---- the operand of a constant

abbrev pub plain_operand : Plain → OperandData
plain_operand p = record (computed (Some (arithmetic p.0))) { constant = p.1 }

abbrev IsFound : Option Plain → Rule OperandData → Type 0
IsFound None c = Unit {0}
IsFound (Some p) c = (w : World) → c w ≡ out (plain_operand p) [] w

plain_value : (at : Place) (p : Plain) (w : World)
    → checked.value_rule at (plain_operand p) w ≡ out (plain_operand p) [] w
unfolding checked.value_rule check_chain check_ask check_pure
plain_value at p w = refl

valued : (at : Place) (c : Rule OperandData) (p : Plain) → IsFound (Some p) c
    → IsFound (Some p) (check_chain c (λ o. checked.value_rule at o))
valued at c p h w = then_found _ _ w w _ _ (h w) (plain_value at p w)

not_found : (at : Place) (p : Plain) (w : World) → checked.unary_rule at Not (plain_operand p) w
    ≡ out (plain_operand (Int, unary_constant Not p.0 p.1)) [] w
unfolding sign_rule typed check_chain check_pure
not_found at p w = refl

plus_found : (at : Place) (p : Plain) (w : World) → checked.unary_rule at Plus (plain_operand p) w
    ≡ out (plain_operand (promoted p.0, unary_constant Plus p.0 p.1)) [] w
unfolding sign_rule typed check_chain check_pure
plus_found at p w = refl

minus_found : (at : Place) (p : Plain) (w : World) → checked.unary_rule at Minus (plain_operand p) w
    ≡ out (plain_operand (promoted p.0, unary_constant Minus p.0 p.1)) [] w
unfolding sign_rule typed check_chain check_pure
minus_found at p w = refl

flip_found : (at : Place) (p : Plain) (w : World) → checked.unary_rule at Flip (plain_operand p) w
    ≡ out (plain_operand (promoted p.0, unary_constant Flip p.0 p.1)) [] w
unfolding sign_rule typed check_chain check_pure
flip_found at p w = refl

unary_plain : (at : Place) (op : UnOp) (q : Option Plain) (e : ExprData)
    → IsFound q (checked_parts.expr at e)
    → IsFound (plain_unary op q) (checked_parts.expr at (unary op e))
unary_plain at op None e h = tt
unary_plain at Addr (Some p) e h = tt
unary_plain at Deref (Some p) e h = tt
unary_plain at Not (Some p) e h =
    λ w. then_found _ _ w w _ _ (valued at _ p h w) (not_found at p w)
unary_plain at Plus (Some p) e h =
    λ w. then_found _ _ w w _ _ (valued at _ p h w) (plus_found at p w)
unary_plain at Minus (Some p) e h =
    λ w. then_found _ _ w w _ _ (valued at _ p h w) (minus_found at p w)
unary_plain at Flip (Some p) e h =
    λ w. then_found _ _ w w _ _ (valued at _ p h w) (flip_found at p w)

both_found : (at : Place) (op : BinOp) (p q : Plain) (w : World)
    → checked.binary_rule at op (plain_operand p) (plain_operand q) w
    ≡ out (plain_operand (integer_operation op p.0 q.0, binary_constant op p.0 q.0 p.1 q.1)) [] w
unfolding checked.binary_rule typed check_chain check_ask check_pure
both_found at op p q w = refl

binary_plain : (at : Place) (op : BinOp) (q r : Option Plain) (a b : ExprData)
    → IsFound q (checked_parts.expr at a) → IsFound r (checked_parts.expr at b)
    → IsFound (plain_binary op q r) (checked_parts.expr at (binary op a b))
binary_plain at op None r a b g h = tt
binary_plain at op (Some p) None a b g h = tt
binary_plain at op (Some p) (Some q) a b g h = λ w. then_found _ _ w w _ _ (valued at _ p g w)
    (then_found _ _ w w _ _ (valued at _ q h w) (both_found at op p q w))

integer_plain : (at : Place) (n : ℕ) (t : TyData)
    → IsFound (plain_integer n t) (checked_parts.expr at (integer n t))
unfolding check_pure
integer_plain at n (arithmetic a) = λ w. refl
integer_plain at n _ = tt

character_plain : (at : Place) (c : ℤ) (w : World)
    → checked_parts.expr at (character c) w ≡ out (plain_operand (Int, known c)) [] w
unfolding check_pure
character_plain at c w = refl

pub plain_found : (at : Place) (e : ExprData) → IsFound (plain e) (checked_parts.expr at e)
plain_found at (integer n t) = integer_plain at n t
plain_found at (character c) = character_plain at c
plain_found at (unary op e) = unary_plain at op (plain e) e (plain_found at e)
plain_found at (binary op a b) =
    binary_plain at op (plain a) (plain b) a b (plain_found at a) (plain_found at b)
plain_found at _ = tt

-- ---- its form

abbrev IsReached : Option Plain → Resolving Found → Type 0
IsReached None m = Unit {0}
IsReached (Some p) m = (x : Exp)
    × ((s : Storage) (w : World) → m s w ≡ reached (found (plain_operand p) x false) s w)

value_reached : (at : Place) (p : Plain) (x : Exp) (s : Storage) (w : World)
    → value_rule at (found (plain_operand p) x false) s w
    ≡ reached (found (plain_operand p) x false) s w
unfolding checked.value_rule check_chain check_ask check_pure chain checks pure
value_reached at p x s w = refl

abbrev valued_there : (at : Place) (m : Resolving Found) (p : Plain) → IsReached (Some p) m
    → IsReached (Some p) (chain m (λ f. value_rule at f))
valued_there at m p h =
    (h.0, λ s w. then_reached _ _ s s w w _ _ (h.1 s w) (value_reached at p h.0 s w))

not_reached : (at : Place) (p : Plain) (x : Exp) (s : Storage) (w : World)
    → unary_rule at Not (found (plain_operand p) x false) s w
    ≡ reached (found (plain_operand (Int, unary_constant Not p.0 p.1)) (sign_exp Not p.0 x) false) s w
unfolding sign_rule typed check_chain check_pure chain checks pure
not_reached at p x s w = refl

plus_reached : (at : Place) (p : Plain) (x : Exp) (s : Storage) (w : World)
    → unary_rule at Plus (found (plain_operand p) x false) s w
    ≡ reached (found (plain_operand (promoted p.0, unary_constant Plus p.0 p.1)) (sign_exp Plus p.0 x) false) s w
unfolding sign_rule typed check_chain check_pure chain checks pure
plus_reached at p x s w = refl

minus_reached : (at : Place) (p : Plain) (x : Exp) (s : Storage) (w : World)
    → unary_rule at Minus (found (plain_operand p) x false) s w
    ≡ reached (found (plain_operand (promoted p.0, unary_constant Minus p.0 p.1)) (sign_exp Minus p.0 x) false) s w
unfolding sign_rule typed check_chain check_pure chain checks pure
minus_reached at p x s w = refl

flip_reached : (at : Place) (p : Plain) (x : Exp) (s : Storage) (w : World)
    → unary_rule at Flip (found (plain_operand p) x false) s w
    ≡ reached (found (plain_operand (promoted p.0, unary_constant Flip p.0 p.1)) (sign_exp Flip p.0 x) false) s w
unfolding sign_rule typed check_chain check_pure chain checks pure
flip_reached at p x s w = refl

unary_reached : (at : Place) (op : UnOp) (q : Option Plain) (e : ExprData)
    → IsReached q (expr at e) → IsReached (plain_unary op q) (expr at (unary op e))
unary_reached at op None e h = tt
unary_reached at Addr (Some p) e h = tt
unary_reached at Deref (Some p) e h = tt
unary_reached at Not (Some p) e h = (
  sign_exp Not p.0 h.0,
  λ s w. then_reached _ _ s s w w _ _ ((valued_there at _ p h).1 s w) (not_reached at p h.0 s w),
)
unary_reached at Plus (Some p) e h = (
  sign_exp Plus p.0 h.0,
  λ s w. then_reached _ _ s s w w _ _ ((valued_there at _ p h).1 s w) (plus_reached at p h.0 s w),
)
unary_reached at Minus (Some p) e h = (
  sign_exp Minus p.0 h.0,
  λ s w. then_reached _ _ s s w w _ _ ((valued_there at _ p h).1 s w) (minus_reached at p h.0 s w),
)
unary_reached at Flip (Some p) e h = (
  sign_exp Flip p.0 h.0,
  λ s w. then_reached _ _ s s w w _ _ ((valued_there at _ p h).1 s w) (flip_reached at p h.0 s w),
)

both_reached : (at : Place) (op : BinOp) (p q : Plain) (x y : Exp) (s : Storage) (w : World)
    → binary_rule at op (found (plain_operand p) x false) (found (plain_operand q) y false) s w
    ≡ reached (found
    (plain_operand (integer_operation op p.0 q.0, binary_constant op p.0 q.0 p.1 q.1))
    (integers_exp op p.0 x q.0 y) false) s w
unfolding checked.binary_rule typed check_chain check_ask check_pure chain ask checks pure
both_reached at op p q x y s w = refl

binary_reached : (at : Place) (op : BinOp) (q r : Option Plain) (a b : ExprData)
    → IsReached q (expr at a) → IsReached r (expr at b)
    → IsReached (plain_binary op q r) (expr at (binary op a b))
binary_reached at op None r a b g h = tt
binary_reached at op (Some p) None a b g h = tt
binary_reached at op (Some p) (Some q) a b g h = (
  integers_exp op p.0 g.0 q.0 h.0,
  λ s w. then_reached _ _ s s w w _ _ ((valued_there at _ p g).1 s w)
      (then_reached _ _ s s w w _ _ ((valued_there at _ q h).1 s w)
      (both_reached at op p q g.0 h.0 s w)),
)

integer_reached : (at : Place) (n : ℕ) (t : TyData)
    → IsReached (plain_integer n t) (expr at (integer n t))
unfolding pure
integer_reached at n (arithmetic a) = (constant (number (pos n)), λ s w. refl)
integer_reached at n _ = tt

character_reached : (at : Place) (c : ℤ) → IsReached (Some (Int, known c)) (expr at (character c))
unfolding pure
character_reached at c = (constant (number c), λ s w. refl)

pub plain_reached : (at : Place) (e : ExprData) → IsReached (plain e) (expr at e)
plain_reached at (integer n t) = integer_reached at n t
plain_reached at (character c) = character_reached at c
plain_reached at (unary op e) = unary_reached at op (plain e) e (plain_reached at e)
plain_reached at (binary op a b) =
    binary_reached at op (plain a) (plain b) a b (plain_reached at a) (plain_reached at b)
plain_reached at _ = tt

-- ---- as it is written

pub plain_written : (n : ℕ) (e : ExprData) → plain (written_expr n e) ≡ plain e
plain_written n (integer v t) = refl
plain_written n (character c) = refl
plain_written n (unary op e) = λ i. plain_unary op (plain_written n e i)
plain_written n (binary op a b) = λ i. plain_binary op (plain_written n a i) (plain_written n b i)
plain_written n _ = refl

-- ---- lengths

-- one less than the length
abbrev pub below_length : Option Plain → ℕ
below_length (Some (a, known (pos (suc n)))) = n
below_length _ = zero

length_found : (at : Place) (q : Option Plain) (c : Rule OperandData) → IsFound q c
    → is_length_value q ≡ true → (w : World)
    → check_chain (check_chain c (λ o. checked.value_rule at o)) (λ o. checked.length_rule at o) w
    ≡ out (Some (suc (below_length q))) [] w
unfolding checked.length_rule check_pure
length_found at None c h e w = absurd (true≢false (sym e))
length_found at (Some (a, variable)) c h e w = absurd (true≢false (sym e))
length_found at (Some (a, trapping)) c h e w = absurd (true≢false (sym e))
length_found at (Some (a, known (negsuc n))) c h e w = absurd (true≢false (sym e))
length_found at (Some (a, known (pos zero))) c h e w = absurd (true≢false (sym e))
length_found at (Some (a, known (pos (suc n)))) c h e w =
    then_found _ _ w w _ _ (valued at c (a, known (pos (suc n))) h w) refl

length_reached : (at : Place) (q : Option Plain) (m : Resolving Found) → IsReached q m
    → is_length_value q ≡ true → (s : Storage) (w : World)
    → chain (chain m (λ f. value_rule at f)) (λ f. checks (checked.length_rule at f.operand)) s w
    ≡ reached (Some (suc (below_length q))) s w
unfolding checked.length_rule check_pure checks
length_reached at None m h e s w = absurd (true≢false (sym e))
length_reached at (Some (a, variable)) m h e s w = absurd (true≢false (sym e))
length_reached at (Some (a, trapping)) m h e s w = absurd (true≢false (sym e))
length_reached at (Some (a, known (negsuc n))) m h e s w = absurd (true≢false (sym e))
length_reached at (Some (a, known (pos zero))) m h e s w = absurd (true≢false (sym e))
length_reached at (Some (a, known (pos (suc n)))) m h e s w =
    then_reached _ _ s s w w _ _ ((valued_there at m (a, known (pos (suc n))) h).1 s w) refl

abbrev below_dim : DimData → ℕ
below_dim open_dim = zero
below_dim (dim e) = below_length (plain e)

dim_found : (at : Place) (d : DimData) → is_length d ≡ true → (w : World)
    → checked_parts.length_at at d w ≡ out (Some (suc (below_dim d))) [] w
dim_found at open_dim e w = absurd (true≢false (sym e))
dim_found at (dim x) e w = length_found at (plain x) _ (plain_found at x) e w

dim_reached : (at : Place) (d : DimData) → is_length d ≡ true → (s : Storage) (w : World)
    → length_at at d s w ≡ reached (Some (suc (below_dim d))) s w
dim_reached at open_dim e s w = absurd (true≢false (sym e))
dim_reached at (dim x) e s w = length_reached at (plain x) _ (plain_reached at x) e s w

dim_written : (n : ℕ) (d : DimData) → is_length (written_dim n d) ≡ is_length d
dim_written n open_dim = refl
dim_written n (dim e) = λ i. is_length_value (plain_written n e i)

below_written : (n : ℕ) (d : DimData) → below_dim (written_dim n d) ≡ below_dim d
below_written n open_dim = refl
below_written n (dim e) = λ i. below_length (plain_written n e i)

-- of the last length
abbrev pub below_last : DimList → ℕ
below_last no_dims = zero
below_last (dims d no_dims) = below_dim d
below_last (dims d (dims e ds)) = below_last (dims e ds)

pub last_found : (at : Place) (ds : DimList) → ends_in_length ds ≡ true → (w : World)
    → checked_parts.last_length at ds w ≡ out (Some (suc (below_last ds))) [] w
last_found at no_dims e w = absurd (true≢false (sym e))
last_found at (dims d no_dims) e w = dim_found at d e w
last_found at (dims d (dims x ds)) e w = last_found at (dims x ds) e w

pub last_reached : (at : Place) (ds : DimList) → ends_in_length ds ≡ true
    → (s : Storage) (w : World) → last_length at ds s w ≡ reached (Some (suc (below_last ds))) s w
last_reached at no_dims e s w = absurd (true≢false (sym e))
last_reached at (dims d no_dims) e s w = dim_reached at d e s w
last_reached at (dims d (dims x ds)) e s w = last_reached at (dims x ds) e s w

one_found : (k : Option ℕ) (w : World)
    → check_chain (check_pure []) (λ ns. check_pure (k ∷ ns)) w ≡ out (k ∷ []) [] w
unfolding check_chain check_pure
one_found k w = refl

one_reached : (k : Option ℕ) (s : Storage) (w : World)
    → chain (pure []) (λ ns. pure (k ∷ ns)) s w ≡ reached (k ∷ []) s w
unfolding chain pure
one_reached k s w = refl

-- where it is written
pub written_found : (at : Place) (n : ℕ) (ds : DimList) → ends_in_length ds ≡ true → (w : World)
    → checked_parts.lengths at (last_dim (written_dims n ds)) w
    ≡ out (Some (suc (below_last ds)) ∷ []) [] w
written_found at n no_dims e w = absurd (true≢false (sym e))
written_found at n (dims d no_dims) e w = then_found _ _ w w _ _
    (dim_found at (written_dim n d) (dim_written n d ∙ e) w
    ∙ (λ i. out (Some (suc (below_written n d i))) [] w)) (one_found _ w)
written_found at n (dims d (dims x ds)) e w = written_found at n (dims x ds) e w

pub written_reached : (at : Place) (n : ℕ) (ds : DimList) → ends_in_length ds ≡ true
    → (s : Storage) (w : World) → lengths at (last_dim (written_dims n ds)) s w
    ≡ reached (Some (suc (below_last ds)) ∷ []) s w
written_reached at n no_dims e s w = absurd (true≢false (sym e))
written_reached at n (dims d no_dims) e s w = then_reached _ _ s s w w _ _
    (dim_reached at (written_dim n d) (dim_written n d ∙ e) s w
    ∙ (λ i. reached (Some (suc (below_written n d i))) s w)) (one_reached _ s w)
written_reached at n (dims d (dims x ds)) e s w = written_reached at n (dims x ds) e s w
