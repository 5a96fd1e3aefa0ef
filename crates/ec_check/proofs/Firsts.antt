-- What is kept of violations is the first of them.
use Rattle.std.proofs.Common.{◌≡◌, ◌∙◌, ℕ, ◌||◌, ◌&&◌, ◌==◌, nat_lt, Bool, true, false, cond, List, [], ◌∷◌, Option, Some, None, refl, sym, ap, arith}
use Rattle.std.proofs.lemmas.Bool.Decides.{nat_tests}
use Rattle.ec_language.specs.First.{Violation, rank, comes_before, earlier, first_of}
use Rattle.ec_scopes.specs.Seen.{noted}

lex_not : (a b c x y z : ℕ) → (nat_lt a b || (a == b && nat_lt x y)) ≡ false → (nat_lt b c || (b == c && nat_lt y z)) ≡ false → (nat_lt a c || (a == c && nat_lt x z)) ≡ false
lex_not a b c x y z p q = grind (arith, nat_tests)

lex_then : (a b c x y z : ℕ) → (nat_lt a b || (a == b && nat_lt x y)) ≡ true → (nat_lt b c || (b == c && nat_lt y z)) ≡ true → (nat_lt a c || (a == c && nat_lt x z)) ≡ true
lex_then a b c x y z p q = grind (arith, nat_tests)

none_before : (x v w : Violation) → comes_before x v ≡ false → comes_before v w ≡ false → comes_before x w ≡ false
none_before x v w p q = lex_not x.place v.place w.place (rank x.stop) (rank v.stop) (rank w.stop) p q

all_before : (x v w : Violation) → comes_before x v ≡ true → comes_before v w ≡ true → comes_before x w ≡ true
all_before x v w p q = lex_then x.place v.place w.place (rank x.stop) (rank v.stop) (rank w.stop) p q

is_earlier : (w x : Violation) → comes_before x w ≡ true → Some x ≡ earlier w (Some x)
is_earlier w x e = sym (ap (λ (b : Bool). cond b (Some x) (Some w)) e)

is_later : (w x : Violation) → comes_before x w ≡ false → Some w ≡ earlier w (Some x)
is_later w x e = sym (ap (λ (b : Bool). cond b (Some x) (Some w)) e)

joined_true : (v w : Violation) → comes_before v w ≡ true → (f : Option Violation) → earlier v f ≡ earlier w (earlier v f)
joined_true v w e None = is_earlier w v e
joined_true v w e (Some x) = by (comes_before x v) refl
  where
    by : (b : Bool) → comes_before x v ≡ b → cond b (Some x) (Some v) ≡ earlier w (cond b (Some x) (Some v))
    by true p = is_earlier w x (all_before x v w p e)
    by false p = is_earlier w v e

joined_false : (v w : Violation) → comes_before v w ≡ false → (f : Option Violation) → earlier w f ≡ earlier w (earlier v f)
joined_false v w e None = is_later w v e
joined_false v w e (Some x) = by (comes_before x v) refl
  where
    by : (b : Bool) → comes_before x v ≡ b → earlier w (Some x) ≡ earlier w (cond b (Some x) (Some v))
    by true p = refl
    by false p = sym (is_later w x (none_before x v w p e)) ∙ is_later w v e

noted_some : (vs : List Violation) (w : Violation) → noted vs (Some w) ≡ earlier w (first_of vs)
noted_some [] w = refl
noted_some (v ∷ vs) w = by (comes_before v w) refl (λ u. noted_some vs u)
  where
    by : (b : Bool) → comes_before v w ≡ b → ((u : Violation) → noted vs (Some u) ≡ earlier u (first_of vs)) → noted vs (cond b (Some v) (Some w)) ≡ earlier w (earlier v (first_of vs))
    by true e ih = ih v ∙ joined_true v w e (first_of vs)
    by false e ih = ih w ∙ joined_false v w e (first_of vs)

pub noted_first : (vs : List Violation) → noted vs None ≡ first_of vs
noted_first [] = refl
noted_first (v ∷ vs) = noted_some vs v
