-- Tests that are both, values that aren't there, and forms in which no call of the library is.
use Rattle.std.proofs.Common.{◌≡◌, ◌⊎◌, inl, inr, ℕ, Bool, true, false, ◌&&◌, ◌||◌, List, [], ◌∷◌, replicate, Option, Some, None, refl, sym, slice_get}
use Rattle.std.proofs.lemmas.Bool.{false≢true}
use Rattle.ec_meaning_defs.specs.resolved.Resolved.{Exp, object, slot, member, constant, load, whole, store, copy, put, update, convert, negate, flip, not, operate, both, either, choice, call, known, library_call, faulty, Exps, no_exps, exps}
use Rattle.ec_meaning_defs.specs.resolved.Operations.{Operation}
use Rattle.ec_sound_defs.specs.Sorts.{Sort, known_takes, any_sort, address_sort, left_of, right_of}
use Rattle.ec_sound_defs.specs.Sound.{Signature, Atoms, Has, HasEach, Called, IsComparison, count_of, no_atoms}

pub clash : {C : Type 0} → false ≡ true → C
clash e = absurd (false≢true e)

pub none_not : {A C : Type 0} {a : A} → None ≡ Some a → C
none_not e = absurd (cc)

pub both_false : (a b : Bool) → a ≡ false → b ≡ false → (a || b) ≡ false
both_false true b e f = clash (sym e)
both_false false b e f = f

pub left : (a b : Bool) → (a && b) ≡ true → a ≡ true
left true b e = refl
left false b e = clash e

pub right : (a b : Bool) → (a && b) ≡ true → b ≡ true
right true b e = e
right false b e = clash e

-- ---- what serves without calls of the library serves with them

module _ (gs : List Signature) (atoms : Atoms) (n : ℕ) where
  called_so : (g : Option Signature) (used : Bool) (m : ℕ) (k : Sort) → Called gs no_atoms g used m k → Called gs atoms g used m k
  called_so None used m k c = c
  called_so (Some g) used m k c = c

  two_ways : (op : Operation) (a b : Exp) → ((Has gs no_atoms n (left_of op) a × Has gs no_atoms n (right_of op) b) ⊎ (IsComparison op × Has gs no_atoms n address_sort a × Has gs no_atoms n address_sort b))
      → ((j : Sort) → Has gs no_atoms n j a → Has gs atoms n j a) → ((j : Sort) → Has gs no_atoms n j b → Has gs atoms n j b)
      → ((Has gs atoms n (left_of op) a × Has gs atoms n (right_of op) b) ⊎ (IsComparison op × Has gs atoms n address_sort a × Has gs atoms n address_sort b))
  two_ways op a b (inl h) f g = inl (f (left_of op) h.0, g (right_of op) h.1)
  two_ways op a b (inr h) f g = inr (h.0, f address_sort h.1, g address_sort h.2)

  mutual
    pub with_atoms : (e : Exp) (k : Sort) → Has gs no_atoms n k e → Has gs atoms n k e
    with_atoms (object i) k h = h
    with_atoms (slot i) k h = h
    with_atoms (member offset e) k h = (h.0, with_atoms e address_sort h.1)
    with_atoms (constant v) k h = h
    with_atoms (load kind e) k h = (h.0, with_atoms e address_sort h.1)
    with_atoms (whole size e) k h = (h.0, with_atoms e address_sort h.1)
    with_atoms (store kind e a) k h = (with_atoms e address_sort h.0, with_atoms a k h.1)
    with_atoms (copy size e a) k h = (h.0, with_atoms e address_sort h.1, with_atoms a address_sort h.2)
    with_atoms (put bytes e) k h = (h.0, with_atoms e address_sort h.1)
    with_atoms (update u e a) k h = (h.0, h.1, with_atoms e address_sort h.2, with_atoms a (right_of u.operation) h.3)
    with_atoms (convert from to e) k h = (h.0, with_atoms e any_sort h.1)
    with_atoms (negate type e) k h = (h.0, with_atoms e _ h.1)
    with_atoms (flip type e) k h = (h.0, with_atoms e _ h.1)
    with_atoms (not e) k h = (h.0, with_atoms e any_sort h.1)
    with_atoms (operate op a b) k h = (h.0, two_ways op a b h.1 (λ j i. with_atoms a j i) (λ j i. with_atoms b j i))
    with_atoms (both a b) k h = (h.0, with_atoms a any_sort h.1, with_atoms b any_sort h.2)
    with_atoms (either a b) k h = (h.0, with_atoms a any_sort h.1, with_atoms b any_sort h.2)
    with_atoms (choice e a b) k h = (with_atoms e any_sort h.0, with_atoms a k h.1, with_atoms b k h.2)
    with_atoms (call f used es) k h = (called_so (slice_get gs f) used (count_of es) k h.0, each_with_atoms (replicate (count_of es) any_sort) es h.1)
    with_atoms (known f es) k h = (h.0, each_with_atoms (known_takes f) es h.1)
    with_atoms (library_call i es) k h = absurd h.1
    with_atoms faulty k h = absurd h

    pub each_with_atoms : (ks : List Sort) (es : Exps) → HasEach gs no_atoms n ks es → HasEach gs atoms n ks es
    each_with_atoms [] no_exps h = tt
    each_with_atoms [] (exps e es) h = absurd h
    each_with_atoms (k ∷ ks) no_exps h = absurd h
    each_with_atoms (k ∷ ks) (exps e es) h = (with_atoms e k h.0, each_with_atoms ks es h.1)
