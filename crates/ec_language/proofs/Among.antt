-- What is among the results of lists of successes.
use Rattle.std.proofs.Common.{◌≡◌, Bool, true, false, List, [], ◌∷◌, ◌++◌, refl, ◌⊎◌, inl, inr, ap, sym, ◌∙◌, subst}
use Rattle.ec_language.specs.ReadSyntax.{some_of, each_of, all_of, alone_where, IsAmong}

-- ---- what holds of all results

pub alone_holds : {A : Type 0} (P : A → Type 0) (b : Bool) (x : A) → (b ≡ true → P x) → (y : A) → IsAmong y (alone_where b x) → P y
alone_holds P true x f y (inl e) = subst P e (f refl)
alone_holds P true x f y (inr h) = absurd h
alone_holds P false x f y h = absurd h

pub append_holds : {A : Type 0} (P : A → Type 0) (xs ys : List A) → ((x : A) → IsAmong x xs → P x) → ((y : A) → IsAmong y ys → P y) → (z : A) → IsAmong z (xs ++ ys) → P z
append_holds P [] ys f g z h = g z h
append_holds P (x ∷ xs) ys f g z (inl e) = f z (inl e)
append_holds P (x ∷ xs) ys f g z (inr h) = append_holds P xs ys (λ y k. f y (inr k)) g z h

pub each_holds : {A B : Type 0} (P : B → Type 0) (f : A → B) (xs : List A) → ((x : A) → IsAmong x xs → P (f x)) → (y : B) → IsAmong y (each_of f xs) → P y
each_holds P f [] g y h = absurd h
each_holds P f (x ∷ xs) g y (inl e) = subst P e (g x (inl refl))
each_holds P f (x ∷ xs) g y (inr h) = each_holds P f xs (λ z k. g z (inr k)) y h

pub all_holds : {A B : Type 0} (P : B → Type 0) (f : A → List B) (xs : List A) → ((x : A) → IsAmong x xs → (y : B) → IsAmong y (f x) → P y) → (y : B) → IsAmong y (all_of f xs) → P y
all_holds P f [] g y h = absurd h
all_holds P f (x ∷ xs) g y h = append_holds P (f x) (all_of f xs) (g x (inl refl)) (all_holds P f xs (λ z k. g z (inr k))) y h

-- ---- what is a result

pub among_alone : {A : Type 0} (b : Bool) (x : A) → b ≡ true → IsAmong x (alone_where b x)
among_alone true x e = inl refl
among_alone false x e = absurd (let f : false ≡ true = e in cc)

pub among_left : {A : Type 0} (x : A) (xs ys : List A) → IsAmong x xs → IsAmong x (xs ++ ys)
among_left x [] ys h = absurd h
among_left x (y ∷ xs) ys (inl e) = inl e
among_left x (y ∷ xs) ys (inr h) = inr (among_left x xs ys h)

pub among_right : {A : Type 0} (x : A) (xs ys : List A) → IsAmong x ys → IsAmong x (xs ++ ys)
among_right x [] ys h = h
among_right x (y ∷ xs) ys h = inr (among_right x xs ys h)

pub among_each : {A B : Type 0} (f : A → B) (x : A) (xs : List A) → IsAmong x xs → IsAmong (f x) (each_of f xs)
among_each f x [] h = absurd h
among_each f x (y ∷ xs) (inl e) = inl (ap f e)
among_each f x (y ∷ xs) (inr h) = inr (among_each f x xs h)

pub among_all : {A B : Type 0} (f : A → List B) (x : A) (xs : List A) (y : B) → IsAmong x xs → IsAmong y (f x) → IsAmong y (all_of f xs)
among_all f x [] y h k = absurd h
among_all f x (z ∷ xs) y (inl e) k = among_left y (f z) (all_of f xs) (subst (λ t. IsAmong y (f t)) (sym e) k)
among_all f x (z ∷ xs) y (inr h) k = among_right y (f z) (all_of f xs) (among_all f x xs y h k)

-- ---- a result of which a test holds

pub either_true : (a b : Bool) → elim a [ true ↦ true | false ↦ b ] ≡ true → (a ≡ true) ⊎ (b ≡ true)
either_true true b e = inl refl
either_true false b e = inr e

pub true_first : (a b : Bool) → a ≡ true → elim a [ true ↦ true | false ↦ b ] ≡ true
true_first true b e = refl
true_first false b e = absurd (let f : false ≡ true = e in cc)

pub true_second : (a b : Bool) → b ≡ true → elim a [ true ↦ true | false ↦ b ] ≡ true
true_second true b e = refl
true_second false b e = e

pub some_holds : {A : Type 0} (f : A → Bool) (xs : List A) → some_of f xs ≡ true → (x : A) × IsAmong x xs × (f x ≡ true)
some_holds f [] e = absurd (let k : false ≡ true = e in cc)
some_holds {A} f (x ∷ xs) e = go (some_holds f xs) (either_true (f x) (some_of f xs) e)
  where
    go : (some_of f xs ≡ true → (y : A) × IsAmong y xs × (f y ≡ true)) → (f x ≡ true) ⊎ (some_of f xs ≡ true) → (y : A) × IsAmong y (x ∷ xs) × (f y ≡ true)
    go again (inl h) = (x, inl refl, h)
    go again (inr h) = let k = again h in (k.0, inr k.1, k.2)

pub holds_some : {A : Type 0} (f : A → Bool) (x : A) (xs : List A) → IsAmong x xs → f x ≡ true → some_of f xs ≡ true
holds_some f x [] h e = absurd h
holds_some f x (y ∷ xs) (inl k) e = true_first (f y) (some_of f xs) (ap f k ∙ e)
holds_some f x (y ∷ xs) (inr k) e = true_second (f y) (some_of f xs) (holds_some f x xs k e)
