-- What links told, over several steps of a log.
use Rattle.std.proofs.Common.{◌≡◌, ℕ, true, false, Option, Some, None, IfSome, IsSomeAnd, List, [], ◌∷◌, ◌++◌, All, refl, sym, ap, ◌∙◌, append_assoc}
use Rattle.std.proofs.lemmas.List.{map-append, append-nil}
use Rattle.std.proofs.lemmas.List.Elements.{filter-append, All-head, All-tail}
use Rattle.ec_link.specs.declared.logged.Logged.{Logged}
use Rattle.ec_link.specs.Link.{told_more}
use Rattle.ec_link.specs.Logged.{Talk, is_slot, talk_of}
use Rattle.ec_link.specs.Told.{KeepsTalks}

-- the talk of a slot over two logs
pub talk_of-append : (i : ℕ) (xs ys : List Logged) → talk_of i (xs ++ ys) ≡ talk_of i xs ++ talk_of i ys
talk_of-append i xs ys = simp (filter-append, map-append)

-- an exchange of the slot, before the others
pub talk_of-cons : (i : ℕ) (x : Logged) (log : List Logged) → is_slot i x.slot ≡ true → talk_of i (x ∷ log) ≡ (x.request, x.reply) ∷ talk_of i log
talk_of-cons i x log e = rw e refl

-- an exchange of another slot, or of none
pub talk_of-cons_other : (i : ℕ) (x : Logged) (log : List Logged) → is_slot i x.slot ≡ false → talk_of i (x ∷ log) ≡ talk_of i log
talk_of-cons_other i x log e = rw e refl

-- a slot has no talk in a log of other slots
pub talk_of-none : (i : ℕ) (log : List Logged) → All (λ x. is_slot i x.slot ≡ false) log → talk_of i log ≡ []
talk_of-none i [] h = refl
talk_of-none i (x ∷ log) h =
    talk_of-cons_other i x log (All-head (λ y. is_slot i y.slot ≡ false) x log h) ∙ talk_of-none i log (All-tail (λ y. is_slot i y.slot ≡ false) x log h)

-- one step of a talk, and then another
IfSome-grown : (x y z : Option Talk) (p q r : Talk) → IfSome y (λ now. IsSomeAnd x (λ was. now ≡ was ++ p)) → IfSome z (λ now. IsSomeAnd y (λ was. now ≡ was ++ q)) → r ≡ p ++ q → IfSome z (λ now. IsSomeAnd x (λ was. now ≡ was ++ r))
IfSome-grown x y None p q r f g e = tt
IfSome-grown x None (Some c) p q r f g e = absurd g
IfSome-grown None (Some b) (Some c) p q r f g e = absurd f
IfSome-grown (Some a) (Some b) (Some c) p q r f g e =
    g ∙ ap (λ t. t ++ q) f ∙ append_assoc a p q ∙ ap (λ t. a ++ t) (sym e)

-- what links keep of two logs, one after another
pub KeepsTalks-append : (before between after : ℕ → Option Talk) (xs ys : List Logged) → KeepsTalks before between xs → KeepsTalks between after ys → KeepsTalks before after (xs ++ ys)
KeepsTalks-append before between after xs ys f g =
    λ i. IfSome-grown (before i) (between i) (after i) (talk_of i xs) (talk_of i ys) (talk_of i (xs ++ ys)) (f i) (g i) (talk_of-append i xs ys)

-- a talk that grew, where it is told
pub IfSome-told : (x y : Option Talk) (p : Talk) → y ≡ told_more x p → IfSome y (λ now. IsSomeAnd x (λ was. now ≡ was ++ p))
IfSome-told None None p e = tt
IfSome-told None (Some b) p e = cc
IfSome-told (Some a) None p e = tt
IfSome-told (Some a) (Some b) p e = cc

-- the talks that a log grew by
pub KeepsTalks-told : (before after : ℕ → Option Talk) (log : List Logged) → ((i : ℕ) → after i ≡ told_more (before i) (talk_of i log)) → KeepsTalks before after log
KeepsTalks-told before after log h = λ i. IfSome-told (before i) (after i) (talk_of i log) (h i)

-- a talk that nothing was added to
pub told_more-nil : (talk : Option Talk) → told_more talk [] ≡ talk
told_more-nil None = refl
told_more-nil (Some t) = ap (λ x. Some x) (append-nil t)

-- a talk that grew twice
pub told_more-append : (talk : Option Talk) (p q : Talk) → told_more (told_more talk p) q ≡ told_more talk (p ++ q)
told_more-append None p q = refl
told_more-append (Some t) p q = ap (λ x. Some x) (append_assoc t p q)

-- the same talks, and an empty log
pub KeepsTalks-same : (before after : ℕ → Option Talk) → ((i : ℕ) → after i ≡ before i) → KeepsTalks before after []
KeepsTalks-same before after h = KeepsTalks-told before after [] (λ i. h i ∙ sym (told_more-nil (before i)))
