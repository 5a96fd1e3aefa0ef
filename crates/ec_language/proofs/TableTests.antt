-- Tests that are computed over the table: which symbols may derive no token, and how long the chains of symbols are that take none.
use Rattle.std.proofs.Common.{◌≡◌, ℕ, zero, suc, Bool, true, false, List, [], ◌∷◌, refl, ◌⊎◌, inl, inr}
use Rattle.ec_language.specs.Productions.{Sym, Element, tok, count, sym as ofs, nest, whole, own, Row, Production, productions, operators, more_operands, more_operand, or_rank}
use Rattle.ec_language.specs.Productions as g
use Rattle.ec_language.specs.ReadSyntax.{chain}

abbrev pub any_row : {A : Type 0} → (Row → Bool) → List (Production A) → Bool
any_row f [] = false
any_row f (a ∷ rest) = elim (f a.row) [ true ↦ true | false ↦ any_row f rest ]

abbrev pub every_row : {A : Type 0} → (Row → Bool) → List (Production A) → Bool
every_row f [] = true
every_row f (a ∷ rest) = elim (f a.row) [ true ↦ every_row f rest | false ↦ false ]

-- the test of the symbol of an element; tokens have this answer
abbrev pub on_element : Bool → (Sym → Bool) → Element → Bool
on_element b f (tok t) = b
on_element b f (count k t) = b
on_element b f (ofs s) = f s
on_element b f (nest s) = f s
on_element b f (whole s) = f s
on_element b f (own s) = f s

-- ---- no token

abbrev pub empty_row : (Sym → Bool) → Row → Bool
empty_row E [] = true
empty_row E (i ∷ r) = elim (on_element false E i) [ true ↦ empty_row E r | false ↦ false ]

-- The symbol may derive the empty list. Where the search ends the answer is yes, so a no is sure.
abbrev pub empty_within : ℕ → Sym → Bool
empty_within zero s = true
empty_within (suc m) s = any_row (empty_row (empty_within m)) (productions s)

abbrev pub may_be_empty : Sym → Bool
may_be_empty = empty_within chain

-- ---- chains

-- the test holds of each symbol that is reached without a token
abbrev pub first_row : (Sym → Bool) → Row → Bool
first_row S [] = true
first_row S (i ∷ r) = elim (on_element true S i) [ true ↦ elim (on_element false may_be_empty i) [ true ↦ first_row S r | false ↦ true ] | false ↦ false ]

-- each chain of symbols that takes no token is shorter than m
abbrev pub is_low : ℕ → Sym → Bool
is_low zero s = false
is_low (suc m) s = every_row (first_row (is_low m)) (productions s)

pub all_low : (s : Sym) → is_low chain s ≡ true
all_low g.unit = refl
all_low (operators or_rank) = refl
all_low (more_operands or_rank) = refl
all_low (more_operand or_rank) = refl
all_low _ = refl

-- ---- what a test says

pub any_false : {A : Type 0} (f : Row → Bool) (a : Production A) (rest : List (Production A)) → any_row f (a ∷ rest) ≡ false → (f a.row ≡ false) × (any_row f rest ≡ false)
any_false f a rest e = go (f a.row) refl e
  where
    go : (b : Bool) → f a.row ≡ b → elim b [ true ↦ true | false ↦ any_row f rest ] ≡ false → (f a.row ≡ false) × (any_row f rest ≡ false)
    go true h e = absurd (let k : true ≡ false = e in cc)
    go false h e = (h, e)

pub every_true : {A : Type 0} (f : Row → Bool) (a : Production A) (rest : List (Production A)) → every_row f (a ∷ rest) ≡ true → (f a.row ≡ true) × (every_row f rest ≡ true)
every_true f a rest e = go (f a.row) refl e
  where
    go : (b : Bool) → f a.row ≡ b → elim b [ true ↦ every_row f rest | false ↦ false ] ≡ true → (f a.row ≡ true) × (every_row f rest ≡ true)
    go true h e = (h, e)
    go false h e = absurd (let k : false ≡ true = e in cc)

pub empty_false : (E : Sym → Bool) (i : Element) (r : Row) → empty_row E (i ∷ r) ≡ false → (on_element false E i ≡ false) ⊎ (empty_row E r ≡ false)
empty_false E i r e = go (on_element false E i) refl e
  where
    go : (b : Bool) → on_element false E i ≡ b → elim b [ true ↦ empty_row E r | false ↦ false ] ≡ false → (on_element false E i ≡ false) ⊎ (empty_row E r ≡ false)
    go true h e = inr e
    go false h e = inl h

-- the first element passes the test, and the rest where the first may be empty
pub first_true : (S : Sym → Bool) (i : Element) (r : Row) → first_row S (i ∷ r) ≡ true → (on_element true S i ≡ true) × ((on_element false may_be_empty i ≡ false) ⊎ (first_row S r ≡ true))
first_true S i r e = go (on_element true S i) refl (on_element false may_be_empty i) refl e
  where
    go : (b : Bool) → on_element true S i ≡ b → (d : Bool) → on_element false may_be_empty i ≡ d → elim b [ true ↦ elim d [ true ↦ first_row S r | false ↦ true ] | false ↦ false ] ≡ true → (on_element true S i ≡ true) × ((on_element false may_be_empty i ≡ false) ⊎ (first_row S r ≡ true))
    go false h d k e = absurd (let f : false ≡ true = e in cc)
    go true h true k e = (h, inr e)
    go true h false k e = (h, inl k)
