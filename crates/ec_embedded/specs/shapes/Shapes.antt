-- Shapes of lists of tokens: rows, choices and repetitions of terminals, with no shape inside itself, as regular expressions are. A list is of a shape where it is the yield of one of its trees.
use Rattle.std.specs.Prelude.{◌≡◌, Bool, true, List, [], ◌∷◌, ◌++◌, ◌⊎◌, Option, Some, None}
use Rattle.std.proofs.Common.{inl, inr}

pub data Shape (T : Type 0) : Type 0 where
  nothing : Shape T
  one : T → Shape T
  both : Shape T → Shape T → Shape T
  either : Shape T → Shape T → Shape T
  many : Shape T → Shape T

-- What is known of terminals: which tokens they are, which of two have no token in common, one token of each, and what is counted. `step` gives the count behind a terminal, or nothing where a limit is passed at it.
pub record Alphabet (T K S : Type 0) : Type 0 where
  pub is : T → K → Bool
  pub apart : T → T → Bool
  pub example : T → K
  pub step : S → T → Option S

-- Terminals that are called apart have no token in common.
abbrev pub IsSound : {T K S : Type 0} → Alphabet T K S → Type 0
IsSound {T} {K} l = (t u : T) (x : K) → l.apart t u ≡ true → l.is t x ≡ true → l.is u x ≡ true → ⊥

-- ---- trees

-- what stands for a list of a shape: a token for each terminal
abbrev pub Tree : {T : Type 0} → Type 0 → Shape T → Type 0
Tree K nothing = Unit {0}
Tree K (one t) = K
Tree K (both a b) = Tree K a × Tree K b
Tree K (either a b) = Tree K a ⊎ Tree K b
Tree K (many a) = List (Tree K a)

-- tokens, each with the terminal that it stands for
abbrev pub Labelled : Type 0 → Type 0 → Type 0
Labelled T K = List (T × K)

abbrev pub yields_of : {A B : Type 0} → (A → List B) → List A → List B
yields_of f [] = []
yields_of f (a ∷ as') = f a ++ yields_of f as'

-- the tokens of a tree, from the left to the right
abbrev pub yield_of : {T K : Type 0} (s : Shape T) → Tree K s → Labelled T K
yield_of nothing v = []
yield_of (one t) v = (t, v) ∷ []
yield_of (both a b) v = yield_of a v.0 ++ yield_of b v.1
yield_of (either a b) (inl v) = yield_of a v
yield_of (either a b) (inr v) = yield_of b v
yield_of (many a) vs = yields_of (yield_of a) vs

-- without their terminals
abbrev pub tokens_of : {T K : Type 0} → Labelled T K → List K
tokens_of [] = []
tokens_of (p ∷ ps) = p.1 ∷ tokens_of ps

abbrev pub onward : {S : Type 0} → Option S → (S → Option S) → Option S
onward None f = None
onward (Some n) f = f n

-- ---- what a list of tokens is by a shape, where so much was counted before

module _ {T K S : Type 0} (l : Alphabet T K S) where
  -- each token is what its terminal says
  abbrev pub Fits : Labelled T K → Type 0
  Fits [] = Unit {0}
  Fits (p ∷ ps) = (l.is p.0 p.1 ≡ true) × Fits ps

  -- the count behind tokens, if no limit is passed in them
  abbrev pub counted : S → Labelled T K → Option S
  counted n [] = Some n
  counted n (p ∷ ps) = onward (l.step n p.0) (λ m. counted m ps)

  -- A list of the shape begins with these tokens.
  pub record Front (s : Shape T) (before : Labelled T K) : Type 0 where
    pub tree : Tree K s
    pub rest : Labelled T K
    pub whole : yield_of s tree ≡ before ++ rest
    pub fits : Fits (yield_of s tree)

  -- The list is of the shape, by this tree, and passes no limit.
  pub record IsTree (s : Shape T) (n : S) (w : List K) (v : Tree K s) : Type 0 where
    pub whole : w ≡ tokens_of (yield_of s v)
    pub fits : Fits (yield_of s v)
    pub count : S
    pub within : counted n (yield_of s v) ≡ Some count

  -- With the token before `after` the list stops to be a front of the shape.
  pub record IsDead (s : Shape T) (n : S) (w : List K) (x : K) (after : List K) : Type 0 where
    pub before : Labelled T K
    pub whole : w ≡ tokens_of before ++ x ∷ after
    pub front : Front s before
    pub count : S
    pub within : counted n before ≡ Some count
    pub dead : (labelled : Labelled T K) →
        tokens_of labelled ≡ tokens_of before ++ x ∷ [] → Front s labelled → ⊥

  -- The list is a front of the shape and no list of it.
  pub record IsShort (s : Shape T) (n : S) (w : List K) : Type 0 where
    pub before : Labelled T K
    pub whole : w ≡ tokens_of before
    pub front : Front s before
    pub count : S
    pub within : counted n before ≡ Some count
    pub short : (v : Tree K s) → Fits (yield_of s v) → w ≡ tokens_of (yield_of s v) → ⊥

  -- With the token before `after` a limit is passed, where the list is a front of the shape still.
  pub record IsOver (s : Shape T) (n : S) (w : List K) (x : K) (after : List K) : Type 0 where
    pub before : Labelled T K
    pub terminal : T
    pub whole : w ≡ tokens_of before ++ x ∷ after
    pub front : Front s (before ++ (terminal, x) ∷ [])
    pub count : S
    pub within : counted n before ≡ Some count
    pub over : l.step count terminal ≡ None

-- a verdict on a list: its tree; the token with which it is dead, or with which a limit is passed, and those behind; or that it ends too soon
pub data Judged (A K : Type 0) : Type 0 where
  tree : A → Judged A K
  dead : K → List K → Judged A K
  short : Judged A K
  over : K → List K → Judged A K

abbrev pub Judges : {T K S : Type 0} (l : Alphabet T K S) (s : Shape T) →
    S → List K → Judged (Tree K s) K → Type 0
Judges l s n w (tree v) = IsTree l s n w v
Judges l s n w (dead x after) = IsDead l s n w x after
Judges l s n w short = IsShort l s n w
Judges l s n w (over x after) = IsOver l s n w x after
