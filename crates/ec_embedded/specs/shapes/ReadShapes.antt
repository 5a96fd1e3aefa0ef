-- A plain reading of shapes, which chooses by the next token, and when it is exact.
use Rattle.std.specs.Prelude.{ℕ, zero, suc, Bool, true, false, List, [], ◌∷◌, ◌++◌, ◌-◌, length, drop, Option, Some, None}
use Rattle.std.proofs.Common.{inl, inr}
use Rattle.ec_embedded.specs.declared.shapes.failure.Failure.{Failure}
use Rattle.ec_embedded.specs.declared.shapes.failure.Failure.TheVariants.{OutOfMemory, Dead, OverLimit}
use Rattle.ec_embedded.specs.shapes.Shapes.{Shape, nothing, one, both, either, many, Alphabet, Tree, Judged, tree, dead, short, over}

-- A tree, the count, and the tokens that are left; or why there is none.
pub data Outcome (A K S : Type 0) : Type 0 where
  done : A → S → List K → Outcome A K S
  stopped : Failure → Outcome A K S

-- With the first of these tokens no list goes on.
abbrev pub stuck : {A K S : Type 0} → List K → Outcome A K S
stuck w = stopped (Dead (length w))

-- With the first of these tokens a limit is passed.
abbrev pub over_limit : {A K S : Type 0} → List K → Outcome A K S
over_limit w = stopped (OverLimit (length w))

abbrev pub and_then : {A B K S : Type 0} → Outcome A K S →
    (A → S → List K → Outcome B K S) → Outcome B K S
and_then (done v n w) f = f v n w
and_then (stopped e) f = stopped e

-- whether a list of the shape may be empty
abbrev pub is_nullable : {T : Type 0} → Shape T → Bool
is_nullable nothing = true
is_nullable (one t) = false
is_nullable (both a b) = elim (is_nullable a) [ true ↦ is_nullable b | false ↦ false ]
is_nullable (either a b) = elim (is_nullable a) [ true ↦ true | false ↦ is_nullable b ]
is_nullable (many a) = true

-- the terminals that may stand first
abbrev pub first_set : {T : Type 0} → Shape T → List T
first_set nothing = []
first_set (one t) = t ∷ []
first_set (both a b) =
    elim (is_nullable a) [ true ↦ first_set a ++ first_set b | false ↦ first_set a ]
first_set (either a b) = first_set a ++ first_set b
first_set (many a) = first_set a

-- the terminals with which a list of the shape may go on
abbrev pub next_set : {T : Type 0} → Shape T → List T
next_set nothing = []
next_set (one t) = []
next_set (both a b) =
    elim (is_nullable b) [ true ↦ next_set b ++ (first_set b ++ next_set a) | false ↦ next_set b ]
next_set (either a b) = elim (is_nullable b) [
  | true ↦ first_set a ++ (next_set a ++ next_set b)
  | false ↦ next_set a ++ next_set b
]
next_set (many a) = first_set a ++ next_set a

module _ {T K S : Type 0} (l : Alphabet T K S) where
  abbrev pub is_among : List T → K → Bool
  is_among [] x = false
  is_among (t ∷ ts) x = elim (l.is t x) [ true ↦ true | false ↦ is_among ts x ]

  abbrev pub apart_from : T → List T → Bool
  apart_from t [] = true
  apart_from t (u ∷ us) = elim (l.apart t u) [ true ↦ apart_from t us | false ↦ false ]

  abbrev pub all_apart : List T → List T → Bool
  all_apart [] us = true
  all_apart (t ∷ ts) us = elim (apart_from t us) [ true ↦ all_apart ts us | false ↦ false ]

  -- Each choice is told by the next token, and each terminal has a token.
  abbrev pub is_deterministic : Shape T → Bool
  is_deterministic nothing = true
  is_deterministic (one t) = l.is t (l.example t)
  is_deterministic (both a b) =
      elim (is_deterministic a) [
        | true ↦ elim (is_deterministic b) [
          | true ↦
              all_apart (next_set a) (first_set b)
          | false ↦ false
        ]
        | false ↦ false
      ]
  is_deterministic (either a b) =
      elim (is_deterministic a) [
        | true ↦
            elim (is_deterministic b) [
              | true ↦ elim (is_nullable a) [
                | true ↦ false
                | false ↦ all_apart (first_set a) (first_set b)
              ]
              | false ↦ false
            ]
        | false ↦ false
      ]
  is_deterministic (many a) =
      elim (is_deterministic a) [
        | true ↦ elim (is_nullable a) [
          | true ↦ false
          | false ↦ all_apart (next_set a) (first_set a)
        ]
        | false ↦ false
      ]

  -- whether the next token is one of these
  abbrev pub is_next_among : List T → List K → Bool
  is_next_among ts [] = false
  is_next_among ts (x ∷ w) = is_among ts x

  abbrev pub counting : T → K → List K → Option S → Outcome K K S
  counting t x w None = over_limit (x ∷ w)
  counting t x w (Some m) = done x m w

  abbrev pub taking : T → S → K → List K → Bool → Outcome K K S
  taking t n x w true = counting t x w (l.step n t)
  taking t n x w false = stuck (x ∷ w)

  abbrev pub read_one : T → S → List K → Outcome K K S
  read_one t n [] = stuck []
  read_one t n (x ∷ w) = taking t n x w (l.is t x)

  -- so many turns at most
  abbrev pub turns : {A : Type 0} → (List K → Bool) →
      (S → List K → Outcome A K S) → ℕ → S → List K → Outcome (List A) K S
  turns goes f zero n w = done [] n w
  turns goes f (suc k) n w = elim (goes w) [
    | true ↦ and_then (f n w) (λ v m r. and_then (turns goes f k m r) (λ vs i q. done (v ∷ vs) i q))
    | false ↦ done [] n w
  ]

  abbrev pub read : (s : Shape T) → S → List K → Outcome (Tree K s) K S
  read nothing n w = done tt n w
  read (one t) n w = read_one t n w
  read (both a b) n w =
      and_then (read a n w) (λ v m r. and_then (read b m r) (λ u i q. done (v, u) i q))
  read (either a b) n w = elim (is_next_among (first_set a) w) [
    | true ↦ and_then (read a n w) (λ v m r. done (inl v) m r)
    | false ↦ and_then (read b n w) (λ v m r. done (inr v) m r)
  ]
  read (many a) n w = turns (is_next_among (first_set a)) (read a) (length w) n w

-- the last tokens, so many
abbrev pub last : {K : Type 0} → ℕ → List K → List K
last k w = drop (length w - k) w

abbrev pub dead_at : {A K : Type 0} → List K → Judged A K
dead_at [] = short
dead_at (x ∷ r) = dead x r

abbrev pub over_at : {A K : Type 0} → List K → Judged A K
over_at [] = short
over_at (x ∷ r) = over x r

abbrev pub tree_at : {A K : Type 0} → A → List K → Judged A K
tree_at v [] = tree v
tree_at v (x ∷ r) = dead x r

-- what is judged of a whole list that is read so
abbrev pub judged : {A K S : Type 0} → List K → Outcome A K S → Judged A K
judged w (done v n r) = tree_at v r
judged w (stopped (Dead k)) = dead_at (last k w)
judged w (stopped (OverLimit k)) = over_at (last k w)
judged w (stopped OutOfMemory) = short
