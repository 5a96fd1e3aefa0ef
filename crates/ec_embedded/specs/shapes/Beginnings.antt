-- How a list of tokens begins by a shape: with a list of the shape, as far as the shape goes on, and with any tokens behind it.
use Rattle.std.specs.Prelude.{◌≡◌, List, [], ◌∷◌, ◌++◌, Some}
use Rattle.ec_embedded.specs.declared.shapes.failure.Failure.TheVariants.{OutOfMemory, Dead, OverLimit}
use Rattle.ec_embedded.specs.shapes.Shapes.{Shape, Alphabet, Tree, Labelled, yield_of, tokens_of, Fits, counted, Front, IsDead, IsShort, IsOver, Judged, tree, dead, short, over}
use Rattle.ec_embedded.specs.shapes.ReadShapes.{Outcome, done, stopped, last, dead_at, over_at}

-- the tree, the count behind it, and the tokens that are left
pub record Beginning (A K S : Type 0) : Type 0 where
  pub tree : A
  pub count : S
  pub rest : List K

module _ {T K S : Type 0} (l : Alphabet T K S) where
  -- Behind the tree's tokens no list of the shape goes on with the first of these.
  abbrev pub Ends : (s : Shape T) → Tree K s → List K → Type 0
  Ends s v [] = Unit {0}
  Ends s v (x ∷ after) =
      (labelled : Labelled T K) → tokens_of labelled ≡ tokens_of (yield_of s v) ++ x ∷ []
      → Front l s labelled → ⊥

  -- The list begins with a list of the shape, which passes no limit, as far as the shape goes on.
  pub record IsBegun (s : Shape T) (n : S) (w : List K) (b : Beginning (Tree K s) K S)
      : Type 0 where
    pub whole : w ≡ tokens_of (yield_of s b.tree) ++ b.rest
    pub fits : Fits l (yield_of s b.tree)
    pub within : counted l n (yield_of s b.tree) ≡ Some b.count
    pub ends : Ends s b.tree b.rest

  -- What stands before these last tokens is no list of the shape.
  abbrev pub NoneBefore : (s : Shape T) → List K → List K → Type 0
  NoneBefore s w rest =
      (v : Tree K s) → Fits l (yield_of s v) → w ≡ tokens_of (yield_of s v) ++ rest → ⊥

  -- How the list begins, or with which token it stops to be a front of the shape where it has not been a list of it, or that it ends before, or passes a limit.
  abbrev pub Begins : (s : Shape T) → S → List K → Judged (Beginning (Tree K s) K S) K → Type 0
  Begins s n w (tree b) = IsBegun s n w b
  Begins s n w (dead x after) = IsDead l s n w x after × NoneBefore s w (x ∷ after)
  Begins s n w short = IsShort l s n w
  Begins s n w (over x after) = IsOver l s n w x after

-- how a list begins that is read so
abbrev pub beginning : {A K S : Type 0} → List K → Outcome A K S → Judged (Beginning A K S) K
beginning w (done v n r) = tree (record { tree = v; count = n; rest = r })
beginning w (stopped (Dead k)) = dead_at (last k w)
beginning w (stopped (OverLimit k)) = over_at (last k w)
beginning w (stopped OutOfMemory) = short
