-- What a cursor stands for.
use Rattle.std.specs.Prelude.{◌≡◌, ℕ, Bool, true, false, List, Option, Some, None, Result, Ok, if◌then◌else◌}
use denote.Ref.{MutBor}
use Rattle.ec_ctypes.specs.declared.text.token.Token.{Token}
use Rattle.ec_ctypes.specs.views.Tokens.{tokens_view}
use Rattle.ec_language.specs.Grammar as g
use Rattle.ec_language.specs.Syntax.{limits}
use Rattle.ec_language.specs.Productions.{placed_from}
use Rattle.ec_language.specs.Productions as p
use Rattle.ec_grammar.specs.declared.failure.Failure.{Failure}
use Rattle.ec_grammar.specs.Input.{State, state, Parser, Reads, kind_at, kind_next, expect}
use Rattle.ec_grammar.specs.Nested.{Nested}
use Rattle.ec_grammar.specs.ReadDeclarations.{nested}
use Rattle.ec_grammar.specs.declared.kind.Kind.{Kind}
use Rattle.ec_cursor.specs.declared.counts.Counts.{Counts}
use Rattle.ec_cursor.specs.declared.counts.Counted.{Counted}
use Rattle.ec_cursor.specs.declared.counts.Counted.TheVariants as counted
use Rattle.ec_cursor.specs.Sees.{sees}

abbrev pub counts_view : Counts → g.Counts
counts_view c = record { operations = c.operations; derivations = c.derivations }

abbrev pub counted_by : Counted → p.Counted
counted_by counted.Operations = p.operations
counted_by counted.Derivations = p.derivations

-- what a cursor holds: the tokens that are left, whether the next one stands in a declare section, and what is counted so far
pub record Left : Type 0 where
  pub tokens : List Token
  pub section : Bool
  pub counts : Counts

-- the same, as the plain reading has it
unfoldable pub seen : Left → State
seen l = state (placed_from l.section (tokens_view l.tokens)) (counts_view l.counts)

-- the kind of the next token
abbrev pub IsNextKind : Bool → List Token → Kind → Type 0
IsNextKind section tokens kind = kind ≡ kind_at (placed_from section (tokens_view tokens))

-- and of the one behind it
abbrev pub IsSecondKind : Bool → List Token → Kind → Type 0
IsSecondKind section tokens kind = kind ≡ kind_next (placed_from section (tokens_view tokens))

pub record AreNextKinds (section : Bool) (tokens : List Token) (kind behind : Kind) : Type 0 where
  pub next_is : IsNextKind section tokens kind
  pub behind_is : IsSecondKind section tokens behind

-- one more of what is counted, or none beyond the limit
abbrev pub counted_within : p.Counted → g.Counts → Option g.Counts
counted_within n c =
    if g.is_within limits n (g.behind_counted n c) then Some (g.behind_counted n c) else None

-- ---- parts with counts of their own: where one begins, and behind it, by what was counted outside

abbrev pub inside_expression : State → State
inside_expression st = state st.tokens (g.in_expression st.counts)

abbrev pub behind_expression : Counts → State → State
behind_expression outside st =
    state st.tokens (g.behind_expression (counts_view outside) st.counts)

abbrev pub inside_declarator : State → State
inside_declarator st = state st.tokens (g.in_declarator st.counts)

abbrev pub behind_declarator : Counts → State → State
behind_declarator outside st =
    state st.tokens (g.behind_declarator (counts_view outside) st.counts)

-- ---- what readers ensure

-- The next token is passed if it is of this kind, or all stays as it is.
abbrev pub Eats : Kind → State → Bool → State → Type 0
Eats kind old true new =
    (sees kind (kind_at old.tokens) ≡ true) × (t : p.Placed) × (expect kind old ≡ Ok (t, new))
Eats kind old false new = (sees kind (kind_at old.tokens) ≡ false) × (new ≡ old)

-- a function of the plain reading, where so many levels are left
abbrev pub within : {X : Type 0} → ℕ → (g.Limits → Nested → X) → X
within levels f = f limits (nested limits levels)

-- The code reads what a function of the plain reading does, from one cursor to the other.
abbrev pub Reading : {A B : Type 0} → (B → A) → Parser A → Left → Result B Failure → Left → Type 0
Reading view parser old result new = Reads view (parser (seen old)) result (seen new)

-- A function value reads what a function of the plain reading does, wherever it is called.
pub record ReadsItems {A B : Type 0} (view : B → A) (item : Parser A)
    (post : MutBor Left → Result B Failure → MutBor Left → Type 0) : Type 0 where
  pub reads : (old new : MutBor Left) (r : Result B Failure)
      → post old r new → Reads view (item (seen old.now)) r (seen new.now)
