-- Functions that read a front of the tokens, and the steps that they are made of.
use Rattle.std.specs.Prelude.{◌≡◌, ◌≢◌, ℕ, Bool, true, false, [], ◌∷◌, length, Result, Ok, Err, if◌then◌else◌}
use Rattle.ec_language.specs.Productions.{Placed, Start, start_of, Counted}
use Rattle.ec_language.specs.Grammar.{PlacedTokens, Limits, Counts, behind_counted, is_within, in_expression, behind_expression, in_declarator, behind_declarator}
use Rattle.ec_grammar.specs.declared.failure.Failure.{Failure}
use Rattle.ec_grammar.specs.declared.failure.Failure.TheVariants.{OutOfMemory, Dead, TooDeep}
use Rattle.ec_grammar.specs.declared.kind.Kind.{Kind}
use Rattle.ec_grammar.specs.declared.kind.Kind.TheVariants as k
use Rattle.ec_grammar.specs.Kinds.{kind_of, same_kind}

-- the tokens that are left, and what is counted so far
pub record State : Type 0 where
  pub tokens : PlacedTokens
  pub counts : Counts

abbrev pub state : PlacedTokens → Counts → State
state tokens counts = record { tokens = tokens; counts = counts }

-- ---- looks at the tokens

abbrev pub kind_at : PlacedTokens → Kind
kind_at [] = k.End
kind_at (t ∷ w) = kind_of t.token.tok

abbrev pub rest_of : PlacedTokens → PlacedTokens
rest_of [] = []
rest_of (t ∷ w) = w

abbrev pub kind_next : PlacedTokens → Kind
kind_next w = kind_at (rest_of w)

-- ---- functions that read

abbrev pub Outcome : Type 0 → Type 0
Outcome A = Result (A × State) Failure

abbrev pub Parser : Type 0 → Type 0
Parser A = State → Outcome A

abbrev pub and_then : {A B : Type 0} → Outcome A → (A → Parser B) → Outcome B
and_then (Ok p) f = f p.0 p.1
and_then (Err e) f = Err e

infixl 10 ◌>>=◌
abbrev pub ◌>>=◌ : {A B : Type 0} → Parser A → (A → Parser B) → Parser B
p >>= f = λ i. and_then (p i) f

infixl 10 ◌>>◌
abbrev pub ◌>>◌ : {A B : Type 0} → Parser A → Parser B → Parser B
p >> q = p >>= (λ _. q)

abbrev pub pure : {A : Type 0} → A → Parser A
pure a = λ i. Ok (a, i)

-- With the next token no program goes on.
abbrev pub refuse : {A : Type 0} → Parser A
refuse = λ i. Err (Dead (length i.tokens))

-- No level is left: the next token passes the limit if it begins what nests, and else no program goes on with it.
abbrev pub level_failure : Bool → ℕ → Failure
level_failure true left = TooDeep left
level_failure false left = Dead left

abbrev pub no_level : {A : Type 0} → (Kind → Bool) → Parser A
no_level begins = λ i. Err (level_failure (begins (kind_at i.tokens)) (length i.tokens))

abbrev pub peek : Parser Kind
peek = λ i. Ok (kind_at i.tokens, i)

abbrev pub peek_next : Parser Kind
peek_next = λ i. Ok (kind_next i.tokens, i)

abbrev pub start : Parser Start
start = λ i. Ok (start_of i.tokens, i)

abbrev expect_at : Kind → PlacedTokens → Counts → Outcome Placed
expect_at k [] c = Err (Dead 0)
expect_at k (t ∷ w) c =
    if same_kind (kind_of t.token.tok) k
    then Ok (t, state w c)
    else Err (Dead (length (t ∷ w)))

-- a token of this kind
unfoldable pub expect : Kind → Parser Placed
expect k = λ i. expect_at k i.tokens i.counts

abbrev within_at : Limits → Counted → PlacedTokens → Placed → State → Outcome Placed
within_at limits n w t i =
    if is_within limits n i.counts
    then Ok (t, i)
    else Err (TooDeep (length w))

abbrev count_at : Limits → Counted → PlacedTokens → Outcome Placed → Outcome Placed
count_at limits n w (Ok p) =
    within_at limits n w p.0 (state p.1.tokens (behind_counted n p.1.counts))
count_at limits n w (Err e) = Err e

-- a token of this kind that is counted
unfoldable pub expect_counted : Limits → Counted → Kind → Parser Placed
expect_counted limits n k = λ i. count_at limits n i.tokens (expect k i)

abbrev leaving : {A : Type 0} → (Counts → Counts) → Outcome A → Outcome A
leaving f (Ok p) = Ok (p.0, state p.1.tokens (f p.1.counts))
leaving f (Err e) = Err e

-- an expression: a whole one, unless it is part of another
unfoldable pub whole : {A : Type 0} → Parser A → Parser A
whole p = λ i. leaving (behind_expression i.counts) (p (state i.tokens (in_expression i.counts)))

-- what has stars and lengths of its own
unfoldable pub own : {A : Type 0} → Parser A → Parser A
own p = λ i. leaving (behind_declarator i.counts) (p (state i.tokens (in_declarator i.counts)))

-- ---- what code that reads ensures: the outcome, with the tree as `view` shows it, unless memory fails

abbrev pub Reads : {A B : Type 0} → (B → A) → Outcome A → Result B Failure → State → Type 0
Reads view outcome (Ok b) new = outcome ≡ Ok (view b, new)
Reads view outcome (Err e) new = e ≢ OutOfMemory → outcome ≡ Err e

-- the same where the tree is of no use to the code
abbrev pub Passes : {A : Type 0} → Outcome A → Result (Unit {0}) Failure → State → Type 0
Passes {A} outcome (Ok u) new = (a : A) × (outcome ≡ Ok (a, new))
Passes outcome (Err e) new = e ≢ OutOfMemory → outcome ≡ Err e
