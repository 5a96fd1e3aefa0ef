-- The tree of a list of tokens, or why there is none: a token with which no program goes on, or a limit.
use Rattle.std.specs.Prelude.{◌≡◌, ◌≢◌, ◌≤◌, ℕ, List, [], ◌∷◌, ◌++◌, length, take, Result, Ok, Err}
use Rattle.ec_base.specs.declared.fault.FaultKind.TheVariants.{F7}
use Rattle.ec_base.specs.declared.fault.LimitKind.TheVariants.{L3}
use Rattle.ec_base.specs.declared.stop.Stop.{Stop}
use Rattle.ec_base.specs.declared.stop.Stop.TheVariants.{Refused, Limit}
use Rattle.ec_ctypes.specs.trees.Tokens.{TokenData, end_token}
use Rattle.ec_ctypes.specs.trees.Units.{UnitData}
use Rattle.ec_language.specs.Productions.{Placed, placed, unit}
use Rattle.ec_language.specs.Grammar.{PlacedTokens, Limits, DerivesWithin, FrontWithin, Front}

-- The last token is the end, and no other is: so are the tokens of a text.
abbrev pub EndsOnce : List TokenData → Type 0
EndsOnce [] = ⊥
EndsOnce (t ∷ []) = t.tok ≡ end_token
EndsOnce (t ∷ u ∷ ts) = (t.tok ≢ end_token) × EndsOnce (u ∷ ts)

-- the limits of a program: 64 levels of nesting round a token, 4096 binary operators and postfix parts, 64 stars and array lengths
abbrev pub limits : Limits
limits = record { nesting = 64; operations = 4096; derivations = 64 }

-- each front of these tokens is a front of a program within the limits
abbrev pub AllFit : PlacedTokens → Type 0
AllFit before = (n : ℕ) → n ≤ length before → FrontWithin limits unit (take n before)

-- The token is dead: some program begins with the tokens before it, and none with these and the token. The end counts as a token.
pub record IsDead (w : PlacedTokens) (t : Placed) : Type 0 where
  pub before : PlacedTokens
  pub after : PlacedTokens
  pub whole : w ≡ before ++ t ∷ after
  pub fit : AllFit before
  pub dead : Front unit (before ++ t ∷ []) → ⊥

-- At the token a limit is passed: some program begins with the tokens up to and with it, but none within the limits.
pub record IsTooDeep (w : PlacedTokens) (t : Placed) : Type 0 where
  pub before : PlacedTokens
  pub after : PlacedTokens
  pub whole : w ≡ before ++ t ∷ after
  pub fit : AllFit before
  pub goes_on : Front unit (before ++ t ∷ [])
  pub passed : FrontWithin limits unit (before ++ t ∷ []) → ⊥

-- What the tree of the tokens is, or why there is none.
pub data TreeOrStop (ts : List TokenData) : Result UnitData Stop → Type 0 where
  tree : (u : UnitData) → DerivesWithin limits unit (placed ts) u → TreeOrStop ts (Ok u)
  dead : (t : Placed) → IsDead (placed ts) t → TreeOrStop ts (Err (Refused F7 t.token.line))
  too_deep : (t : Placed) → IsTooDeep (placed ts) t → TreeOrStop ts (Err (Limit L3))
