-- The plain reading of a list of tokens, and what it answers.
use Rattle.std.specs.Prelude.{ℕ, List, [], ◌∷◌, length, ◌==◌, Result, Ok, Err, if◌then◌else◌}
use Rattle.ec_base.specs.declared.fault.FaultKind.TheVariants.{F7}
use Rattle.ec_base.specs.declared.fault.LimitKind.TheVariants.{L3}
use Rattle.ec_base.specs.declared.line.Line.{Line}
use Rattle.ec_base.specs.declared.stop.Stop.{Stop}
use Rattle.ec_base.specs.declared.stop.Stop.TheVariants as stop
use Rattle.ec_ctypes.specs.trees.Tokens.{TokenData}
use Rattle.ec_ctypes.specs.trees.Units.{UnitData}
use Rattle.ec_language.specs.Productions.{placed}
use Rattle.ec_language.specs.Grammar.{PlacedTokens, no_counts}
use Rattle.ec_language.specs.Syntax.{limits}
use Rattle.ec_grammar.specs.declared.failure.Failure.{Failure}
use Rattle.ec_grammar.specs.declared.failure.Failure.TheVariants.{OutOfMemory, Dead, TooDeep}
use Rattle.ec_grammar.specs.Input.{state, Outcome}
use Rattle.ec_grammar.specs.ReadDeclarations.{nested}
use Rattle.ec_grammar.specs.ReadStatements.{nested_statements, unit}

unfoldable pub reading : PlacedTokens → Outcome UnitData
reading w =
    unit limits (nested limits limits.nesting) (nested_statements limits limits.nesting)
    (state w no_counts)

-- the line of the token at which so many are left, itself among them
abbrev pub line_at : PlacedTokens → ℕ → Line
line_at [] n = record { 0 = 0 }
line_at (t ∷ w) n = if length (t ∷ w) == n then t.token.line else line_at w n

abbrev pub failure_stop : PlacedTokens → Failure → Stop
failure_stop w OutOfMemory = stop.OutOfMemory
failure_stop w (Dead n) = stop.Refused F7 (line_at w n)
failure_stop w (TooDeep n) = stop.Limit L3

abbrev pub answered : PlacedTokens → Outcome UnitData → Result UnitData Stop
answered w (Ok p) = Ok p.0
answered w (Err e) = Err (failure_stop w e)

abbrev pub answer : List TokenData → Result UnitData Stop
answer ts = answered (placed ts) (reading (placed ts))
