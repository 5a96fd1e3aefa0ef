-- What a statement does by itself where it stands, before its handlers.
use Rattle.std.specs.Prelude.{ℕ, List}
use Rattle.ec_ctypes.specs.trees.Types.{StructData}
use Rattle.ec_meaning_defs.specs.resolved.Resolved.{Exp}
use Rattle.ec_meaning_defs.specs.evaluation.State.{State}
use Rattle.ec_meaning_defs.specs.evaluation.Results.{Res, turn}
use Rattle.ec_meaning_defs.specs.evaluation.Evaluate.{World, Context, Step}
use Rattle.ec_call_defs.specs.Steps.{settled}
use Rattle.ec_direct_defs.specs.Places.{placed}
use Rattle.ec_direct_defs.specs.Statements.{Statement}
use Rattle.ec_direct_defs.specs.Executing.{statement_done}

-- its places, its turn, and what it does; its messages name this line
abbrev pub stepped_alone : Step → World → Context → List StructData → ℕ → Statement Exp → State
    → Res
stepped_alone step w c structs line x s =
    placed step w c x s (λ y s. turn s (λ s. settled c.line (statement_done structs line y s)))
