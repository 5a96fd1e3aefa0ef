-- A source and what is written of it mean the same: the same is asked, printed and left in every object, and both end the same.
use Rattle.std.specs.Prelude.{◌≡◌, ℕ, List, [], ◌∷◌, codes, Option, Some, None, Result, Ok, Err}
use Prim.Native.String.{String}
use Rattle.ec_base.specs.declared.stop.Stop.{Stop}
use Rattle.ec_ctypes.specs.trees.Checked.{TypedData}
use Rattle.ec_link.specs.declared.reply.Reply.{Reply}
use Rattle.ec_host_defs.specs.ReadSource.{checked_text}
use Rattle.ec_meaning_defs.specs.evaluation.State.{Answer}
use Rattle.ec_meaning_defs.specs.evaluation.Whole.{Observed}
use Rattle.ec_direct_defs.specs.Examples.{ready, answers, nothing_seen, means_over}
use Rattle.ec_direct_defs.specs.simulation.Written.{meaning_of_written}

abbrev pub written_of : ℕ → Option (ℕ × List ℕ) → List Answer → Result TypedData Stop → Observed
written_of turns first given (Ok t) = meaning_of_written t turns first given
written_of turns first given (Err stop) = nothing_seen

-- over these answers, and the slot and the name that are connected when the run begins, if there are such
abbrev pub AgreeOver : Option (ℕ × List ℕ) → List Answer → String → ℕ → Type 0
AgreeOver first given text turns =
    written_of turns first given (checked_text text) ≡ means_over first given text turns

abbrev pub Agree : String → ℕ → List Reply → Type 0
Agree text turns replies = AgreeOver ready (answers replies) text turns
