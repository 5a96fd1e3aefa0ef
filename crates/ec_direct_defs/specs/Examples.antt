-- Whole sources as examples write them, and what is seen of their runs.
use Rattle.std.specs.Prelude.{ℕ, List, [], ◌∷◌, codes, Option, Some, None, Result, Ok, Err}
use Prim.Native.String.{String}
use Rattle.ec_base.specs.declared.stop.Stop.{Stop}
use Rattle.ec_ctypes.specs.trees.Checked.{TypedData}
use Rattle.ec_link.specs.declared.logged.Logged.{Logged}
use Rattle.ec_link.specs.declared.reply.Reply.{Reply}
use Rattle.ec_link.specs.declared.request.Request.{Request}
use Rattle.ec_link.specs.declared.request.Request.TheVariants as request
use Rattle.ec_host_defs.specs.ReadSource.{checked_text}
use Rattle.ec_resolving_defs.specs.Programs.{stuck_program}
use Rattle.ec_meaning_defs.specs.evaluation.State.{Answer, Ending}
use Rattle.ec_meaning_defs.specs.evaluation.Whole.{Observed, program_meaning, without_atoms}
use Rattle.ec_call_defs.specs.Outcomes.{Text}
use Rattle.ec_direct_defs.specs.Direct.{direct_meaning}

-- slot 0 is connected when the run begins
abbrev pub ready : Option (ℕ × List ℕ)
ready = Some (0, codes "db")

-- these replies come over it
abbrev pub answers : List Reply → List Answer
answers [] = []
answers (r ∷ rs) = (Some 0, r) ∷ answers rs

-- what stands for a source that is refused
abbrev pub nothing_seen : Observed
nothing_seen = program_meaning without_atoms stuck_program 0 None []

abbrev pub direct_of : ℕ → Option (ℕ × List ℕ) → List Answer → Result TypedData Stop → Observed
direct_of turns first given (Ok t) = direct_meaning t turns first given
direct_of turns first given (Err stop) = nothing_seen

-- over these answers, and the slot and the name that are connected when the run begins, if there are such
abbrev pub means_over : Option (ℕ × List ℕ) → List Answer → String → ℕ → Observed
means_over first given text turns = direct_of turns first given (checked_text text)

abbrev pub means : String → ℕ → List Reply → Observed
means text turns replies = means_over ready (answers replies) text turns

-- ---- what is shown

-- the texts that are asked for, each with its parameters
abbrev pub asked_text : Request → Text × List (Option Text)
asked_text (request.Text text params) = (text, params)
asked_text _ = ([], [])

abbrev pub said : List Logged → List (Text × List (Option Text))
said [] = []
said (l ∷ ls) = asked_text l.request ∷ said ls

-- what is asked, what is printed, and how the run ends
pub record Shown : Type 0 where
  pub asked : List (Text × List (Option Text))
  pub output : Text
  pub ending : Ending

abbrev pub shown : Observed → Shown
shown o = record { asked = said o.conversation; output = o.output; ending = o.ending }

abbrev pub shows : String → ℕ → List Reply → Shown
shows text turns replies = shown (means text turns replies)

abbrev pub run : List (Text × List (Option Text)) → String → Ending → Shown
run asked output ending = record { asked = asked; output = codes output; ending = ending }

-- a text that is asked for without parameters
abbrev pub ask : String → Text × List (Option Text)
ask text = (codes text, [])
